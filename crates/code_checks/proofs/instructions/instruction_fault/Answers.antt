use Rattle.std.proofs.Common.{◌∙◌, sym, ap, replicate, List}
use Rattle.code_runs.specs.Checks.{Led}
use Rattle.code_checks.specs.declared.depth_table.Arrival.{Arrival}
use Rattle.code_checks.specs.DepthTable.{leds}
use Rattle.code_checks.proofs.PassLaws.{none_yet}
use Rattle.code_checks.proofs.instructions.instruction_fault.Goals as goal

pub first_fault-requires-clause-table : goal.first_fault-requires-clause-table
first_fault-requires-clause-table c =
    ap (λ (t : List Arrival). leds t) (c.deref_mut.ensures.value ∙ c.in_ok-table.ensures.items_if_clones_equal (λ y e. e))
    ∙ (none_yet c.len.result ∙ ap (λ n. replicate n Led.Nothing) (c.len.ensures ∙ sym c.deref.ensures.len))
