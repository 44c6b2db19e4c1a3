use Rattle.std.proofs.Common.{◌≡◌, ◌∙◌, ℕ, List, sym, ap, subst, Some}
use Rattle.std.specs.Prelude.{slice_get}
use Rattle.std.specs.List.{All}
use Rattle.stack_ops.specs.Code.{CodeValue, FunctionValue}
use Rattle.stack_machine.specs.Held.{RowsStart}
use Rattle.stack_machine.specs.Tables.{TableFits, StartsAt}
use Rattle.stack_machine.proofs.BeginLaws.{zero-sized, rests}
use Rattle.stack_machine.proofs.CodeFacts.{CodeFacts, facts, all-of}
use Rattle.stack_machine.proofs.machine.Machine.new.Goals as goal

pub row_starts-requires : goal.row_starts-requires
row_starts-requires c =
    let code : CodeValue = c.args.code in
    let known : CodeFacts code = facts code c.requires.checked in
    let is = c.deref.ensures.value ∙ ap (λ (v : CodeValue). v.functions) c.code.view_is in
    subst (λ (fs : List FunctionValue). All TableFits fs) (sym is)
    (all-of TableFits code.functions (λ i f at. (known.functions i f at).table))

pub invariant_of-result : goal.invariant_of-result
invariant_of-result c =
    let code : CodeValue = c.args.code in
    let is = c.deref.ensures.value ∙ ap (λ (v : CodeValue). v.functions) c.code.view_is in
    let starts : RowsStart code c.in_ok-rows.rows.items =
    subst (λ (fs : List FunctionValue). (i : ℕ) (f : FunctionValue) → slice_get fs i ≡ Some f
    → (starts : List ℕ) × (slice_get c.in_ok-rows.rows.items i ≡ Some starts) × StartsAt f starts) is
    c.in_ok-rows.ensures in
    record {
      checked = c.requires.checked;
      few = c.requires.turns;
      rows_start = starts;
      roomy = c.in_ok-run.ensures.roomy;
      globals = c.in_ok-run.ensures.globals;
      sized = zero-sized code c.in_ok-run.run'.counts.items c.in_ok-run.ensures.counts;
      output = c.in_ok-output.ensures.capacity;
    }

pub returns : goal.returns
returns c = rests c.args.code c.args.turns c.in_ok-output.output.items c.in_ok-run.run'.counts.items
    c.in_ok-output.ensures.items c.in_ok-run.ensures.counts
