use Rattle.std.proofs.Common.{◌∙◌, sym, ap, Some}
use Rattle.code_checks.specs.declared.rules.RuleFault.{RuleFault}
use Rattle.code_checks.specs.Seen.{placed}
use Rattle.code_checks.proofs.TableLaws.{end_left}
use Rattle.code_checks.proofs.tables.end_fault.Goals as goal

pub returns-then-at-table : goal.returns-then-at-table
returns-then-at-table c =
    ap (λ (f : RuleFault). Some (placed f)) c.row_fault.ensures ∙ sym (end_left c.args.at c.args.table.now c.if-at-table.true)
