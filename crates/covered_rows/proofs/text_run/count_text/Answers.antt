use Rattle.std.proofs.Common.{sym, subst}
use Rattle.code_runs.specs.CodeRun.{CodeRun}
use Rattle.stack_machine.specs.Machine.{MachineValue}
use Rattle.covered_rows.proofs.CountLaws.{counts}
use Rattle.covered_rows.proofs.text_run.count_text.Goals as goal

pub returns-clause-ok : goal.returns-clause-ok
returns-clause-ok c =
    counts c.in_ok-covered.ensures.ok.renders (λ ran comes. c.run-outcome.ensures.only ran
    (subst (λ (m : MachineValue). CodeRun m.code c.args.input.now m.turns ran) (sym c.in-Ok.ensures) comes))
