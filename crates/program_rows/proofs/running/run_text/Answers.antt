use Rattle.std.proofs.Common.{sym, subst, ◌∙◌}
use Rattle.code_runs.specs.CodeRun.{Ran, CodeRun}
use Rattle.stack_machine.specs.Machine.{MachineValue, Shows}
use Rattle.program_rows.specs.RunText.{IsRunOf}
use Rattle.program_rows.proofs.RunLaws.{runs}
use Rattle.program_rows.proofs.running.run_text.Goals as goal

pub returns-clause-ok : goal.returns-clause-ok
returns-clause-ok c =
    subst (λ put. IsRunOf c.args.text.now c.args.turns c.args.input.now put c.run-outcome.result)
    (sym (c.in_ok-output.ensures.items ∙ c.output.ensures)) (runs c.in_ok-code.ensures shown)
  where
    shown : (ran : Ran) → CodeRun c.in_ok-code.code c.args.input.now c.args.turns ran
        → Shows ran c.run-outcome.result c.run-outcome.new.self
    shown ran comes =
        c.run-outcome.ensures.only ran
        (subst (λ (m : MachineValue). CodeRun m.code c.args.input.now m.turns ran) (sym c.in-Ok.ensures) comes)
