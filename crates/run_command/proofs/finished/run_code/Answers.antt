use Rattle.std.proofs.Common.{◌≡◌, None, ap, sym, subst}
use Rattle.code_runs.specs.CodeChecks.{code_fault}
use Rattle.stack_machine.specs.Machine.{MachineValue}
use Rattle.run_merge.specs.Merging.{HasFew}
use Rattle.run_counts.proofs.MergeLaws.{run_few}
use Rattle.run_counts.proofs.RunLaws.{data_is}
use Rattle.run_command.proofs.finished.run_code.Goals as goal

pub returns-clause-few : goal.returns-clause-few
returns-clause-few c =
    let code = c.in_ok-machine.machine.code in
    let h = c.run-ending.ensures.ran in
    let same : code ≡ c.args.code = ap (λ (m : MachineValue). m.code) c.in_ok-machine.ensures in
    let checked : code_fault code ≡ None = subst (λ x. code_fault x ≡ None) (sym same) c.requires.checked in
    subst HasFew (sym (data_is code h.0 c.run-ending.new.self c.run-ending.result c.run-ending.ensures.code h.2))
    (run_few code checked c.args.input.now c.in_ok-machine.machine.turns h.0 h.1)
