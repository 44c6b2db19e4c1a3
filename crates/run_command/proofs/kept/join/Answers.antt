use Rattle.std.proofs.Common.{◌≤◌, length, arith}
use Rattle.run_counts.proofs.FewLaws.{code_few}
use Rattle.run_command.proofs.kept.join.Goals as goal

pub merge_closed-requires-clause-functions : goal.merge_closed-requires-clause-functions
merge_closed-requires-clause-functions c =
    let code = c.args.finished.now.machine.code in
    let few : length code.functions ≤ 1048576 = (code_few code c.requires.checked).0 in
    omega (arith, few)
