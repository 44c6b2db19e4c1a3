use Rattle.std.proofs.Common.{◌≤◌, length, arith}
use Rattle.run_counts.proofs.FewLaws.{code_few}
use Rattle.run_counts.proofs.whole_data.run_data.Goals as goal

pub last_data-requires : goal.last_data-requires
last_data-requires c =
    let few : length c.args.machine.now.code.functions ≤ 1048576 = (code_few c.args.machine.now.code c.requires).0 in
    omega (arith, few)
