use Rattle.std.proofs.Common.{◌≤◌, length, arith}
use Rattle.file_commands.proofs.UnrunLaws.{unrun_all}
use Rattle.file_commands.proofs.empty.all_unrun.Goals as goal

pub returns : goal.returns
returns c =
    let past : length c.args.functions.now ≤ c.loop-function.function-index =
    omega (arith, c.loop-function-test.false) in
    unrun_all c.args.limit c.loop-function.function-index c.args.functions.now c.loop-function.tallies.items past
    c.loop-function.invariant
