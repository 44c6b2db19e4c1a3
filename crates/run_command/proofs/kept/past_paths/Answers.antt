use Rattle.std.proofs.Common.{arith}
use Rattle.run_command.proofs.KeepLaws.{past_done}
use Rattle.run_command.proofs.kept.past_paths.Goals as goal

pub returns : goal.returns
returns c = past_done c.loop-k.k c.loop-k.k c.args.functions.now c.args.counts.now _
    (let e = c.min-count.ensures in let l = c.loop-k-test.false in omega (arith, e, l)) c.loop-k.invariant
