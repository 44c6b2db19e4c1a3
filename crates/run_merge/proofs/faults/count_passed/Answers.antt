use Rattle.std.proofs.Common.{arith}
use Rattle.run_merge.proofs.FaultLaws.{count_done}
use Rattle.run_merge.proofs.faults.count_passed.Goals as goal

pub returns : goal.returns
returns c = count_done c.loop-number.number c.loop-number.number c.args.old.now c.args.run.now _
    (let e = c.min-count.ensures in let l = c.loop-number-test.false in omega (arith, e, l)) c.loop-number.invariant
