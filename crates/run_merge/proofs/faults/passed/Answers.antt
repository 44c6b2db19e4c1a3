use Rattle.std.proofs.Common.{arith}
use Rattle.run_merge.proofs.FaultLaws.{passed_done}
use Rattle.run_merge.proofs.faults.passed.Goals as goal

pub returns : goal.returns
returns c = passed_done c.loop-counter.counter c.loop-counter.counter c.args.old.now c.args.run.now _
    (let e = c.min-count.ensures in let l = c.loop-counter-test.false in omega (arith, e, l)) c.loop-counter.invariant
