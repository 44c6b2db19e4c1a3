use Rattle.run_merge.proofs.FaultLaws.{shape_more}
use Rattle.run_merge.proofs.faults.other_shape.Goals as goal

pub returns-then-run-old : goal.returns-then-run-old
returns-then-run-old c = shape_more c.loop-number.number c.args.old.now c.args.run.now _ c.loop-number-test.false
    c.loop-number.auto.number-end c.if-run-old.true c.loop-number.invariant.rest
