use Rattle.std.proofs.Common.{pos}
use Rattle.stack_ops.specs.declared.operation.Op.TheVariants as op
use Rattle.code_checks.specs.DepthTable.{leds}
use Rattle.code_checks.specs.Seen.{rule_of}
use Rattle.code_checks.proofs.DepthLaws.{broken-here, goes-here}
use Rattle.code_checks.proofs.instructions.first_fault.Goals as goal

pub returns-in-Err-clause-value : goal.returns-in-Err-clause-value
returns-in-Err-clause-value c =
    let e = c.in-Err.ensures in
    broken-here c.args.code.now c.args.function.now c.loop-at.at c.loop-at.before c.args.ops.now (op.Push (pos 0))
    (leds c.loop-at.table) (rule_of c.in-Err.rule) c.loop-at-test.true c.loop-at.invariant e

pub loop-at-preserved : goal.loop-at-preserved
loop-at-preserved c =
    let e = c.in-Ok.ensures in
    goes-here c.args.code.now c.args.function.now c.loop-at.at c.loop-at.before c.args.ops.now (op.Push (pos 0))
    (leds c.loop-at.table) (leds c.pass.new.table) c.in-Ok.next c.loop-at-test.true c.loop-at.invariant e
