use Rattle.std.proofs.Common.{arith}
use Rattle.span_tree.proofs.Marks.{touched_step}
use Rattle.span_tree.proofs.touching.touching_of.Goals as goal

pub loop-arc-preserved : goal.loop-arc-preserved
loop-arc-preserved c = record {
  index = (let h = c.loop-arc.invariant.index in omega (arith, h));
  rows = touched_step c.args.blocks c.loop-arc.index c.args.arcs.now c.args.arcs.now c.loop-arc.arc-index _
      c.loop-arc.touching c.put_ends.new.self c.loop-arc-test.true c.loop-arc.invariant.rows
      c.in_ok-put_ends.ensures.put c.put_ends.ensures.len;
}
