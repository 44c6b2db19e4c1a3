use Rattle.std.proofs.Common.{rules}
use Rattle.span_tree.proofs.Marks.{look_step}
use Rattle.span_tree.proofs.arriving.Arriving.look_at.Goals as goal

pub loop-index-preserved : goal.loop-index-preserved
loop-index-preserved c = record {
  there = look_step c.args.arcs.now c.args.block c.args.indices.now c.loop-index.index-index _ c.loop-index.self.there
      _ _ c.loop-index-test.true
      (c.requires.indices c.loop-index.index-index 0 c.loop-index-test.true) c.in_ok-look.ensures.there
      c.loop-index.invariant.there;
  room = search rules;
}
