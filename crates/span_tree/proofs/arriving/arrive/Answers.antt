use Rattle.std.proofs.Common.{◌∙◌}
use Rattle.span_tree.proofs.Marks.{ends_below, blocks_step}
use Rattle.span_tree.proofs.arriving.arrive.Goals as goal

pub touching_of-requires-clause-ends : goal.touching_of-requires-clause-ends
touching_of-requires-clause-ends c = ends_below c.args.net.now c.blocks-blocks.result c.arcs-arcs.result.now
    c.arcs-arcs.ensures.net c.blocks-blocks.ensures.value c.arcs-arcs.ensures.value

pub take_at-requires-clause-ends : goal.take_at-requires-clause-ends
take_at-requires-clause-ends c =
    ends_below c.args.net.now c.loop-place.arriving.room c.arcs-arcs.result.now c.arcs-arcs.ensures.net
    (c.loop-place.invariant.room ∙ c.blocks-blocks.ensures.value) c.arcs-arcs.ensures.value

pub loop-place-preserved : goal.loop-place-preserved
loop-place-preserved c = record {
  room = c.take_at.ensures.room ∙ c.loop-place.invariant.room;
  rest = blocks_step c.arcs-arcs.result.now c.blocks-blocks.result c.loop-place.place c.loop-place.arriving.there
      c.take_at.new.self.there _ c.loop-place-test.true c.loop-place.invariant.rest c.in_ok-take_at.ensures.there;
}
