use Rattle.std.proofs.Common.{get_or, ◌∙◌}
use Rattle.cov_base.specs.declared.net.ArcKind.TheVariants.{Real}
use Rattle.flow_solver.proofs.Links.{links_within}
use Rattle.flow_solver.proofs.Steps.{spread_step, step_small, step_counts}
use Rattle.flow_solver.proofs.solver.spread.Goals as goal

pub put_first-left-requires-clause-links : goal.put_first-left-requires-clause-links
put_first-left-requires-clause-links c = links_within c.args.net.now c.args.tree.now _ c.arcs-arcs.ensures.net
    c.requires.tree (c.loop-index.auto.out ∙ c.requires.places)

pub loop-index-preserved : goal.loop-index-preserved
loop-index-preserved c = record {
  rest = spread_step c.args.tree.now c.loop-index.index c.arcs-arcs.result.now _ c.loop-index.left.now _
      c.loop-index.out _
      _ c.loop-index-test.true c.put_first-left.ensures.left c.put_first-left.ensures.numbers
      c.loop-index.invariant.rest;
  small = step_small c.args.tree.now c.loop-index.index
      (get_or c.arcs-arcs.result.now c.loop-index.index (record { from = 0; to = 0; kind = Real }))
      c.loop-index.left.now c.loop-index.out _
      c.put_first-left.ensures.numbers c.loop-index.invariant.counts c.loop-index.invariant.small;
  counts = step_counts c.args.tree.now c.loop-index.index c.loop-index.left.now _ c.put_first-left.ensures.left
      c.loop-index.invariant.counts;
}
