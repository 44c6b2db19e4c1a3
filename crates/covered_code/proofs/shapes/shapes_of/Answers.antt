use Rattle.covered_code.proofs.MadeShapes.{made_step}
use Rattle.covered_code.proofs.shapes.shapes_of.Goals as goal

pub loop-graph-preserved : goal.loop-graph-preserved
loop-graph-preserved c =
    made_step c.args.limit c.args.graphs.now c.loop-graph.graph-index c.loop-graph.shapes.items c.push.new.self.items _
    c.graph-item.result c.loop-graph-test.true c.loop-graph.invariant c.graph-item.is c.in_ok-shape_of.ensures
    c.in_ok-push.ensures.items
