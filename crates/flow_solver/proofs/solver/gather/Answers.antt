use Rattle.std.proofs.Common.{◌∙◌}
use Rattle.flow_solver.proofs.Links.{links_within}
use Rattle.flow_solver.proofs.Steps.{gather_small}
use Rattle.flow_solver.proofs.solver.gather.Goals as goal

pub settle-requires-clause-links : goal.settle-requires-clause-links
settle-requires-clause-links c = links_within c.args.net.now c.args.tree.now _ c.arcs-arcs.ensures.net
    c.requires.tree (c.loop-left.auto.out ∙ c.requires.places)

pub settle-requires-clause-small : goal.settle-requires-clause-small
settle-requires-clause-small c = gather_small c.args.net.now c.args.tree.now c.arcs-arcs.result.now
    c.order-order.result.now c.args.out.now _ c.loop-left.left c.arcs-arcs.ensures.net c.requires.tree
    c.arcs-arcs.ensures.value c.order-order.ensures c.requires.places c.requires.small c.loop-left.invariant.rest
