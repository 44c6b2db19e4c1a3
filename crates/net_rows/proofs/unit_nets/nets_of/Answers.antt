use Rattle.std.proofs.Common.{◌≡◌, ◌∙◌, ap}
use Rattle.net_rows.proofs.MadeLaws.{graphs_are_made, tidy_at}
use Rattle.net_rows.proofs.unit_nets.nets_of.Goals as goal

pub net_of-requires : goal.net_of-requires
net_of-requires c =
    tidy_at c.in_ok-pruned.pruned.graphs c.deref-graph-items.result.now c.loop-graph.graph-index c.graph-item.result
    (c.in_ok-pruned.ensures.tidy (graphs_are_made c.args.unit.now.graphs c.requires.made))
    (c.deref-graph-items.ensures.value ∙ ap (λ u. u.graphs) c.pruned.view_is) c.loop-graph-test.true c.graph-item.is
