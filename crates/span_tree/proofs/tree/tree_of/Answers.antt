use Rattle.std.proofs.Common.{◌≡◌, sym, subst, ◌∙◌}
use Rattle.span_tree.specs.Spanning.{Spans}
use Rattle.span_tree.proofs.Laws.{arrivals_span}
use Rattle.span_tree.proofs.Tables.{came_blocks, came_links}
use Rattle.span_tree.proofs.tree.tree_of.Goals as goal

pub links_from-requires : goal.links_from-requires
links_from-requires c = came_blocks c.args.net.now c.deref-2.result.now c.blocks-blocks.result c.arcs-arcs.ensures.net
    (c.deref-2.ensures.value ∙ c.in_ok-came.ensures) c.blocks-blocks.ensures.value

pub on_from-requires : goal.on_from-requires
on_from-requires c = came_links c.args.net.now c.deref-3.result.now c.arcs-arcs.result.now c.arcs-arcs.ensures.net
    (c.deref-3.ensures.value ∙ c.in_ok-came.ensures) c.arcs-arcs.ensures.value

pub returns-clause-spans : goal.returns-clause-spans
returns-clause-spans c =
    subst (Spans c.args.net.now) (sym c.in_ok-came.ensures) (arrivals_span c.args.net.now c.arcs-arcs.ensures.net)
