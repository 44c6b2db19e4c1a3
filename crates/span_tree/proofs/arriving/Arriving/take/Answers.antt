use Rattle.span_tree.proofs.Marks.{touching_below, taken_all}
use Rattle.span_tree.proofs.arriving.Arriving.take.Goals as goal

pub look_at-requires-clause-indices : goal.look_at-requires-clause-indices
look_at-requires-clause-indices c = touching_below c.args.block c.args.arcs.now c.args.indices.now c.requires.indices

pub returns-clause-there : goal.returns-clause-there
returns-clause-there c =
    taken_all c.args.arcs.now c.args.block c.args.indices.now c.args.self.now.there _ _ c.requires.indices
    c.in_ok-take_unwritten.ensures.there c.in_ok-look_at.ensures.there
