use Rattle.std.proofs.Common.{arith}
use Rattle.flow_solver.proofs.Steps.{settle_into, settle_out}
use Rattle.flow_solver.proofs.solver.settle.Goals as goal

pub returns-then-arc-block : goal.returns-then-arc-block
returns-then-arc-block c = settle_into c.args.arcs.now c.args.tree.now c.args.block c.in-Some.index _ c.args.out.now _
    c.in-Some.ensures (c.requires.links c.args.block) c.requires.places c.requires.small c.if-arc-block.true
    c.add_at.ensures

pub returns-else-arc-block : goal.returns-else-arc-block
returns-else-arc-block c = settle_out c.args.arcs.now c.args.tree.now c.args.block c.in-Some.index _ c.args.out.now _
    c.in-Some.ensures (c.requires.links c.args.block) c.requires.places c.requires.small c.if-arc-block.false
    c.add_at-else-arc-block.ensures
