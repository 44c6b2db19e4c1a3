use Rattle.std.proofs.Common.{◌+◌, ◌*◌, ◌≤◌, [], ◌∷◌, ◌++◌, sym, ap, subst, ◌∙◌, length, arith}
use Rattle.flow_graph.specs.Nets.{blocks_size, net_of}
use Rattle.stack_code.specs.Modes.{shape_of}
use Rattle.stack_code.specs.UnitCode.{function_code}
use Rattle.stack_code.proofs.UnitLaws.{graph_fits, functions_step}
use Rattle.stack_code.proofs.units.functions_of.Goals as goal

pub function_of-requires : goal.function_of-requires
function_of-requires c =
    let fits = graph_fits c.args.graphs.now c.index-graphs-number.result c.loop-number.number c.loop-number-test.true in
    let small = c.requires in
    subst (λ g. blocks_size g.blocks + 8 * length ((net_of g).arcs) ≤ 1048576) (sym c.index-graphs-number.is)
    (omega (arith, fits, small))

pub loop-number-preserved : goal.loop-number-preserved
loop-number-preserved c =
    functions_step c.args.covered c.args.graphs.now c.args.shapes.now c.args.graphs.now c.index-graphs-number.result
    c.loop-number.number (c.loop-number.number + 1) c.loop-number.functions.items c.push.new.self.items _
    c.loop-number-test.true (omega arith)
    (c.in_ok-push.ensures.items
    ∙ ap (λ f. c.loop-number.functions.items ++ f ∷ [])
    (c.in_ok-function_of.ensures
    ∙ ap (λ o. function_code c.args.graphs.now c.index-graphs-number.result o) c.of-marks.ensures
    ∙ ap (λ g. function_code c.args.graphs.now g (shape_of c.args.covered c.args.shapes.now c.loop-number.number))
    c.index-graphs-number.is))
    c.loop-number.invariant
