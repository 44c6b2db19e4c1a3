use Rattle.std.proofs.Common.{arith, ◌≡◌, List, true, None, sym, subst, ap, ◌∙◌, map}
use Rattle.std.specs.List.{All}
use Rattle.flow_graph.specs.Graph.{Graph, GraphUnit}
use Rattle.fake_arcs.specs.Tidy.{IsTidy}
use Rattle.stack_code.specs.Modes.{ShapeValue}
use Rattle.stack_code.specs.UnitCode.{tables_fault, unit_code}
use Rattle.covered_code.specs.Shapes.{AreMade}
use Rattle.covered_code.specs.UnitNotes.{function_of}
use Rattle.covered_code.proofs.CoveredRendering.{tidy, renders, covers}
use Rattle.covered_code.proofs.covered.covered_code.Goals as goal

pub shapes_of-requires-clause-tidy : goal.shapes_of-requires-clause-tidy
shapes_of-requires-clause-tidy c =
    subst (λ (gs : List Graph). All IsTidy gs)
    (sym (c.deref.ensures.value ∙ ap (λ (v : GraphUnit). v.graphs) c.unit.view_is)) (tidy c.in-Ok.ensures)

pub functions_of-requires : goal.functions_of-requires
functions_of-requires c =
    subst (λ (gs : List Graph). All IsTidy gs)
    (sym (c.deref-2.ensures.value ∙ ap (λ (v : GraphUnit). v.graphs) c.unit.view_is)) (tidy c.in-Ok.ensures)

pub returns-in-Ok-emit-clause-ok : goal.returns-in-Ok-emit-clause-ok
returns-in-Ok-emit-clause-ok c =
    let u = c.in-Ok.unit in
    let shapes = c.in-Ok-shapes_of.shapes.items in
    let graphs = ap (λ (v : GraphUnit). v.graphs) c.unit.view_is in
    let made : AreMade c.args.limit u.graphs shapes =
    subst (λ (gs : List Graph). AreMade c.args.limit gs shapes) (c.deref.ensures.value ∙ graphs)
    c.in-Ok-shapes_of.ensures in
    let same = c.deref-3.ensures.value in
    let code = c.in-Ok-emit.ensures.0 ∙ ap (λ (ss : List ShapeValue). unit_code true u ss c.stamp-mark.result) same
    ∙ ap (λ n. unit_code true u shapes n) c.stamp-mark.ensures in
    let fine : tables_fault true shapes ≡ None =
    subst (λ (ss : List ShapeValue). tables_fault true ss ≡ None) same c.in-Ok-emit.ensures.1 in
    covers c.stamp-mark.result (omega arith) c.requires.length c.requires.limit c.in-Ok.ensures
    (renders shapes c.orderly.ensures.pruned c.orderly.ensures.limits c.emission.ensures.covered
    c.emission.ensures.emits c.emission.ensures.follows c.walks_counted.ensures.closed c.requires.limit
    c.in-Ok.ensures made code fine) c.stamp-mark.ensures
    (c.in-Ok-functions_of.ensures.value ∙ ap (map function_of) (c.deref-2.ensures.value ∙ graphs))
    c.in-Ok-functions_of.ensures.words
