use Rattle.std.proofs.Common.{◌+◌, ◌*◌, ◌++◌, ◌<◌, ◌≤◌, sym, ap, subst, ◌∙◌, ℕ, List, length, length-append, arith}
use Rattle.stack_ops.specs.declared.operation.Op.{Op}
use Rattle.flow_graph.specs.Graph.{Block, Graph}
use Rattle.flow_graph.specs.Nets.{blocks_size, net_of}
use Rattle.stack_code.specs.Laws.{AreShort}
use Rattle.stack_code.specs.Laying.{codes, starts, start_of}
use Rattle.stack_code.specs.Modes.{shape_marks}
use Rattle.stack_code.specs.Places.{place_in}
use Rattle.stack_code.proofs.ArcMarks.{shape_short}
use Rattle.stack_code.proofs.Sizes.{graph_short}
use Rattle.stack_code.proofs.StartLaws.{end_of, end_found, codes_reach}
use Rattle.stack_code.proofs.UnitLaws.{few_blocks}
use Rattle.stack_code.proofs.blocks.graph_code.Goals as goal

-- the code of a graph ends within the limit
reach : (m : ℕ → ℕ → List Op) → AreShort m → (g : Graph)
    → end_of m 2 (length (m 0 2)) g.blocks ≤ blocks_size g.blocks + 8 * length ((net_of g).arcs)
reach m short g =
    let all = graph_short m short g in
    let n = length-append (m 0 2) (codes m (starts m g) 2 (length (m 0 2)) g.blocks) in
    let end = codes_reach m (starts m g) 2 (length (m 0 2)) g.blocks in
    omega (arith, all, n, end)

few : (g : Graph) → blocks_size g.blocks + 8 * length ((net_of g).arcs) < 2147483648
    → length g.blocks < 2147483646
few g small = let n = few_blocks g.blocks in omega (arith, n, small)

pub starts_of-requires-clause-few : goal.starts_of-requires-clause-few
starts_of-requires-clause-few c =
    subst (λ (l : List Block). length l < 2147483646)
    (sym (c.deref.ensures.value ∙ ap (λ (g : Graph). g.blocks) c.graph.view_is)) (few c.args.graph.now c.requires)

pub put_blocks-requires-clause-few : goal.put_blocks-requires-clause-few
put_blocks-requires-clause-few c =
    subst (λ (l : List Block). length l < 2147483646)
    (sym (c.deref-2.ensures.value ∙ ap (λ (g : Graph). g.blocks) c.graph.view_is)) (few c.args.graph.now c.requires)

pub starts_of-requires-clause-small : goal.starts_of-requires-clause-small
starts_of-requires-clause-small c =
    let m = shape_marks c.args.marks.now in
    let far = reach m (λ a b. (let n = shape_short c.args.marks.now a b in omega (arith, n))) c.args.graph.now in
    let small = c.requires in
    let e = end_found m (length (m 0 2)) c.args.graph.now.blocks in
    subst (λ (l : List Block). start_of m 2 (length (m 0 2)) l 0 < 4294967296)
    (sym (c.deref.ensures.value ∙ ap (λ (g : Graph). g.blocks) c.graph.view_is)) (omega (arith, far, small, e))

pub put_blocks-requires-clause-small : goal.put_blocks-requires-clause-small
put_blocks-requires-clause-small c =
    let m = shape_marks c.args.marks.now in
    let s = place_in c.in_ok-starts.starts.places.items c.in_ok-starts.starts.end in
    let far = reach m (λ a b. (let n = shape_short c.args.marks.now a b in omega (arith, n))) c.args.graph.now in
    let small = c.requires in
    let first = ap (λ (l : List Op). length l) (c.in_ok-put.ensures ∙ ap (λ (l : List Op). l ++ m 0 2)
    c.new-ops.ensures.items) in
    let end = codes_reach m s 2 (length (m 0 2)) c.args.graph.now.blocks in
    subst (λ (l : List Block). length c.put.new.ops.items + length (codes m s 2 (length c.put.new.ops.items) l)
    < 4294967296) (sym (c.deref-2.ensures.value ∙ ap (λ (g : Graph). g.blocks) c.graph.view_is))
    (subst (λ (n : ℕ). n + length (codes m s 2 n c.args.graph.now.blocks) < 4294967296) (sym first)
    (omega (arith, far, small, end)))
