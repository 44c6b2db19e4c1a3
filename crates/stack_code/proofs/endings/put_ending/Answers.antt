use Rattle.std.proofs.Common.{◌+◌, ◌<◌, sym, subst, suc, length, map, List, arith}
use Rattle.std.specs.Prelude.{ℤ, ℕ}
use Rattle.flow_graph.specs.GraphView.{ending_view}
use Rattle.stack_code.specs.Laying.{goals, stubs, end_code}
use Rattle.stack_code.specs.Modes.{shape_marks}
use Rattle.stack_code.specs.Places.{place_in}
use Rattle.stack_code.proofs.LaidLaws.{switch_size, size_stubs}
use Rattle.stack_code.proofs.endings.put_ending.Goals as goal

pub put_switch-requires : goal.put_switch-requires
put_switch-requires c =
    let m = shape_marks c.args.marks.now c.args.from in
    let s = place_in c.args.starts.now.places.items c.args.starts.now.end in
    let at : ℕ = length c.args.ops.now.items in
    let cases : List (ℤ × ℕ) = map (λ (c : ℤ × ℕ). (c.0, c.1)) c.in-Switch.cases.items in
    let d : ℕ = c.in-Switch.default in
    let all = switch_size m s (at + length cases + 1 + (length (m d) + 1)) cases d in
    let same = size_stubs m s (λ x. 0) (goals cases) in
    let small = subst (λ e. at + length (end_code m (suc c.args.from) s at (ending_view e)) < 4294967296)
    c.in-Switch.is c.requires.small in
    subst (λ (l : List (ℤ × ℕ)). at + (length (map (λ (c : ℤ × ℕ). (c.0, c.1)) l)
    + suc (length (m d) + 1 + length (stubs m (λ x. 0) (goals (map (λ (c : ℤ × ℕ). (c.0, c.1)) l))))) < 4294967296)
    (sym c.deref.ensures.value) (omega (arith, all, same, small))
