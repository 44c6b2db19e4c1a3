use Rattle.std.proofs.Common.{◌+◌, ◌<◌, sym, ap, subst, length, drop, List, ℕ, arith}
use Rattle.stack_code.specs.Laying.{stubs}
use Rattle.stack_code.specs.Modes.{shape_marks}
use Rattle.stack_code.proofs.StubLaws.{ends_step, ends_long}
use Rattle.stack_code.proofs.switches.Stubs.of.Goals as goal

pub overflow_add-end : goal.overflow_add-end
overflow_add-end c =
    let m = shape_marks c.args.marks.now c.args.from in
    let ts : List ℕ = c.deref-goal-items.result.now in
    let p : ℕ = c.loop-goal.end + c.size_of_stub-end.result in
    let next = ends_step m ts _ c.loop-goal.goal-index c.loop-goal.end p _ c.loop-goal-test.true
    (ap (λ n. c.loop-goal.end + n) c.size_of_stub-end.ensures) c.loop-goal.invariant.ends in
    let long = ends_long m p (drop (c.loop-goal.goal-index + 1) ts) in
    let whole = ends_long m c.args.first ts in
    let small = subst (λ (l : List ℕ). c.args.first + length (stubs m (λ x. 0) l) < 4294967296)
    (sym c.deref-goal-items.ensures.value) c.requires in
    omega (arith, next, long, whole, small)
