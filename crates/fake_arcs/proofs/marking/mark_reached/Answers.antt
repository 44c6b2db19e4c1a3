use Rattle.std.proofs.Common.{sym, ap, subst, ◌∙◌}
use Rattle.fake_arcs.specs.Marking.{goals_of, with_marks, AreReached}
use Rattle.fake_arcs.proofs.Worklist.{Marked, marked_first, marked_all, taken_within, taken_step}
use Rattle.fake_arcs.proofs.marking.mark_reached.Goals as goal

pub loop-place-init : goal.loop-place-init
loop-place-init c = subst (Marked c.args.blocks.now) (sym c.in_ok-marking.ensures) (marked_first c.args.blocks.now)

pub bounds-blocks-place : goal.bounds-blocks-place
bounds-blocks-place c = taken_within c.args.blocks.now c.loop-place.marking c.next.new.self.todo c.in-Some.place
    c.loop-place.invariant c.in-Some.ensures.todo

pub loop-place-smaller : goal.loop-place-smaller
loop-place-smaller c =
    (taken_step c.args.blocks.now c.loop-place.marking c.next.new.self c.mark_targets.new.self c.in-Some.place
    c.index-blocks-place.result c.loop-place.invariant c.in-Some.ensures.marks c.in-Some.ensures.todo
    c.index-blocks-place.is
    (c.in_ok-mark_targets.ensures.marked ∙ ap (λ b. with_marks (goals_of b.end) c.next.new.self) c.block.view_is)).1

pub loop-place-preserved : goal.loop-place-preserved
loop-place-preserved c =
    (taken_step c.args.blocks.now c.loop-place.marking c.next.new.self c.mark_targets.new.self c.in-Some.place
    c.index-blocks-place.result c.loop-place.invariant c.in-Some.ensures.marks c.in-Some.ensures.todo
    c.index-blocks-place.is
    (c.in_ok-mark_targets.ensures.marked ∙ ap (λ b. with_marks (goals_of b.end) c.next.new.self) c.block.view_is)).0

pub returns : goal.returns
returns c =
    subst (AreReached c.args.blocks.now) (sym (ap (λ m. m.marks) c.marking-2.view_is ∙ c.in_default.ensures.marks))
    (marked_all c.args.blocks.now c.loop-place.marking c.loop-place.invariant c.in_default.ensures.end)
