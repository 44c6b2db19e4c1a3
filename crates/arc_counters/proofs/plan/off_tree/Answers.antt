use Rattle.std.proofs.Common.{ap, true, false, ◌∙◌}
use Rattle.arc_counters.proofs.OffLaws.{off_step}
use Rattle.arc_counters.proofs.plan.off_tree.Goals as goal
use Rattle.arc_counters.proofs.plan.off_tree.Goals.{then-not-on_tree+in_ok-push, else-not-on_tree}

pub loop-arc-preserved : goal.loop-arc-preserved
loop-arc-preserved c =
    elim c.if-not-on_tree.branch [
      | then-not-on_tree+in_ok-push w ↦ off_step c.args.tree.now c.loop-arc.arc c.args.arcs c.loop-arc.off.items
          c.if-not-on_tree.off.items _ false c.loop-arc-test.true w.if-not-on_tree.ensures
          (ap (λ v. v.items) w.off-is ∙ w.in_ok-push.ensures.items) c.loop-arc.invariant
      | else-not-on_tree w ↦ off_step c.args.tree.now c.loop-arc.arc c.args.arcs c.loop-arc.off.items
          c.if-not-on_tree.off.items _ true c.loop-arc-test.true w.if-not-on_tree.ensures (ap (λ v. v.items) w.off-is)
          c.loop-arc.invariant
    ]
