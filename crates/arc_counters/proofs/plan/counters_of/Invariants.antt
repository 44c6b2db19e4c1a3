use Rattle.std.proofs.Common.{◌≡◌, ◌≤◌, length, drop, ℕ, get_or, None}
use Rattle.arc_counters.specs.Plan.{counter_from}
use Rattle.arc_counters.proofs.plan.counters_of.Given as goal

abbrev pub invariant-loop-left : goal.invariant-loop-left
invariant-loop-left l = record {
  within : l.left ≤ length l.off;
  long : length l.counters.items ≡ l.arcs;
  counters : (i : ℕ) → get_or l.counters.items i None ≡ counter_from l.left (drop l.left l.off) i;
}

abbrev pub decreases-loop-left : goal.decreases-loop-left
decreases-loop-left l = l.left
