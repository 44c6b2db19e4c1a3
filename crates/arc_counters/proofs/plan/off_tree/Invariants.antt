use Rattle.std.proofs.Common.{◌≡◌, ◌++◌, ◌-◌}
use Rattle.span_tree.specs.Tree.{off_from}
use Rattle.arc_counters.proofs.plan.off_tree.Given as goal

abbrev pub invariant-loop-arc : goal.invariant-loop-arc
invariant-loop-arc l = l.off.items ++ off_from l.tree l.arc (l.arcs - l.arc) ≡ off_from l.tree 0 l.arcs
