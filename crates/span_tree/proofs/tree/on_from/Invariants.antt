use Rattle.std.proofs.Common.{◌≡◌, ◌≤◌, length, drop}
use Rattle.span_tree.specs.Tables.{AreOn}
use Rattle.span_tree.proofs.tree.on_from.Given as goal

abbrev pub invariant-loop-left : goal.invariant-loop-left
invariant-loop-left l = record {
  within : l.left ≤ length l.came;
  long : length l.on.items ≡ l.arcs;
  on : AreOn (drop l.left l.came) l.on.items;
}

abbrev pub decreases-loop-left : goal.decreases-loop-left
decreases-loop-left l = l.left
