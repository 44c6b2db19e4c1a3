use Rattle.std.proofs.Common.{◌≡◌, ◌≤◌, length, drop}
use Rattle.span_tree.specs.Tables.{AreLinks}
use Rattle.span_tree.proofs.tree.links_from.Given as goal

abbrev pub invariant-loop-left : goal.invariant-loop-left
invariant-loop-left l = record {
  within : l.left ≤ length l.came;
  long : length l.links.items ≡ l.blocks;
  links : AreLinks (drop l.left l.came) l.links.items;
}

abbrev pub decreases-loop-left : goal.decreases-loop-left
decreases-loop-left l = l.left
