use Rattle.std.proofs.Common.{◌<◌, ◌≤◌, length, drop}
use Rattle.c_tree.specs.Sound.{Each}
use Rattle.flow_graph.proofs.lines.find.Given as goal

abbrev pub invariant-loop-at : goal.invariant-loop-at
invariant-loop-at l = record {
  within : l.at ≤ length l.lines;
  above : Each (λ m. l.line < m) (drop l.at l.lines);
}

abbrev pub decreases-loop-at : goal.decreases-loop-at
decreases-loop-at l = l.at
