use Rattle.std.proofs.Common.{◌≡◌, ◌≤◌, ◌-◌, length, drop}
use Rattle.path_masks.specs.UnderWay.{has_move}
use Rattle.path_masks.proofs.path_test.has_move.Given as goal

abbrev pub invariant-loop-at : goal.invariant-loop-at
invariant-loop-at l = record {
  low : 1 ≤ l.at;
  told : has_move l.from l.to (drop (l.at - 1) l.path) ≡ has_move l.from l.to l.path;
}

abbrev pub decreases-loop-at : goal.decreases-loop-at
decreases-loop-at l = length l.path - l.at
