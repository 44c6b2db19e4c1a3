use Rattle.std.proofs.Common.{◌≡◌, true, not}
use Rattle.std.specs.List.{count_by}
use Rattle.cov_base.specs.Reach.{is_marked, IsSound}
use Rattle.cov_base.proofs.reach.mark_reached.Given as goal

abbrev pub invariant-loop : goal.invariant-loop
invariant-loop l = record {
  sound : IsSound l.arcs l.marks;
  start : is_marked l.marks 2 ≡ true;
}

abbrev pub decreases-loop : goal.decreases-loop
decreases-loop l = count_by not l.marks
