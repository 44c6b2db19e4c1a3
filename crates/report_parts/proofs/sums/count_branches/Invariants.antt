use Rattle.std.proofs.Common.{◌≡◌, ◌+◌, ◌≤◌, drop}
use Rattle.std.specs.List.{count_by}
use Rattle.report_parts.specs.Shown.{is_branch}
use Rattle.report_parts.proofs.sums.count_branches.Given as goal

abbrev pub invariant-loop-arc : goal.invariant-loop-arc
invariant-loop-arc l = record {
  left : l.branches + count_by (is_branch l.arcs) (drop l.arc-index l.arcs) ≡ count_by (is_branch l.arcs) l.arcs;
  few : l.branches ≤ l.arc-index;
}
