use Rattle.std.proofs.Common.{◌≡◌, ◌+◌, ◌≤◌, drop}
use Rattle.std.specs.List.{count_by}
use Rattle.report_parts.specs.Shown.{is_way_out}
use Rattle.report_parts.proofs.shown.ways_out.Given as goal

abbrev pub invariant-loop-arc : goal.invariant-loop-arc
invariant-loop-arc l = record {
  left : l.ways + count_by (is_way_out l.block) (drop l.arc-index l.arcs) ≡ count_by (is_way_out l.block) l.arcs;
  few : l.ways ≤ l.arc-index;
}
