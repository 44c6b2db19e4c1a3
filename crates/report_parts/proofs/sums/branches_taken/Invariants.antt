use Rattle.std.proofs.Common.{◌≡◌, ◌+◌, ◌≤◌, drop}
use Rattle.report_parts.specs.Summary.{taken}
use Rattle.report_parts.proofs.sums.branches_taken.Given as goal

abbrev pub invariant-loop-index : goal.invariant-loop-index
invariant-loop-index l = record {
  left : l.taken + taken l.arcs (drop l.index l.arcs) (drop l.index l.counts) ≡ taken l.arcs l.arcs l.counts;
  few : l.taken ≤ l.index;
}
