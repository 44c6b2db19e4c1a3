use Rattle.std.proofs.Common.{◌≡◌, ℕ, ◌<◌, ◌≤◌, length, get_or, drop}
use Rattle.report_parts.specs.CountSteps.{add_to_lines, count_or_zero}
use Rattle.report_parts.proofs.counts.add_to_lines.Given as goal

abbrev pub invariant-loop-line : goal.invariant-loop-line
invariant-loop-line l = record {
  left : add_to_lines l.count l.others (drop l.line-index l.lines) l.counts ≡ add_to_lines l.count l.others l.lines l.initial.counts;
  fresh : (k : ℕ) → l.line-index ≤ k → k < length l.lines
      → count_or_zero l.counts (get_or l.lines k 0) ≡ count_or_zero l.initial.counts (get_or l.lines k 0);
}
