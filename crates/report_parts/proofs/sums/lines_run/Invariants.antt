use Rattle.std.proofs.Common.{◌≡◌, ◌+◌, ◌-◌, ◌≤◌}
use Rattle.std.specs.List.{count_by}
use Rattle.prime_paths.specs.Lister.{numbers}
use Rattle.report_parts.specs.CountSteps.{count_at}
use Rattle.report_parts.specs.Summary.{is_run, lines_with}
use Rattle.report_parts.proofs.sums.lines_run.Given as goal

abbrev pub invariant-loop-line : goal.invariant-loop-line
invariant-loop-line l = record {
  left : l.run + count_by (λ line. is_run (count_at l.counts line)) (numbers l.line (l.lines + 1 - l.line))
      ≡ lines_with is_run (count_at l.counts) l.lines;
  few : l.run ≤ l.line;
}
