use Rattle.std.proofs.Common.{◌≡◌, drop}
use Rattle.report_parts.specs.CountSteps.{begin_lines}
use Rattle.report_parts.proofs.counts.begin_lines.Given as goal

abbrev pub invariant-loop-line : goal.invariant-loop-line
invariant-loop-line l = begin_lines (drop l.line-index l.lines) l.counts ≡ begin_lines l.lines l.initial.counts
