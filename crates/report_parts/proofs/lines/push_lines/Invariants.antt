use Rattle.std.proofs.Common.{◌≡◌, ◌+◌, ◌++◌, length}
use Rattle.report_parts.specs.Lines.{report_lines, lines_in}
use Rattle.report_parts.specs.CountSteps.{count_at}
use Rattle.report_parts.proofs.lines.push_lines.Given as goal

-- what stands there and the lines that are left make the whole text, and the numbers stay small
abbrev pub invariant-loop-rest : goal.invariant-loop-rest
invariant-loop-rest l = record {
  whole : l.out.items ++ report_lines (count_at l.counts) l.number (lines_in l.rest)
      ≡ l.initial.out.items ++ report_lines (count_at l.counts) 1 (lines_in l.source);
  small : l.number + length (lines_in l.rest) ≡ 1 + length (lines_in l.source);
}

-- what is left gets shorter
abbrev pub decreases-loop-rest : goal.decreases-loop-rest
decreases-loop-rest l = length l.rest
