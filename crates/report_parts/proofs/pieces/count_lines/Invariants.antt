use Rattle.std.proofs.Common.{◌≡◌, ◌+◌, length}
use Rattle.report_parts.specs.Lines.{lines_in}
use Rattle.report_parts.proofs.pieces.count_lines.Given as goal

-- the lines so far and those that are left are those of the text
abbrev pub invariant-loop-rest : goal.invariant-loop-rest
invariant-loop-rest l = l.count + length (lines_in l.rest) ≡ length (lines_in l.text)

-- what is left gets shorter
abbrev pub decreases-loop-rest : goal.decreases-loop-rest
decreases-loop-rest l = length l.rest
