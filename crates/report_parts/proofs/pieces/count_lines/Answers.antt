use Rattle.std.proofs.Common.{arith, ap, length, List, ℕ}
use Rattle.report_parts.proofs.LinesLaws.{length-lines_in}
use Rattle.report_parts.proofs.pieces.count_lines.Goals as goal

-- the count stays below the number of lines
pub overflow_add-count : goal.overflow_add-count
overflow_add-count c =
    omega (arith, length-lines_in c.args.text.now, ap (λ (lines : List (List ℕ)). length lines) c.split_line.ensures.lines)

-- a text has no more lines than bytes
pub returns-clause-within : goal.returns-clause-within
returns-clause-within c = length-lines_in c.args.text.now
