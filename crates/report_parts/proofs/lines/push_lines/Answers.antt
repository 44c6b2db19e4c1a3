use Rattle.std.proofs.Common.{ℕ, List, length, ap, arith}
use Rattle.report_parts.proofs.lines.push_lines.Goals as goal

pub overflow_add-number : goal.overflow_add-number
overflow_add-number c =
    omega (arith, c.requires, c.loop-rest.invariant.small, ap (λ (ls : List (List ℕ)). length ls) c.split_line.ensures.lines)
