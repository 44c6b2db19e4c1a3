use Rattle.std.proofs.Common.{◌≡◌, ℕ, ◌*◌, ◌^◌, ◌≤◌, drop}
use Rattle.report_parts.specs.CountSteps.{count_or_zero, add_functions}
use Rattle.report_parts.proofs.counts.add_functions.Given as goal

abbrev pub invariant-loop-function : goal.invariant-loop-function
invariant-loop-function l = record {
  left : add_functions (drop l.function-index l.functions) l.counts ≡ add_functions l.functions l.initial.counts;
  room : (line : ℕ) → count_or_zero l.counts line ≤ l.function-index * 2 ^ 92;
}
