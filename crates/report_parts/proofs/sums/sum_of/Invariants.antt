use Rattle.std.proofs.Common.{◌≡◌, ◌+◌, ◌*◌, ◌^◌, ◌≤◌, drop}
use Rattle.std.specs.List.{sum_by}
use Rattle.report_parts.specs.Summary.{amount}
use Rattle.report_parts.proofs.sums.sum_of.Given as goal

abbrev pub invariant-loop-function : goal.invariant-loop-function
invariant-loop-function l = record {
  left : l.sum + sum_by (amount l.part) (drop l.function-index l.functions) ≡ sum_by (amount l.part) l.functions;
  small : l.sum ≤ l.function-index * 2 ^ 32;
}
