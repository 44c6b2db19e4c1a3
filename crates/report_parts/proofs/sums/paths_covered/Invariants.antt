use Rattle.std.proofs.Common.{◌≡◌, ◌+◌, ◌-◌, ◌≤◌}
use Rattle.std.specs.List.{count_by}
use Rattle.prime_paths.specs.Lister.{numbers}
use Rattle.report_parts.specs.Shown.{has_bit}
use Rattle.report_parts.specs.Summary.{listed, paths_covered}
use Rattle.report_parts.proofs.sums.paths_covered.Given as goal

abbrev pub invariant-loop-k : goal.invariant-loop-k
invariant-loop-k l = record {
  left : l.covered + count_by (has_bit l.function.bits) (numbers l.k (listed l.function.listing - l.k))
      ≡ paths_covered l.function;
  few : l.covered ≤ l.k;
}
