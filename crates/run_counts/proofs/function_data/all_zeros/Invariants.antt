use Rattle.std.proofs.Common.{◌≡◌, ◌≤◌, ◌++◌, drop, map}
use Rattle.std.specs.List.{All}
use Rattle.gcda_format.specs.Data.{word_limit}
use Rattle.run_counts.specs.Counts.{function_zeros}
use Rattle.run_counts.proofs.function_data.all_zeros.Given as goal

abbrev pub invariant-loop-function : goal.invariant-loop-function
invariant-loop-function l = record {
  value : l.all.items ++ map function_zeros (drop l.function-index l.functions) ≡ map function_zeros l.functions;
  checksums : All (λ d. d.checksum ≤ word_limit) l.all.items;
}
