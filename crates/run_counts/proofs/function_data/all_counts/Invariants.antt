use Rattle.std.proofs.Common.{◌≡◌, ◌++◌, drop}
use Rattle.std.specs.List.{All}
use Rattle.run_counts.specs.Counts.{counts_from, HasLongs}
use Rattle.run_counts.proofs.function_data.all_counts.Given as goal

abbrev pub invariant-loop-k : goal.invariant-loop-k
invariant-loop-k l = record {
  value : l.all.items ++ counts_from l.k l.machine.counters l.machine.words (drop l.k l.functions)
      ≡ counts_from 0 l.machine.counters l.machine.words l.functions;
  longs : All HasLongs l.all.items;
}
