use Rattle.std.proofs.Common.{◌≡◌, ◌++◌, ◌-◌, ◌≤◌, replicate}
use Rattle.c_lower.proofs.lowering.repeat.Given as goal

abbrev pub invariant-loop-count : goal.invariant-loop-count
invariant-loop-count l = record {
  numbers : l.numbers.items ≡ l.initial.numbers.items ++ replicate l.count l.run.number;
  count : l.count ≤ l.run.count;
}

abbrev pub decreases-loop-count : goal.decreases-loop-count
decreases-loop-count l = l.run.count - l.count
