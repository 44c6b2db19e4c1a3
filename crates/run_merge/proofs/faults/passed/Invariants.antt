use Rattle.std.proofs.Common.{◌≡◌, drop}
use Rattle.run_merge.specs.Merging.{passed}
use Rattle.run_merge.proofs.faults.passed.Given as goal

abbrev pub invariant-loop-counter : goal.invariant-loop-counter
invariant-loop-counter l = passed l.counter (drop l.counter l.old) (drop l.counter l.run) ≡ passed 0 l.old l.run
