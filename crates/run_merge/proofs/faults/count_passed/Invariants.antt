use Rattle.std.proofs.Common.{◌≡◌, drop}
use Rattle.run_merge.specs.Merging.{count_passed}
use Rattle.run_merge.proofs.faults.count_passed.Given as goal

abbrev pub invariant-loop-number : goal.invariant-loop-number
invariant-loop-number l = count_passed l.number (drop l.number l.old) (drop l.number l.run) ≡ count_passed 0 l.old l.run
