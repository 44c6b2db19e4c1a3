use Rattle.std.proofs.Common.{◌≡◌, ◌++◌, take, drop, map}
use Rattle.stack_machine.specs.Counts.{cleared}
use Rattle.stack_machine.proofs.begin.clear_counts.Given as goal

abbrev pub invariant-loop-i : goal.invariant-loop-i
invariant-loop-i l = l.counts ≡ map cleared (take l.i l.initial.counts) ++ drop l.i l.initial.counts
