use Rattle.std.proofs.Common.{◌≡◌, ◌++◌, drop, map}
use Rattle.stack_machine.specs.Counts.{zeros_of}
use Rattle.stack_machine.proofs.begin.zero_counts.Given as goal

abbrev pub invariant-loop-f : goal.invariant-loop-f
invariant-loop-f l = l.counts.items ++ map zeros_of (drop l.f-index l.functions) ≡ map zeros_of l.functions
