use Rattle.std.proofs.Common.{drop}
use Rattle.code_checks.specs.DepthTable.{leds}
use Rattle.code_checks.proofs.DepthLaws.{Holds}
use Rattle.code_checks.proofs.instructions.first_fault.Given as goal

abbrev pub invariant-loop-at : goal.invariant-loop-at
invariant-loop-at l = Holds l.code l.function l.at l.before (drop l.at l.ops) (leds l.table)
