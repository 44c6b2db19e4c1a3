use Rattle.std.proofs.Common.{◌≡◌, ◌+◌, drop}
use Rattle.code_runs.specs.CodeChecks.{numbers_fault}
use Rattle.code_checks.proofs.numbers.numbers_fault.Given as goal

abbrev pub invariant-loop-i : goal.invariant-loop-i
invariant-loop-i l = numbers_fault (l.start + l.i) (drop l.i l.ops) ≡ numbers_fault l.start l.ops
