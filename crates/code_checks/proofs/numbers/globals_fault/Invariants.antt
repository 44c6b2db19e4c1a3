use Rattle.std.proofs.Common.{◌≡◌, drop}
use Rattle.code_runs.specs.CodeChecks.{globals_fault}
use Rattle.code_checks.proofs.numbers.globals_fault.Given as goal

abbrev pub invariant-loop-n : goal.invariant-loop-n
invariant-loop-n l = globals_fault (drop l.n-index l.globals) ≡ globals_fault l.globals
