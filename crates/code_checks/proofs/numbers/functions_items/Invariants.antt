use Rattle.std.proofs.Common.{◌≡◌, ◌≤◌, drop}
use Rattle.code_runs.specs.Limits.{number_limit, instruction_limit}
use Rattle.code_runs.specs.CodeChecks.{functions_items}
use Rattle.code_checks.proofs.numbers.functions_items.Given as goal

abbrev pub invariant-loop-k : goal.invariant-loop-k
invariant-loop-k l = record {
  numbers : l.numbers ≤ number_limit;
  start : l.start ≤ instruction_limit;
  told : functions_items l.code l.k l.numbers l.start (drop l.k l.functions) ≡ functions_items l.code 0 0 0 l.functions;
}
