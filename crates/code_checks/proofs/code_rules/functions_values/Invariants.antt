use Rattle.std.proofs.Common.{◌≡◌, drop}
use Rattle.code_runs.specs.CodeChecks.{functions_values}
use Rattle.code_checks.proofs.FieldLaws.{Kept}
use Rattle.code_checks.proofs.code_rules.functions_values.Given as goal

abbrev pub invariant-loop-function : goal.invariant-loop-function
invariant-loop-function l = record {
  kept : Kept l.code l.start (drop l.function-index l.functions);
  told : functions_values l.code l.start (drop l.function-index l.functions) ≡ functions_values l.code 0 l.functions;
}
