use Rattle.std.proofs.Common.{ℕ, ◌<◌, ◌≤◌, get_or}
use Rattle.stack_ops.specs.Code.{FunctionValue}
use Rattle.code_runs.specs.Tables.{words_in}
use Rattle.stack_machine.proofs.begin.most_words.Given as goal

abbrev pub invariant-loop-f : goal.invariant-loop-f
invariant-loop-f l = record {
  few : l.most ≤ 1024;
  most : (k : ℕ) (d : FunctionValue) → k < l.f-index → words_in (get_or l.functions k d).paths ≤ l.most;
}
