use Rattle.std.proofs.Common.{ℕ, ◌+◌, ◌<◌, ◌≤◌, get_or}
use Rattle.stack_ops.specs.Code.{FunctionValue}
use Rattle.stack_machine.proofs.begin.most_numbers.Given as goal

abbrev pub invariant-loop-f : goal.invariant-loop-f
invariant-loop-f l = record {
  few : l.most ≤ 20480;
  most : (k : ℕ) (d : FunctionValue) → k < l.f-index
      → (get_or l.functions k d).cells + (get_or l.functions k d).depth ≤ l.most;
}
