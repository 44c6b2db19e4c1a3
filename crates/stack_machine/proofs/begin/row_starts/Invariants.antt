use Rattle.std.proofs.Common.{◌≡◌, ℕ, ◌<◌, List, length, Some}
use Rattle.std.specs.Prelude.{slice_get}
use Rattle.stack_ops.specs.Code.{FunctionValue}
use Rattle.stack_machine.specs.Tables.{StartsAt}
use Rattle.stack_machine.proofs.begin.row_starts.Given as goal

abbrev pub invariant-loop-f : goal.invariant-loop-f
invariant-loop-f l = record {
  long : length l.rows.items ≡ l.f-index;
  starts : (i : ℕ) (f : FunctionValue) → i < l.f-index → slice_get l.functions i ≡ Some f
      → (starts : List ℕ) × (slice_get l.rows.items i ≡ Some starts) × StartsAt f starts;
}
