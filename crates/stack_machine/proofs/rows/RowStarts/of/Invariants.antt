use Rattle.std.proofs.Common.{◌≡◌, ℕ, ◌<◌, ◌≤◌, length, drop, Some, vec_capacity}
use Rattle.std.specs.Prelude.{slice_get}
use Rattle.code_runs.specs.Tables.{passes_from, behind_row}
use Rattle.stack_machine.proofs.rows.RowStarts.of.Given as goal

abbrev pub invariant-loop : goal.invariant-loop
invariant-loop l = record {
  long : length l.places.items ≡ l.counter;
  room : l.f.passes ≤ vec_capacity l.places;
  within : l.at ≤ length l.table;
  here : drop l.at l.table ≡ passes_from l.counter (behind_row 3 l.table);
  starts : (w : ℕ) → w < l.counter
      → (start : ℕ) × (slice_get l.places.items w ≡ Some start)
      × (drop start l.table ≡ passes_from w (behind_row 3 l.table));
}
