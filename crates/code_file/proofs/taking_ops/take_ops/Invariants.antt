use Rattle.std.proofs.Common.{◌≡◌, ℕ, ◌-◌, List, [], length}
use Rattle.stack_ops.specs.declared.operation.Op.{Op}
use Rattle.gcov_items.specs.Items.{left}
use Rattle.code_file.specs.Reading.{Told, with_ops}
use Rattle.code_file.proofs.taking_ops.take_ops.Given as goal

abbrev pub invariant-loop : goal.invariant-loop
invariant-loop l = record {
  told : (then : List Op → List ℕ → List ℕ → ℕ → Told)
      → with_ops (l.count - l.counter) l.ops.items l.places.items (left l.reader) l.reader.at then
      ≡ with_ops l.count [] [] (left l.fn.reader) l.fn.reader.at then;
  ops : length l.ops.items ≡ l.counter;
  places : length l.places.items ≡ l.counter;
}
