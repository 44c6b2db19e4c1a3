use Rattle.std.proofs.Common.{◌≡◌, ℕ, ◌-◌, List}
use Rattle.gcov_items.specs.Items.{left}
use Rattle.code_file.specs.Reading.{with_rows}
use Rattle.code_file.proofs.Outcomes.{Then}
use Rattle.code_file.proofs.taking_tables.take_rows.Given as goal

abbrev pub invariant-loop : goal.invariant-loop
invariant-loop l =
    (then : Then (List ℕ)) → with_rows (l.count - l.counter) l.words l.table.items (left l.reader) l.reader.at then
    ≡ with_rows l.count l.words l.fn.table.items (left l.fn.reader) l.fn.reader.at then
