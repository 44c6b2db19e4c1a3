use Rattle.std.proofs.Common.{◌≡◌, ◌-◌}
use Rattle.gcov_items.specs.Items.{left}
use Rattle.gcov_records.specs.Reading.{each, limited}
use Rattle.gcov_records.proofs.Loop.{with_front}
use Rattle.gcov_records.proofs.taking.take_numbers.Given as goal

abbrev pub invariant-loop : goal.invariant-loop
invariant-loop l =
    with_front l.numbers.items (each l.counter (l.count - l.counter) (limited l.limit) (left l.reader) l.reader.at)
    ≡ each 0 l.count (limited l.limit) (left l.fn.reader) l.fn.reader.at
