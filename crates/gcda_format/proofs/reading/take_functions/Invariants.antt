use Rattle.std.proofs.Common.{◌≡◌, ◌-◌}
use Rattle.gcov_items.specs.Items.{left}
use Rattle.gcov_records.specs.Reading.{each}
use Rattle.gcov_records.proofs.Loop.{with_front}
use Rattle.gcda_format.specs.Reading.{function_at}
use Rattle.gcda_format.proofs.reading.take_functions.Given as goal

abbrev pub invariant-loop-number : goal.invariant-loop-number
invariant-loop-number l =
    with_front l.functions.items (each l.number (l.count - l.number) function_at (left l.reader) l.reader.at)
    ≡ each 0 l.count function_at (left l.fn.reader) l.fn.reader.at
