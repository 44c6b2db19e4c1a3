use Rattle.std.proofs.Common.{◌≡◌, ◌-◌}
use Rattle.gcov_items.specs.Items.{left}
use Rattle.gcno_format.specs.Reading.{records}
use Rattle.gcno_format.proofs.records.take_records.Given as goal

abbrev pub invariant-loop : goal.invariant-loop
invariant-loop l =
    records (l.most - l.counter) l.progress (left l.reader) l.reader.at
    ≡ records l.most l.initial.progress (left l.fn.reader) l.fn.reader.at
