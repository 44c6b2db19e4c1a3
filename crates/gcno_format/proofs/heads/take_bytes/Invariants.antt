use Rattle.std.proofs.Common.{◌≡◌, ◌-◌}
use Rattle.gcov_items.specs.Items.{left}
use Rattle.gcov_records.specs.Reading.{each}
use Rattle.gcov_records.proofs.Loop.{with_front}
use Rattle.gcno_format.specs.Reading.{byte}
use Rattle.gcno_format.proofs.heads.take_bytes.Given as goal

abbrev pub invariant-loop : goal.invariant-loop
invariant-loop l =
    with_front l.bytes.items (each l.counter (l.count - l.counter) (λ i. byte) (left l.reader) l.reader.at)
    ≡ each 0 l.count (λ i. byte) (left l.fn.reader) l.fn.reader.at
