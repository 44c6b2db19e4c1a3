use Rattle.std.proofs.Common.{◌≡◌, ◌-◌}
use Rattle.gcov_items.specs.Items.{left}
use Rattle.gcov_records.specs.Reading.{each, word}
use Rattle.gcov_records.proofs.Loop.{with_front}
use Rattle.gcno_format.proofs.records.take_words.Given as goal

abbrev pub invariant-loop : goal.invariant-loop
invariant-loop l =
    with_front l.words.items (each l.counter (l.count - l.counter) (λ i. word) (left l.reader) l.reader.at)
    ≡ each 0 l.count (λ i. word) (left l.fn.reader) l.fn.reader.at
