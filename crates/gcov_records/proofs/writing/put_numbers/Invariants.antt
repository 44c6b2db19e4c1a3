use Rattle.std.proofs.Common.{◌≡◌, ◌++◌, drop}
use Rattle.gcov_items.specs.Items.{long_bytes}
use Rattle.gcov_records.specs.Records.{spelled_from}
use Rattle.gcov_records.proofs.writing.put_numbers.Given as goal

abbrev pub invariant-loop-number : goal.invariant-loop-number
invariant-loop-number l =
    l.out.items ++ spelled_from l.number-index (λ i. long_bytes) (drop l.number-index l.numbers)
    ≡ l.fn.out.items ++ spelled_from 0 (λ i. long_bytes) l.numbers
