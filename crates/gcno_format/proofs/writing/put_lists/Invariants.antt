use Rattle.std.proofs.Common.{◌≡◌, ◌++◌, drop}
use Rattle.gcov_records.specs.Records.{spelled_from}
use Rattle.gcno_format.specs.Spelling.{lines_bytes}
use Rattle.gcno_format.proofs.writing.put_lists.Given as goal

abbrev pub invariant-loop-block : goal.invariant-loop-block
invariant-loop-block l =
    l.out.items ++ spelled_from l.block lines_bytes (drop l.block l.net.lines)
    ≡ l.fn.out.items ++ spelled_from 0 lines_bytes l.net.lines
