use Rattle.std.proofs.Common.{◌≡◌, ◌++◌, drop}
use Rattle.gcov_records.specs.Records.{spelled_from}
use Rattle.gcno_format.specs.Spelling.{function_bytes}
use Rattle.gcno_format.proofs.writing.put_functions.Given as goal

abbrev pub invariant-loop-number : goal.invariant-loop-number
invariant-loop-number l =
    l.out.items ++ spelled_from l.number function_bytes (drop l.number l.functions)
    ≡ l.fn.out.items ++ spelled_from 0 function_bytes l.functions
