use Rattle.std.proofs.Common.{All, take}
use Rattle.int_ops.specs.Ranges.{IsNumber}
use Rattle.middle_rows.proofs.tests.are_numbers.Given as goal

abbrev pub invariant-loop-n : goal.invariant-loop-n
invariant-loop-n l = All IsNumber (take l.n-index l.numbers)
