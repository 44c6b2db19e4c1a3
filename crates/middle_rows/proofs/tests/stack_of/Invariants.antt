use Rattle.std.proofs.Common.{◌≡◌, take}
use Rattle.middle_rows.proofs.tests.stack_of.Given as goal

abbrev pub invariant-loop-n : goal.invariant-loop-n
invariant-loop-n l = (l.stack.numbers ≡ take l.n-index l.numbers) × (l.stack.room ≡ 8)
