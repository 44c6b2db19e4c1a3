use Rattle.std.proofs.Common.{◌≡◌, drop}
use Rattle.c_lower.specs.Numbers.{number_in}
use Rattle.c_lower.proofs.numbers.find.Given as goal

abbrev pub invariant-loop-entry : goal.invariant-loop-entry
invariant-loop-entry l = number_in (drop l.entry-index l.row) l.part l.other ≡ number_in l.row l.part l.other
