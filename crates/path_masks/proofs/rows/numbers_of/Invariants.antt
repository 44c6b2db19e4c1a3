use Rattle.std.proofs.Common.{◌≡◌, ◌≤◌, ◌++◌, drop}
use Rattle.path_masks.proofs.NumberLaws.{numbered}
use Rattle.path_masks.proofs.rows.numbers_of.Given as goal

abbrev pub invariant-loop-span : goal.invariant-loop-span
invariant-loop-span l = record {
  numbers : l.numbers.items ++ numbered l.next (drop l.span-index l.spans) ≡ numbered 0 l.spans;
  low : l.next ≤ l.span-index;
}
