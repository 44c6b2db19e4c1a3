use Rattle.std.proofs.Common.{◌≡◌, ◌++◌, drop}
use Rattle.fake_arcs.specs.Numbers.{numbers_before, number_behind}
use Rattle.fake_arcs.proofs.numbers.Numbers.of.Given as goal

abbrev pub invariant-loop-mark : goal.invariant-loop-mark
invariant-loop-mark l = record {
  numbers : l.numbers.items ++ numbers_before l.next (drop l.mark-index l.mark-items) ≡ numbers_before 2 l.mark-items;
  behind : number_behind l.next (drop l.mark-index l.mark-items) ≡ number_behind 2 l.mark-items;
}
