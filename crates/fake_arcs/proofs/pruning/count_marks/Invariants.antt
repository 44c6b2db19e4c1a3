use Rattle.std.proofs.Common.{◌≡◌, ◌+◌, ◌≤◌, drop}
use Rattle.fake_arcs.specs.Numbers.{number_behind}
use Rattle.fake_arcs.proofs.pruning.count_marks.Given as goal

abbrev pub invariant-loop-mark : goal.invariant-loop-mark
invariant-loop-mark l = record {
  behind : number_behind (2 + l.count) (drop l.mark-index l.marks) ≡ number_behind 2 l.marks;
  small : l.count ≤ l.mark-index;
}
