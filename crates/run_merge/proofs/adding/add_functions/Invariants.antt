use Rattle.std.proofs.Common.{◌≡◌, ◌++◌, length, take, drop, None}
use Rattle.run_merge.specs.Merging.{add_functions, other_shape, count_passed}
use Rattle.run_merge.proofs.adding.add_functions.Given as goal

abbrev pub invariant-loop-i : goal.invariant-loop-i
invariant-loop-i l = record {
  rest : take l.i l.old ++ add_functions (drop l.i l.old) (drop l.i l.run) ≡ add_functions l.fn.old l.run;
  shapes : other_shape l.i (drop l.i l.old) (drop l.i l.run) ≡ None;
  counts : count_passed l.i (drop l.i l.old) (drop l.i l.run) ≡ None;
}
