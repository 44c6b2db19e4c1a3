use Rattle.std.proofs.Common.{◌≡◌, ◌++◌, length, take, drop, None}
use Rattle.run_merge.specs.Merging.{sums, passed}
use Rattle.run_merge.proofs.adding.add_counters.Given as goal

abbrev pub invariant-loop-i : goal.invariant-loop-i
invariant-loop-i l = record {
  rest : take l.i l.old ++ sums (drop l.i l.old) (drop l.i l.run) ≡ sums l.fn.old l.run;
  counts : passed l.i (drop l.i l.old) (drop l.i l.run) ≡ None;
}
