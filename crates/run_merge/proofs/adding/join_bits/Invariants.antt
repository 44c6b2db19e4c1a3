use Rattle.std.proofs.Common.{◌≡◌, ◌++◌, take, drop}
use Rattle.run_merge.specs.Merging.{ors}
use Rattle.run_merge.proofs.adding.join_bits.Given as goal

abbrev pub invariant-loop-i : goal.invariant-loop-i
invariant-loop-i l = take l.i l.old ++ ors (drop l.i l.old) (drop l.i l.run) ≡ ors l.fn.old l.run
