use Rattle.std.proofs.Common.{◌≡◌, ◌≤◌, length, drop}
use Rattle.run_merge.specs.Merging.{other_shape}
use Rattle.run_merge.proofs.faults.other_shape.Given as goal

abbrev pub invariant-loop-number : goal.invariant-loop-number
invariant-loop-number l = record {
  within : l.number ≤ length l.run;
  rest : other_shape l.number (drop l.number l.old) (drop l.number l.run) ≡ other_shape 0 l.old l.run;
}
