use Rattle.std.proofs.Common.{◌-◌, ◌≤◌, length, take}
use Rattle.cov_outside.specs.Outside.{HasCause}
use Rattle.cov_outside.proofs.Whole.{Wrote}
use Rattle.cov_outside.proofs.sink.write_all.Given as goal

abbrev pub invariant-loop-at : goal.invariant-loop-at
invariant-loop-at g l =
    (l.at ≤ length l.bytes) × Wrote (g.K.Sink.written l.initial.sink) (g.K.Sink.written l.sink) (take l.at l.bytes) × HasCause (g.K.Sink.faults l.initial.sink) (g.K.Sink.faults l.sink) ⊥ × HasCause (g.K.Sink.wants l.initial.sink) (g.K.Sink.wants l.sink) ⊥

abbrev pub decreases-loop-at : goal.decreases-loop-at
decreases-loop-at g l = length l.bytes - l.at
