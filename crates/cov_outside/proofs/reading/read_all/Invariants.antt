use Rattle.std.proofs.Common.{◌+◌, ◌-◌, ◌≤◌, length}
use Rattle.cov_outside.specs.Outside.{HasCause}
use Rattle.cov_outside.proofs.ReadSoFar.{ReadSoFar}
use Rattle.cov_outside.proofs.reading.read_all.Given as goal

abbrev pub invariant-loop-piece : goal.invariant-loop-piece
invariant-loop-piece g l =
    ReadSoFar (g.S.Source.remaining l.initial.source) (g.S.Source.remaining l.source) l.bytes.items
    × (length l.bytes.items ≤ l.limit + 1)
    × HasCause (g.S.Source.faults l.initial.source) (g.S.Source.faults l.source) ⊥

abbrev pub decreases-loop-piece : goal.decreases-loop-piece
decreases-loop-piece g l = l.limit + 1 - length l.bytes.items
