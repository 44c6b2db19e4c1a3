use Rattle.std.proofs.Common.{◌≡◌, ◌+◌, ◌-◌, length}
use Rattle.cov_outside.specs.Outside.{HasCause}
use Rattle.cov_outside.proofs.ReadSoFar.{ReadSoFar}
use Rattle.cov_outside.proofs.whole_files.read_rest.Given as goal

abbrev pub invariant-loop-piece : goal.invariant-loop-piece
invariant-loop-piece g l =
    ReadSoFar (g.C.FileCalls.unread l.initial.file) (g.C.FileCalls.unread l.file) l.bytes.items × (g.C.FileCalls.files l.calls ≡ g.C.FileCalls.files l.initial.calls)
    × HasCause (g.C.FileCalls.faults l.initial.calls) (g.C.FileCalls.faults l.calls) ⊥

abbrev pub decreases-loop-piece : goal.decreases-loop-piece
decreases-loop-piece g l = l.limit + 1 - length l.bytes.items
