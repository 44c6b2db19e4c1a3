use Rattle.std.proofs.Common.{◌≡◌, ◌≤◌, length, IfOk}
use Rattle.cov_outside.specs.FileCalls.{IsCallFault}
use Rattle.cov_outside.specs.Outside.{HasCause, Reads}
use Rattle.cov_outside.proofs.whole_files.read_again.Given as goal

abbrev pub invariant-loop : goal.invariant-loop
invariant-loop g l =
    IfOk l.answer (λ n. n ≤ length l.into) × Reads (g.C.FileCalls.unread l.fn.file) (g.C.FileCalls.unread l.file) l.answer l.into × (g.C.FileCalls.files l.calls ≡ g.C.FileCalls.files l.fn.calls)
    × HasCause (g.C.FileCalls.faults l.fn.calls) (g.C.FileCalls.faults l.calls) (IsCallFault l.answer)
