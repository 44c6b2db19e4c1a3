use Rattle.std.proofs.Common.{◌≡◌, ◌<◌, ◌≤◌, length, IfOk}
use Rattle.cov_outside.specs.FileCalls.{Appends, IsCallFault, Told}
use Rattle.cov_outside.specs.Outside.{HasCause}
use Rattle.cov_outside.proofs.whole_files.write_again.Given as goal

abbrev pub invariant-loop : goal.invariant-loop
invariant-loop g l =
    IfOk l.answer (λ n. n ≤ length l.piece) × IfOk l.answer (λ n. 0 < length l.piece → 0 < n) × (g.C.FileCalls.name_of l.file ≡ g.C.FileCalls.name_of l.fn.file)
    × Told (Appends (g.C.FileCalls.name_of l.fn.file) l.answer l.piece) (g.C.FileCalls.files l.fn.calls) (g.C.FileCalls.files l.calls)
    × HasCause (g.C.FileCalls.faults l.fn.calls) (g.C.FileCalls.faults l.calls) (IsCallFault l.answer)
