use Rattle.std.proofs.Common.{◌≡◌, ◌≤◌, ◌-◌, length, take}
use Rattle.std.specs.Prelude.{Ok}
use Rattle.cov_outside.specs.FileCalls.{AppendsAll, Told}
use Rattle.cov_outside.specs.Outside.{HasCause}
use Rattle.cov_outside.proofs.whole_files.append_all.Given as goal

abbrev pub invariant-loop-at : goal.invariant-loop-at
invariant-loop-at g l =
    (l.at ≤ length l.bytes) × (g.C.FileCalls.name_of l.file ≡ g.C.FileCalls.name_of l.initial.file)
    × Told (AppendsAll (g.C.FileCalls.name_of l.initial.file) (Ok tt) (take l.at l.bytes)) (g.C.FileCalls.files l.initial.calls) (g.C.FileCalls.files l.calls)
    × HasCause (g.C.FileCalls.faults l.initial.calls) (g.C.FileCalls.faults l.calls) ⊥

abbrev pub decreases-loop-at : goal.decreases-loop-at
decreases-loop-at g l = length l.bytes - l.at
