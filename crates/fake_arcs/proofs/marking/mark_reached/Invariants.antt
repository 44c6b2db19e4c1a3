use Rattle.std.proofs.Common.{◌+◌, not, length}
use Rattle.std.specs.List.{count_by}
use Rattle.fake_arcs.proofs.Worklist.{Marked}
use Rattle.fake_arcs.proofs.marking.mark_reached.Given as goal

abbrev pub invariant-loop-place : goal.invariant-loop-place
invariant-loop-place l = Marked l.blocks l.marking

abbrev pub decreases-loop-place : goal.decreases-loop-place
decreases-loop-place l = count_by not l.marking.marks + length l.marking.todo
