use Rattle.std.proofs.Common.{◌≡◌, ◌≤◌, Some}
use Rattle.std.specs.Prelude.{slice_get}
use Rattle.code_runs.specs.CodeRun.{first}
use Rattle.code_runs.specs.Counts.{weight}
use Rattle.stack_machine.specs.Points.{point}
use Rattle.stack_machine.proofs.Holding.{Under, nothing}
use Rattle.stack_machine.proofs.run.Run.finish.Given as goal

-- the run is under way
abbrev pub invariant-loop-ending : goal.invariant-loop-ending
invariant-loop-ending g l =
    Under l.code (g.S.Streams.left l.io) (g.S.Streams.written l.io) l.here
    (first l.code (g.S.Streams.left l.initial.io) l.initial.here.turns)

abbrev pub decreases-loop-ending : goal.decreases-loop-ending
decreases-loop-ending g l = weight l.code (point l.here nothing)

-- the same, in this function at this instruction
abbrev pub invariant-loop-ending-2 : goal.invariant-loop-ending-2
invariant-loop-ending-2 g l =
    Under l.code (g.S.Streams.left l.io) (g.S.Streams.written l.io) l.here
    (first l.code (g.S.Streams.left l.fn.io) l.fn.self.turns)
    × (l.here.function ≡ l.function) × (slice_get l.f.ops l.here.at ≡ Some l.op)
    × (weight l.code (point l.here nothing) ≤ weight l.code (point l.initial.here nothing))

abbrev pub decreases-loop-ending-2 : goal.decreases-loop-ending-2
decreases-loop-ending-2 g l = weight l.code (point l.here nothing)
