use Rattle.std.proofs.Common.{◌≡◌, ◌+◌, drop, length}
use Rattle.stack_code.specs.Laying.{stubs}
use Rattle.stack_code.specs.Modes.{shape_marks}
use Rattle.stack_code.proofs.starts.size_of_stubs.Given as goal

abbrev pub invariant-loop-goal : goal.invariant-loop-goal
invariant-loop-goal l =
    l.size + length (stubs (shape_marks l.marks l.from) (λ x. 0) (drop l.goal-index l.goals))
    ≡ length (stubs (shape_marks l.marks l.from) (λ x. 0) l.goals)
