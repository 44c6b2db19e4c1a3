use Rattle.std.proofs.Common.{◌≡◌, ◌++◌, drop}
use Rattle.stack_code.specs.Laying.{stubs}
use Rattle.stack_code.specs.Modes.{shape_marks}
use Rattle.stack_code.specs.Places.{place_in}
use Rattle.stack_code.proofs.switches.put_stubs.Given as goal

abbrev pub invariant-loop-goal : goal.invariant-loop-goal
invariant-loop-goal l =
    l.ops.items ++ stubs (shape_marks l.marks l.from) (place_in l.starts.places.items l.starts.end)
    (drop l.goal-index l.goals)
    ≡ l.fn.ops.items ++ stubs (shape_marks l.marks l.from) (place_in l.starts.places.items l.starts.end) l.goals
