use Rattle.std.proofs.Common.{◌≡◌, ◌++◌, drop}
use Rattle.stack_code.specs.Modes.{shape_marks}
use Rattle.stack_code.specs.Places.{stubs_from, stubs_end}
use Rattle.stack_code.proofs.switches.Stubs.of.Given as goal

abbrev pub invariant-loop-goal : goal.invariant-loop-goal
invariant-loop-goal l = record {
  places : l.places.items ++ stubs_from (shape_marks l.marks l.from) l.end (drop l.goal-index l.goal-items)
      ≡ stubs_from (shape_marks l.marks l.from) l.first l.goal-items;
  ends : stubs_end (shape_marks l.marks l.from) l.end (drop l.goal-index l.goal-items)
      ≡ stubs_end (shape_marks l.marks l.from) l.first l.goal-items;
}
