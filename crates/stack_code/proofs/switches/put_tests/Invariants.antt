use Rattle.std.proofs.Common.{◌≡◌, ◌++◌, drop, map}
use Rattle.stack_code.specs.Laying.{tests}
use Rattle.stack_code.specs.Modes.{shape_marks}
use Rattle.stack_code.specs.Places.{place_in}
use Rattle.stack_code.proofs.switches.put_tests.Given as goal

abbrev pub invariant-loop-case : goal.invariant-loop-case
invariant-loop-case l = l.ops.items ++ tests (shape_marks l.marks l.from) (place_in l.starts.places.items l.starts.end)
    l.stubs.first l.stubs.goals.items (map (λ c. (c.0, c.1)) (drop l.case-index l.cases))
    ≡ l.fn.ops.items ++ tests (shape_marks l.marks l.from) (place_in l.starts.places.items l.starts.end)
    l.stubs.first l.stubs.goals.items (map (λ c. (c.0, c.1)) l.cases)
