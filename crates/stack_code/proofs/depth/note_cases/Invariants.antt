use Rattle.std.proofs.Common.{◌≡◌, drop, map}
use Rattle.stack_code.specs.Deepest.{with_depths}
use Rattle.stack_code.proofs.depth.note_cases.Given as goal

abbrev pub invariant-loop-case : goal.invariant-loop-case
invariant-loop-case l = with_depths (map (λ c. c.1) (drop l.case-index l.cases)) l.depth l.table
    ≡ with_depths (map (λ c. c.1) l.cases) l.depth l.fn.table
