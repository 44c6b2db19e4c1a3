use Rattle.std.proofs.Common.{◌≡◌, drop, map, length}
use Rattle.fake_arcs.specs.Marking.{with_marks}
use Rattle.fake_arcs.proofs.marking.Marking.mark_cases.Given as goal

abbrev pub invariant-loop-case : goal.invariant-loop-case
invariant-loop-case l = record {
  marked : with_marks (map (λ c. c.1) (drop l.case-index l.cases)) l.self ≡ with_marks (map (λ c. c.1) l.cases)
      l.fn.self;
  len : length l.self.marks ≡ length l.fn.self.marks;
}
