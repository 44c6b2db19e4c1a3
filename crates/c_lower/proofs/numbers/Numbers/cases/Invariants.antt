use Rattle.std.proofs.Common.{◌≡◌, map, take}
use Rattle.c_lower.specs.Numbers.{number_at}
use Rattle.c_lower.proofs.numbers.Numbers.cases.Given as goal

abbrev pub invariant-loop-case : goal.invariant-loop-case
invariant-loop-case l =
    l.numbers.items ≡ map (λ c. (c.0, number_at l.self.rows c.1 l.self.behind)) (take l.case-index l.cases)
