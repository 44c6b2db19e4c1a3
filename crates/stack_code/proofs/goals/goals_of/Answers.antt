use Rattle.std.proofs.Common.{map, eqb}
use Rattle.std.proofs.lemmas.List.Filters.{dedup_is}
use Rattle.stack_code.proofs.GoalLaws.{sorted_goals, raw_cases}
use Rattle.stack_code.proofs.goals.goals_of.Goals as goal

pub returns : goal.returns
returns c =
    sorted_goals (map (λ c. (c.0, c.1)) c.args.cases.now) c.loop-case.found.items c.sort_unstable.new.self.items
    c.dedup.new.self.items
    (raw_cases c.args.cases.now c.loop-case.case-index c.loop-case.found.items c.loop-case.invariant
    c.loop-case-test.false)
    c.sort_unstable.ensures.permutation c.sort_unstable.ensures.sorted
    (dedup_is eqb c.sort_unstable.new.self.items c.dedup.new.self.items c.dedup.ensures.filtered)
