use Rattle.std.proofs.Common.{map, eqb}
use Rattle.std.proofs.lemmas.List.Filters.{dedup_is}
use Rattle.fake_arcs.proofs.Distinct.{sorted_targets, raw_goals}
use Rattle.fake_arcs.proofs.targets.distinct.Goals as goal

pub returns : goal.returns
returns c =
    sorted_targets (map (λ c. (c.0, c.1)) c.args.cases.now) c.args.default c.push-2.new.self.items
    c.sort_unstable.new.self.items c.dedup.new.self.items
    (raw_goals c.args.cases.now c.args.default c.loop-case.case-index c.loop-case.found.items c.push-2.new.self.items
    c.loop-case.invariant c.loop-case-test.false c.in_ok-push-2.ensures.items)
    c.sort_unstable.ensures.permutation c.sort_unstable.ensures.sorted
    (dedup_is eqb c.sort_unstable.new.self.items c.dedup.new.self.items c.dedup.ensures.filtered)
