use Rattle.std.proofs.Common.{◌∙◌, arith, ap, length}
use Rattle.cov_base.proofs.NetLaws.{HasShape-from_IsNet}
use Rattle.flow_solver.proofs.Solutions.{solved_is, has_one}
use Rattle.flow_solver.proofs.solver.solve.Goals as goal

pub returns-in-None-clause-numbers : goal.returns-in-None-clause-numbers
returns-in-None-clause-numbers c = solved_is c.args.net.now c.args.tree.now c.args.given.now c.clear.new.out
    c.spread.new.out c.gather.new.out c.spread.ensures.net c.requires.tree c.requires.counters
    (c.clear.auto.out ∙ c.requires.places) c.clear.ensures c.spread.ensures.numbers c.gather.ensures

pub returns-in-Some-clause-numbers : goal.returns-in-Some-clause-numbers
returns-in-Some-clause-numbers c = solved_is c.args.net.now c.args.tree.now c.args.given.now c.clear.new.out
    c.spread.new.out c.gather.new.out c.spread.ensures.net c.requires.tree c.requires.counters
    (c.clear.auto.out ∙ c.requires.places) c.clear.ensures c.spread.ensures.numbers c.gather.ensures

pub returns-in-None-clause-only : goal.returns-in-None-clause-only
returns-in-None-clause-only c = has_one c.args.net.now c.spread.ensures.net

pub returns-in-Some-clause-only : goal.returns-in-Some-clause-only
returns-in-Some-clause-only c = has_one c.args.net.now c.spread.ensures.net

pub overflow_cast-result : goal.overflow_cast-result
overflow_cast-result c =
    let few = (HasShape-from_IsNet c.args.net.now c.spread.ensures.net).few in
    let within = c.in-Some.ensures.within in
    let long = c.gather.auto.out ∙ (c.spread.auto.out ∙ (c.clear.auto.out ∙ c.requires.places)) in
    omega (arith, few, within, long)
