use Rattle.std.proofs.Common.{◌≡◌, ◌++◌, None, length, take, drop, sym, subst, ◌∙◌}
use Rattle.std.specs.List.{position}
use Rattle.std.proofs.lemmas.List.{take_at}
use Rattle.flow_solver.specs.Circulation.{is_negative}
use Rattle.function_tallies.specs.Numbers.{AreFlow}
use Rattle.function_tallies.proofs.Bounds.{numbers_small, flow_bounds}
use Rattle.function_tallies.proofs.numbers.numbers_of.Goals as goal

pub returns-in-Ok-clause-ok : goal.returns-in-Ok-clause-ok
returns-in-Ok-clause-ok c =
    let net = c.args.net.now in
    let given = c.args.counters.now in
    let numbers = c.in_ok-numbers.numbers in
    let new = c.solve.new.out in
    let whole : take numbers.len (new ++ drop (length new) numbers.items) ≡ new =
    take_at new (drop (length new) numbers.items) numbers.len (c.solve.auto.out ∙ c.deref_mut.ensures.len) in
    let positive : position is_negative new ≡ None = sym c.in-Ok.ensures.refusal in
    subst (AreFlow net given) (sym whole) (record {
      circulates = c.in-Ok.ensures.numbers;
      positive = positive;
      small = flow_bounds new positive
          (numbers_small net c.arcs.ensures.net given c.requires.counters c.requires.counts new c.in-Ok.ensures.numbers);
    })
