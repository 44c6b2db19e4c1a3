use Rattle.std.proofs.Common.{◌≡◌, true, false, sym, ◌∙◌, subst, rules}
use Rattle.std.specs.List.{list_any}
use Rattle.cov_base.specs.Reach.{is_marked, is_open, IsSound}
use Rattle.cov_base.proofs.ReachLaws.{IsSound-round, marked-round, fold-shut}
use Rattle.cov_base.proofs.reach.mark_reached.Goals as goal

pub loop-preserved : goal.loop-preserved
loop-preserved c = record {
  sound = subst (IsSound c.args.arcs.now) (sym c.spread.ensures.after) (IsSound-round _ _ c.loop.invariant.sound);
  start = subst (λ m. is_marked m 2 ≡ true) (sym c.spread.ensures.after) (marked-round c.args.arcs.now _ 2 c.loop.invariant.start);
}

pub returns : goal.returns
returns c =
    let shut : list_any (is_open c.loop.marks) c.args.arcs.now ≡ false = sym c.spread.ensures.told ∙ c.loop-test.false in
    let same : c.loop.marks ≡ c.spread.new.marks = sym (c.spread.ensures.after ∙ fold-shut c.args.arcs.now c.loop.marks shut) in
    record {
      len = search rules;
      sound = subst (IsSound c.args.arcs.now) same c.loop.invariant.sound;
      start = subst (λ m. is_marked m 2 ≡ true) same c.loop.invariant.start;
      closed = subst (λ m. list_any (is_open m) c.args.arcs.now ≡ false) same shut;
    }
