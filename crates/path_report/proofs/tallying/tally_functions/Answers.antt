use Rattle.std.proofs.Common.{◌≡◌, ◌+◌, ◌<◌, ◌++◌, ◌∷◌, [], length, get_or, sym, subst, arith}
use Rattle.gcda_format.specs.Data.{FunctionDataValue}
use Rattle.gcno_format.specs.Notes.{FunctionNotesValue}
use Rattle.function_tallies.specs.Tally.{FunctionTallyValue}
use Rattle.function_tallies.specs.Tallies.{IsTallied, IsOf}
use Rattle.function_tallies.specs.declared.tally.TallyFault.TheVariants as fault
use Rattle.path_report.specs.Tallies.{IsFirstOf}
use Rattle.path_report.proofs.TallyLaws.{Behind, OfBehind, tallied_more, of_more, first_more, first_extra, tallied_all, of_all}
use Rattle.path_report.proofs.tallying.tally_functions.Goals as goal

pub loop-k-preserved : goal.loop-k-preserved
loop-k-preserved c =
    let limit = c.args.limit in
    let fs = c.args.functions.now in
    let ds = c.args.counts.now in
    let k = c.loop-k.k in
    let f : FunctionNotesValue = c.index-functions-k.result in
    let d : FunctionDataValue = c.index-counts-k.result in
    let front = c.loop-k.tallies.items in
    let t : FunctionTallyValue = c.in_ok-tally_noted.field-0 in
    let in_fs : k < length fs = c.loop-k-test.true in
    let in_ds : k < length ds = omega (arith, c.loop-k.invariant.within, c.if-k-counts.false) in
    let is : IsTallied limit (get_or fs k f).checksum (get_or fs k f).net (get_or ds k d) t =
    subst (λ (g : FunctionNotesValue). IsTallied limit g.checksum g.net (get_or ds k d) t) c.index-functions-k.is
    (subst (λ (e : FunctionDataValue). IsTallied limit f.checksum f.net e t) c.index-counts-k.is
    c.in_ok-tally_noted.ensures.tally) in
    let of : IsOf limit (get_or fs k f).net t =
    subst (λ (g : FunctionNotesValue). IsOf limit g.net t) c.index-functions-k.is c.in_ok-tally_noted.ensures.of in
    let is_new : c.push.new.self.items ≡ front ++ t ∷ [] = c.in_ok-push.ensures.items in
    record {
      tallied = subst (Behind limit fs ds (k + 1)) (sym is_new)
          (tallied_more limit k fs ds f d front t in_fs in_ds is c.loop-k.invariant.tallied);
      of = subst (OfBehind limit fs (k + 1)) (sym is_new) (of_more limit k fs f front t in_fs of c.loop-k.invariant.of);
      first = first_more limit k fs ds f d t in_fs in_ds is c.loop-k.invariant.first;
      within = omega (arith, in_ds);
    }

pub returns-then-counts-functions-clause-err : goal.returns-then-counts-functions-clause-err
returns-then-counts-functions-clause-err c =
    let limit = c.args.limit in
    let fs = c.args.functions.now in
    let ds = c.args.counts.now in
    let k = c.loop-k.k in
    let end : k ≡ length fs = omega (arith, c.loop-k-test.false, c.loop-k.auto.k-end) in
    let none : FunctionDataValue = record { checksum = 0; counters = []; bits = [] } in
    subst (λ n. IsFirstOf limit 0 fs ds (fault.OtherShape n)) end
    (first_extra limit k fs ds none (omega (arith, end)) (omega (arith, end, c.if-counts-functions.true))
    c.loop-k.invariant.first)

pub returns-clause-ok : goal.returns-clause-ok
returns-clause-ok c =
    let end : c.loop-k.k ≡ length c.args.functions.now = omega (arith, c.loop-k-test.false, c.loop-k.auto.k-end) in
    tallied_all c.args.limit c.loop-k.k c.args.functions.now c.args.counts.now c.loop-k.tallies.items
    (omega (arith, end)) (omega (arith, end, c.if-counts-functions.false)) c.loop-k.invariant.tallied

pub returns-clause-of : goal.returns-clause-of
returns-clause-of c =
    let end : c.loop-k.k ≡ length c.args.functions.now = omega (arith, c.loop-k-test.false, c.loop-k.auto.k-end) in
    of_all c.args.limit c.loop-k.k c.args.functions.now c.loop-k.tallies.items (omega (arith, end)) c.loop-k.invariant.of
