use Rattle.std.proofs.Common.{◌≡◌, ◌<◌, ◌++◌, ◌∷◌, [], List, length, get_or, sym, ap, subst, ◌∙◌, arith}
use Rattle.std.specs.List.{All}
use Rattle.std.proofs.lemmas.List.{length-append}
use Rattle.std.proofs.lemmas.List.Elements.{All-nil, All-push}
use Rattle.cov_base.specs.Net.{IsNet}
use Rattle.gcno_format.specs.Notes.{FunctionNotesValue}
use Rattle.function_tallies.specs.Tally.{FunctionTallyValue}
use Rattle.path_report.specs.Report.{shown, all_shown}
use Rattle.report_parts.specs.Shown.{ShownValue, IsShown}
use Rattle.path_report.proofs.ShownLaws.{as_many, of_here, is_shown, shown_more}
use Rattle.path_report.proofs.shown.all_shown.Goals as goal

pub loop-k-init : goal.loop-k-init
loop-k-init c =
    let fs = c.args.functions.now in
    let ts = c.args.tallies.now in
    let none : c.new-all.result.items ≡ [] = c.new-all.ensures.items in
    record {
      value = ap (λ l. l ++ all_shown fs ts) none;
      shown = subst (All IsShown) (sym none) (All-nil IsShown);
      of = c.requires;
      same = as_many c.args.limit fs ts c.requires;
      long = ap (λ (l : List ShownValue). length l) none;
    }

pub loop-k-preserved : goal.loop-k-preserved
loop-k-preserved c =
    let fs = c.args.functions.now in
    let ts = c.args.tallies.now in
    let k = c.loop-k.k in
    let f : FunctionNotesValue = c.index-functions-k.result in
    let t : FunctionTallyValue = c.index-tallies-k.result in
    let front = c.loop-k.all.items in
    let s : ShownValue = c.in_ok-shown.field-0 in
    let in_fs : k < length fs = c.loop-k-test.true in
    let in_ts : k < length ts = omega (arith, in_fs, c.loop-k.invariant.same) in
    let here = of_here c.args.limit k fs ts f t in_fs in_ts c.loop-k.invariant.of in
    let s_is : s ≡ shown (get_or fs k f) (get_or ts k t) =
    c.in_ok-shown.ensures.value ∙ (ap (λ g. shown g t) c.index-functions-k.is
    ∙ ap (λ u. shown (get_or fs k f) u) c.index-tallies-k.is) in
    let net : IsNet (get_or fs k f).net =
    subst (λ (g : FunctionNotesValue). IsNet g.net) c.index-functions-k.is c.in_ok-shown.ensures.net in
    let is_new : c.push.new.self.items ≡ front ++ s ∷ [] = c.in_ok-push.ensures.items in
    record {
      value = shown_more k fs ts f t front _ s _ in_fs in_ts s_is is_new c.loop-k.invariant.value;
      shown = subst (All IsShown) (sym is_new) (All-push IsShown front s c.loop-k.invariant.shown
          (subst IsShown (sym s_is) (is_shown c.args.limit (get_or fs k f) (get_or ts k t) net here.0)));
      of = here.1;
      same = c.loop-k.invariant.same;
      long = omega (
        arith,
        ap (λ (l : List ShownValue). length l) is_new,
        length-append front (s ∷ []),
        c.loop-k.invariant.long,
      );
    }
