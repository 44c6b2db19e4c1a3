use Rattle.std.proofs.Common.{◌≡◌, ◌<◌, ◌++◌, ◌∷◌, [], length, get_or, sym, ap, subst, ◌∙◌}
use Rattle.std.specs.List.{All}
use Rattle.std.proofs.lemmas.List.Elements.{All-push}
use Rattle.gcda_format.specs.Data.{FunctionDataValue}
use Rattle.stack_ops.specs.Code.{FunctionValue}
use Rattle.run_counts.specs.Counts.{HasLongs}
use Rattle.run_counts.proofs.DataLaws.{function_of, counts_more}
use Rattle.run_counts.proofs.function_data.all_counts.Goals as goal

pub loop-k-preserved : goal.loop-k-preserved
loop-k-preserved c =
    let fs = c.args.functions.now in
    let cs = c.args.machine.now.counters in
    let ws = c.args.machine.now.words in
    let k = c.loop-k.k in
    let f : FunctionValue = c.index-functions-k.result in
    let front = c.loop-k.all.items in
    let d : FunctionDataValue = c.in_ok-function_counts.field-0 in
    let lt : k < length fs = c.loop-k-test.true in
    let is : d ≡ function_of k cs ws (get_or fs k f) =
    c.in_ok-function_counts.ensures.value
    ∙ ap (λ (g : FunctionValue). function_of k cs ws g) (c.function.view_is ∙ c.index-functions-k.is) in
    let is_new : c.push.new.self.items ≡ front ++ d ∷ [] = c.in_ok-push.ensures.items in
    record {
      value = counts_more k cs ws fs f front _ d _ lt is is_new c.loop-k.invariant.value;
      longs = subst (All HasLongs) (sym is_new) (All-push HasLongs front d c.loop-k.invariant.longs
          c.in_ok-function_counts.ensures.longs);
    }
