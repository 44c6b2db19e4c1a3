use Rattle.std.proofs.Common.{◌≡◌, ◌<◌, ◌≤◌, ◌++◌, ◌∷◌, [], length, get_or, sym, ap, subst, ◌∙◌}
use Rattle.std.specs.List.{All}
use Rattle.std.proofs.lemmas.List.Elements.{All-push}
use Rattle.gcda_format.specs.Data.{FunctionDataValue, word_limit}
use Rattle.stack_ops.specs.Code.{FunctionValue}
use Rattle.run_counts.specs.Counts.{function_zeros}
use Rattle.run_counts.proofs.DataLaws.{zeros_more}
use Rattle.run_counts.proofs.function_data.all_zeros.Goals as goal

pub loop-function-preserved : goal.loop-function-preserved
loop-function-preserved c =
    let fs = c.args.functions.now in
    let k = c.loop-function.function-index in
    let f : FunctionValue = c.function-item.result in
    let front = c.loop-function.all.items in
    let d : FunctionDataValue = c.in_ok-function_zeros.field-0 in
    let lt : k < length fs = c.loop-function-test.true in
    let is : d ≡ function_zeros (get_or fs k f) =
    c.in_ok-function_zeros.ensures.value ∙ ap (λ (g : FunctionValue). function_zeros g) c.function-item.is in
    let is_new : c.push.new.self.items ≡ front ++ d ∷ [] = c.in_ok-push.ensures.items in
    record {
      value = zeros_more k fs f front _ d _ lt is is_new c.loop-function.invariant.value;
      checksums = subst (All (λ (x : FunctionDataValue). x.checksum ≤ word_limit)) (sym is_new)
          (All-push (λ (x : FunctionDataValue). x.checksum ≤ word_limit) front d c.loop-function.invariant.checksums
          c.in_ok-function_zeros.ensures.checksum);
    }
