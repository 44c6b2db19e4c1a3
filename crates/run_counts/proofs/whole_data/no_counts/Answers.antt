use Rattle.std.proofs.Common.{◌≤◌, List, map, ap, ◌∙◌, rules}
use Rattle.gcda_format.specs.Data.{FunctionDataValue, word_limit}
use Rattle.stack_ops.specs.Code.{FunctionValue, CodeValue}
use Rattle.run_counts.specs.Counts.{function_zeros, no_counts}
use Rattle.run_counts.proofs.DataLaws.{no_counts_data, no_counts_few}
use Rattle.run_counts.proofs.whole_data.no_counts.Goals as goal

pub returns-clause-file : goal.returns-clause-file
returns-clause-file c = λ kept.
    let stamp : c.code.inside.stamp ≤ word_limit = search rules in
    let functions = c.in_ok-all_zeros.ensures.value
    ∙ ap (λ (fs : List FunctionValue). map function_zeros fs) c.deref.ensures.value in
    no_counts_data c.args.code.now _
    (ap (λ (ds : List FunctionDataValue). record { stamp = c.code.inside.stamp; runs = 0; functions = ds }) functions
    ∙ ap (λ (x : CodeValue). no_counts x) c.code.view_is) kept stamp c.in_ok-all_zeros.ensures.checksums

pub returns-clause-few : goal.returns-clause-few
returns-clause-few c = λ kept.
    let functions = c.in_ok-all_zeros.ensures.value
    ∙ ap (λ (fs : List FunctionValue). map function_zeros fs) c.deref.ensures.value in
    no_counts_few c.args.code.now _
    (ap (λ (ds : List FunctionDataValue). record { stamp = c.code.inside.stamp; runs = 0; functions = ds }) functions
    ∙ ap (λ (x : CodeValue). no_counts x) c.code.view_is) kept
