use Rattle.std.proofs.Common.{◌∙◌, sym, ap, length}
use Rattle.stack_ops.specs.Code.{FunctionValue}
use Rattle.code_runs.specs.CodeChecks.{functions_values}
use Rattle.code_checks.specs.Seen.{found}
use Rattle.code_checks.proofs.FieldLaws.{kept_on}
use Rattle.code_checks.proofs.code_rules.functions_values.Goals as goal

pub loop-function-preserved : goal.loop-function-preserved
loop-function-preserved c =
    let code = c.args.code.now in
    let functions = c.args.functions.now in
    let k = kept_on code c.loop-function.start c.loop-function.function-index c.len.result functions
    c.function-item.result (functions_values code 0 functions) c.loop-function-test.true c.function-item.is
    (c.len.ensures ∙ (c.function.inside.ops.ok.0 ∙ ap (λ (f : FunctionValue). length f.ops) c.function.view_is))
    (sym c.in_ok-fault.ensures ∙ ap found c.in_default.is) c.loop-function.invariant.kept c.loop-function.invariant.told in
    record { kept = k.0; told = k.1 }
