use Rattle.std.proofs.Common.{◌∙◌, ◌++◌, ap, subst, arith}
use Rattle.std.specs.List.{All}
use Rattle.std.proofs.lemmas.List.{take_all}
use Rattle.std.proofs.lemmas.List.Elements.{All-more}
use Rattle.stack_ops.specs.Code.{FunctionValue}
use Rattle.code_file.specs.InWords.{IsFunctionInWords}
use Rattle.code_file.specs.Spelling.{function_bytes}
use Rattle.code_file.proofs.WriteLaws.{written_more}
use Rattle.code_file.proofs.write.put_functions.Goals as goal

pub loop-function-preserved : goal.loop-function-preserved
loop-function-preserved c = record {
  bytes = written_more function_bytes c.args.functions.now c.loop-function.function-index c.function-item.result
      c.loop-function.out.items c.put_function.new.out.items _ c.loop-function-test.true
      (c.in_ok-put_function.ensures.spelled
      ∙ ap (λ (f : FunctionValue). c.loop-function.out.items ++ function_bytes f) c.function-item.is)
      c.loop-function.invariant.bytes;
  fit = All-more (λ (f : FunctionValue). IsFunctionInWords f) c.args.functions.now c.loop-function.function-index
      c.function-item.result c.loop-function-test.true c.loop-function.invariant.fit
      (subst (λ (f : FunctionValue). IsFunctionInWords f) c.function-item.is c.in_ok-put_function.ensures.fit);
}

pub returns-clause-fit : goal.returns-clause-fit
returns-clause-fit c =
    subst (All (λ (f : FunctionValue). IsFunctionInWords f))
    (take_all c.loop-function.function-index c.args.functions.now
    (let end = c.loop-function-test.false in omega (arith, end)))
    c.loop-function.invariant.fit
