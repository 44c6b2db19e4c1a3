use Rattle.std.proofs.Common.{◌∙◌, ◌<◌, ◌^◌, ℕ, ap, subst, arith}
use Rattle.std.specs.List.{All}
use Rattle.std.proofs.lemmas.Result.{on_ok_weaker}
use Rattle.stack_ops.specs.declared.operation.Op.{Op}
use Rattle.stack_ops.specs.Code.{FunctionValue}
use Rattle.code_file.specs.OpItems.{fields_of}
use Rattle.code_file.specs.InWords.{FitWords, words_of}
use Rattle.code_file.proofs.write.put_function.Goals as goal

pub returns-clause-fit : goal.returns-clause-fit
returns-clause-fit c =
    let same = ap (λ (f : FunctionValue). f.checksum) c.function.view_is in
    let small = c.in_ok-put_words.ensures.fit 4 0 (omega arith) in
    let ops = c.deref.ensures.value ∙ ap (λ (f : FunctionValue). f.ops) c.function.view_is in
    let table = c.deref-2.ensures.value ∙ ap (λ (f : FunctionValue). f.table) c.function.view_is in
    on_ok_weaker c.put_table.result (λ fit. record {
      checksum = omega (arith, same, small);
      ops = subst (All (λ (o : Op). FitWords (words_of (fields_of o)))) ops c.in_ok-put_ops.ensures.fit;
      table = subst (All (λ (n : ℕ). n < 2 ^ 64)) table fit;
    }) c.put_table.ensures.fit
