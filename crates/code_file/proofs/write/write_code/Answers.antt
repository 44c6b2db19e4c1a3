use Rattle.std.proofs.Common.{◌≡◌, ◌∙◌, ap, sym, length, subst, arith, ℤ, List, true}
use Rattle.std.specs.List.{All}
use Rattle.std.proofs.lemmas.Grind.{common_steps}
use Rattle.stack_ops.specs.Code.{FunctionValue, CodeValue}
use Rattle.code_runs.specs.CodeChecks.{is_number}
use Rattle.code_file.specs.InWords.{IsFunctionInWords}
use Rattle.code_file.specs.Reading.{told}
use Rattle.code_file.specs.Spelling.{IsWritable, code_bytes}
use Rattle.code_file.proofs.AgainFile.{file_again}
use Rattle.code_file.proofs.WriteLaws.{writes}
use Rattle.code_file.proofs.write.write_code.Goals as goal

pub put_globals-requires : goal.put_globals-requires
put_globals-requires c =
    let same : c.deref.result.now ≡ c.args.code.now.globals =
    c.deref.ensures.value ∙ ap (λ (v : CodeValue). v.globals) c.code.view_is in
    subst (λ (ns : List ℤ). All (λ n. is_number n ≡ true) ns) (sym same) (writes c.args.code.now c.requires).numbers

pub overflow_cast-len : goal.overflow_cast-len
overflow_cast-len c =
    let few = (writes c.args.code.now c.requires).few in
    let same = ap (λ (v : CodeValue). length v.functions) c.code.view_is in
    omega (arith, few, same)

pub put_functions-requires : goal.put_functions-requires
put_functions-requires c =
    let same : c.deref-2.result.now ≡ c.args.code.now.functions =
    c.deref-2.ensures.value ∙ ap (λ (v : CodeValue). v.functions) c.code.view_is in
    subst (λ (fs : List FunctionValue). All (λ f. IsWritable f) fs) (sym same)
    (writes c.args.code.now c.requires).functions

pub returns-clause-reads : goal.returns-clause-reads
returns-clause-reads c =
    let same = ap (λ (v : CodeValue). v.stamp) c.code.view_is in
    let small = c.in_ok-put_words.ensures.fit 2 0 (omega arith) in
    let functions = c.deref-2.ensures.value ∙ ap (λ (v : CodeValue). v.functions) c.code.view_is in
    let spelled : c.put_functions.new.out.items ≡ code_bytes c.args.code.now = grind (arith, common_steps) in
    ap told spelled ∙ file_again c.args.code.now c.requires (record {
      stamp = omega (arith, same, small);
      functions = subst (All (λ (f : FunctionValue). IsFunctionInWords f)) functions c.in_ok-put_functions.ensures.fit;
    })
