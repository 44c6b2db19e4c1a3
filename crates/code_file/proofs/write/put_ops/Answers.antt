use Rattle.std.proofs.Common.{subst, arith}
use Rattle.std.specs.List.{All}
use Rattle.std.proofs.lemmas.List.{take_all}
use Rattle.std.proofs.lemmas.List.Elements.{All-more}
use Rattle.stack_ops.specs.declared.operation.Op.{Op}
use Rattle.code_file.specs.OpItems.{fields_of, op_bytes}
use Rattle.code_file.specs.InWords.{FitWords, words_of}
use Rattle.code_file.proofs.WriteLaws.{written_more}
use Rattle.code_file.proofs.write.put_ops.Goals as goal

pub loop-op-preserved : goal.loop-op-preserved
loop-op-preserved c = record {
  bytes = written_more op_bytes c.args.ops.now c.loop-op.op-index _ c.loop-op.out.items c.put_op.new.out.items _
      c.loop-op-test.true c.in_ok-put_op.ensures.spelled c.loop-op.invariant.bytes;
  fit = All-more (λ (o : Op). FitWords (words_of (fields_of o))) c.args.ops.now c.loop-op.op-index _
      c.loop-op-test.true c.loop-op.invariant.fit c.in_ok-put_op.ensures.fit;
}

pub returns-clause-fit : goal.returns-clause-fit
returns-clause-fit c =
    subst (All (λ (o : Op). FitWords (words_of (fields_of o))))
    (take_all c.loop-op.op-index c.args.ops.now (let end = c.loop-op-test.false in omega (arith, end)))
    c.loop-op.invariant.fit
