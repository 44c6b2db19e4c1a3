use Rattle.std.proofs.Common.{pos, arith, subst, All}
use Rattle.std.proofs.lemmas.Int.{ints}
use Rattle.std.proofs.lemmas.List.{take_all}
use Rattle.std.proofs.lemmas.List.Elements.{All-more}
use Rattle.int_ops.specs.Ranges.{IsNumber}
use Rattle.middle_rows.proofs.tests.are_numbers.Goals as goal

pub loop-n-preserved : goal.loop-n-preserved
loop-n-preserved c =
    All-more IsNumber c.args.numbers.now c.loop-n.n-index (pos 0) c.loop-n-test.true c.loop-n.invariant
    (omega (arith, ints), omega (arith, ints))

pub returns : goal.returns
returns c = λ _. subst (All IsNumber) (take_all c.loop-n.n-index c.args.numbers.now c.loop-n-test.false) c.loop-n.invariant
