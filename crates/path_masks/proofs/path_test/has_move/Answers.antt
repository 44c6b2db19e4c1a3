use Rattle.std.proofs.Common.{sym, ◌∙◌, arith}
use Rattle.path_masks.specs.UnderWay.{has_move}
use Rattle.path_masks.proofs.TestLaws.{move_step, move_none}
use Rattle.path_masks.proofs.path_test.has_move.Goals as goal

pub loop-at-preserved : goal.loop-at-preserved
loop-at-preserved c = record {
  low = (let h = c.loop-at.invariant.low in omega (arith, h));
  told = move_step c.args.from c.args.to c.args.path.now c.loop-at.at 0 c.is_move.result
      (has_move c.args.from c.args.to c.args.path.now)
      c.loop-at.invariant.low c.loop-at-test.true c.is_move.ensures c.if-is_move.false c.loop-at.invariant.told;
}

pub returns : goal.returns
returns c = sym (move_none c.args.from c.args.to c.args.path.now c.loop-at.at c.loop-at.invariant.low
    (let h = c.loop-at-test.false in omega (arith, h))) ∙ c.loop-at.invariant.told
