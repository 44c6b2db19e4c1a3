use Rattle.std.proofs.Common.{◌∙◌, arith}
use Rattle.path_masks.proofs.TestLaws.{ends_at, ends_none}
use Rattle.path_masks.proofs.path_test.ends_by_move.Goals as goal

pub returns-then-path-lt2 : goal.returns-then-path-lt2
returns-then-path-lt2 c = ends_none c.args.from c.args.to c.args.path.now
    (let h = c.if-path-lt2.true in omega (arith, h))

pub returns : goal.returns
returns c = c.is_move.ensures ∙ ends_at c.args.from c.args.to c.args.path.now 0
    (let h = c.if-path-lt2.false in omega (arith, h))
