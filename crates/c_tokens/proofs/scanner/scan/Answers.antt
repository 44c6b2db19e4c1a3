use Rattle.c_tokens.proofs.ScanLaws.{reached_end, reached_refuses}
use Rattle.c_tokens.proofs.scanner.scan.Goals as goal

pub returns-in-Err-clause-err : goal.returns-in-Err-clause-err
returns-in-Err-clause-err c =
    reached_refuses c.args.text.now c.loop-place.place.at c.loop-place.tokens.items c.in-Err.refusal c.loop-place.invariant.2 c.in-Err.ensures.refused

pub returns-clause-ok : goal.returns-clause-ok
returns-clause-ok c = reached_end c.args.text.now c.loop-place.place.at c.loop-place.tokens.items c.loop-place-test.false c.loop-place.invariant.2
