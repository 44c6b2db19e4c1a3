use Rattle.std.proofs.Common.{arith}
use Rattle.c_grammar.specs.Reads.{Refuses}
use Rattle.c_grammar.proofs.Steps.{passed}
use Rattle.c_exprs.proofs.SideLaws.{deeper_lacking}
use Rattle.c_exprs.proofs.nested.Reader.deeper.Goals as goal

pub returns-then-levels-self : goal.returns-then-levels-self
returns-then-levels-self g c = Refuses.too_deep (λ t n rest p. omega (arith, p.1, c.if-levels-self.true))

pub returns-in_err-first : goal.returns-in_err-first
returns-in_err-first g c =
    passed (λ t. t) c.from_residual.result c.from_residual.ensures.1
    (deeper_lacking c.args.levels c.in_err-first.ensures)
