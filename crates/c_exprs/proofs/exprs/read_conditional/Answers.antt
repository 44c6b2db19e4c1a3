use Rattle.c_exprs.proofs.exprs.read_conditional.Goals as goal

pub returns : goal.returns
returns c = c.read_inner.ensures
