use Rattle.c_exprs.proofs.exprs.read_assignment.Goals as goal

pub returns : goal.returns
returns c = c.read_inner.ensures
