use Rattle.c_exprs.proofs.nested.+read_inner.Given as goal

abbrev pub decreases-read_inner : goal.decreases-read_inner
decreases-read_inner l = l.room
