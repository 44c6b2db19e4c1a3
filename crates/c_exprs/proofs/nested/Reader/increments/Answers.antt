use Rattle.std.proofs.Common.{sym, ◌∙◌}
use Rattle.c_grammar.proofs.Lists.{leads_fits}
use Rattle.c_exprs.proofs.ChainLaws.{increments_ended}
use Rattle.c_exprs.proofs.nested.Reader.increments.Goals as goal

pub returns : goal.returns
returns g c =
    leads_fits c.loop-op.invariant.0 (increments_ended
    (sym c.increment_at.ensures ∙ c.in_default.is) c.loop-op.invariant.1)
