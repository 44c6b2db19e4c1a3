use Rattle.std.proofs.Common.{sym, ◌∙◌}
use Rattle.c_grammar.proofs.Lists.{leads_fits}
use Rattle.c_exprs.proofs.ChainLaws.{operators_ended}
use Rattle.c_exprs.proofs.nested.Reader.operators.Goals as goal

pub returns : goal.returns
returns g c =
    leads_fits c.loop-operator.invariant.0 (operators_ended c.args.precedence
    (sym c.operator_at.ensures ∙ c.in_default.is) c.loop-operator.invariant.1)
