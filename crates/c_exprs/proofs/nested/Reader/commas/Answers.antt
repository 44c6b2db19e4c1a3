use Rattle.std.proofs.Common.{sym, ◌∙◌}
use Rattle.c_grammar.proofs.Lists.{leads_fits}
use Rattle.c_exprs.proofs.ChainLaws.{commas_ended}
use Rattle.c_exprs.proofs.nested.Reader.commas.Goals as goal

pub returns : goal.returns
returns g c =
    leads_fits c.loop-whole.invariant.0 (commas_ended
    (sym c.next_is.ensures ∙ c.loop-whole-test.false) c.loop-whole.invariant.1)
