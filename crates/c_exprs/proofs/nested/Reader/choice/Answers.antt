use Rattle.std.proofs.Common.{sym, ◌∙◌}
use Rattle.c_exprs.proofs.TailLaws.{choice_read, choice_ended}
use Rattle.c_exprs.proofs.nested.Reader.choice.Goals as goal

pub returns-then-next_is : goal.returns-then-next_is
returns-then-next_is g c =
    choice_read _ _ _ _ _ (sym c.next_is.ensures ∙ c.if-next_is.true) c.chosen.result c.chosen.ensures

pub returns-else-next_is : goal.returns-else-next_is
returns-else-next_is g c = choice_ended (sym c.next_is.ensures ∙ c.if-next_is.false) c.requires.fits
