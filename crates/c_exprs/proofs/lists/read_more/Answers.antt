use Rattle.std.proofs.Common.{refl, sym, ◌∙◌}
use Rattle.c_exprs.proofs.ListLaws.{more_ended, more_read}
use Rattle.c_exprs.proofs.lists.read_more.Goals as goal

pub returns-then-not-goes_on : goal.returns-then-not-goes_on
returns-then-not-goes_on g c l view q h =
    more_ended c.args.text.now l view c.args.tokens.now c.args.room c.new.ensures q
    (sym c.goes_on.ensures ∙ c.if-not-goes_on.true)

pub read_list-requires : goal.read_list-requires
read_list-requires g c κs = ((refl, tt), (c.requires.callable, c.requires.shortens))

pub returns : goal.returns
returns g c l view q h =
    more_read c.args.text.now l view c.args.tokens.now c.further-behind.result.now c.args.room q
    (sym c.goes_on.ensures ∙ c.if-not-goes_on.false)
    c.further-behind.ensures.member c.read_list.result (c.read_list.ensures l view q h)
