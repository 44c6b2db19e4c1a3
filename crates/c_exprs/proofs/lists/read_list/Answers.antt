use Rattle.std.proofs.Common.{sym, ◌∙◌}
use Rattle.c_grammar.specs.Reads.{Refuses}
use Rattle.c_grammar.proofs.Steps.{passed}
use Rattle.c_exprs.proofs.ListLaws.{reached_next, reached_end, reached_refused, seen}
use Rattle.c_exprs.proofs.lists.read_list.Goals as goal

pub returns-in_err-next : goal.returns-in_err-next
returns-in_err-next g c l view q h =
    passed (seen l view) c.from_residual.result c.from_residual.ensures.1
    (reached_refused c.args.text _ _ _ _ _ c.loop-members.rest _ c.loop-members.invariant c.in_err-next.ensures l view q
    h)

pub returns-in_err-push : goal.returns-in_err-push
returns-in_err-push g c l view q h =
    passed (seen l view) c.from_residual-in_err-push.result c.from_residual-in_err-push.ensures.1 Refuses.no_memory

pub returns-then-not-goes_on : goal.returns-then-not-goes_on
returns-then-not-goes_on g c l view q h =
    reached_end c.args.text _ _ _ _ _ c.loop-members.rest c.in_ok-next.next c.loop-members.invariant
    c.in_ok-next.ensures
    c.in_ok-push.ensures.ok c.max-levels.ensures (sym c.goes_on.ensures ∙ c.if-not-goes_on.true) l view q h

pub loop-members-preserved : goal.loop-members-preserved
loop-members-preserved g c =
    reached_next c.args.text _ _ _ _ _ c.loop-members.rest c.in_ok-next.next c.loop-members.invariant
    c.in_ok-next.ensures
    c.in_ok-push.ensures.ok c.max-levels.ensures (sym c.goes_on.ensures ∙ c.if-not-goes_on.false)
    c.further-rest.ensures.member
