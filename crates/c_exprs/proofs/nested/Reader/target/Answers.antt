use Rattle.std.proofs.Common.{sym, ◌∙◌}
use Rattle.c_tree.specs.TreeView.{expr_view}
use Rattle.c_grammar.proofs.Steps.{passed}
use Rattle.c_exprs.proofs.MadeLaws.{at_kind}
use Rattle.c_exprs.proofs.TailLaws.{not_unary, target_refused, target_found}
use Rattle.c_exprs.proofs.nested.Reader.target.Goals as goal

pub returns-then-not-is_unary : goal.returns-then-not-is_unary
returns-then-not-is_unary g c =
    not_unary _ (expr_view c.args.left.tree) _ _ _ c.args.op _ (sym c.is_unary.ensures ∙ c.if-not-is_unary.true)

pub returns-in_err-side : goal.returns-in_err-side
returns-in_err-side g c =
    passed expr_view c.from_residual.result c.from_residual.ensures.1
    (target_refused _ (expr_view c.args.left.tree) _ _ _ c.args.op
    (sym c.is_unary.ensures ∙ c.if-not-is_unary.false) c.in_err-side.ensures)

pub returns : goal.returns
returns g c =
    target_found (sym c.is_unary.ensures ∙ c.if-not-is_unary.false) c.in_ok-side.ensures
    (at_kind c.in_ok-side.side.tree.0 c.at.ensures c.in_ok-kind.ensures)
