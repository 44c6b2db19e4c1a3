use Rattle.c_tree.specs.TreeView.{expr_view}
use Rattle.c_grammar.proofs.Steps.{passed}
use Rattle.c_exprs.proofs.MadeLaws.{at_kind}
use Rattle.c_exprs.proofs.SideLaws.{choice_refused, choice_found}
use Rattle.c_exprs.proofs.nested.Reader.chosen.Goals as goal

pub returns-in_err-sides : goal.returns-in_err-sides
returns-in_err-sides g c =
    passed expr_view c.from_residual.result c.from_residual.ensures.1
    (choice_refused _ _ _ _ _ c.in_err-sides.ensures)

pub returns : goal.returns
returns g c = choice_found c.in_ok-sides.ensures (at_kind c.in_ok-sides.sides.tree.0 c.at.ensures c.in_ok-kind.ensures)
