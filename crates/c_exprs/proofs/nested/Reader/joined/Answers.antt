use Rattle.c_tree.specs.TreeView.{expr_view}
use Rattle.c_grammar.specs.Rules.{Rule}
use Rattle.c_grammar.specs.Derivations.{Front}
use Rattle.c_exprs.proofs.SideLaws.{passed_on}
use Rattle.c_exprs.proofs.ChainLaws.{operators_refused, operators_joined}
use Rattle.c_exprs.proofs.nested.Reader.joined.Goals as goal

pub returns-in_err-side : goal.returns-in_err-side
returns-in_err-side g c =
    passed_on expr_view (λ e n. Front c.args.self.now.text.now (Rule.operators c.args.precedence e n))
    c.from_residual.result c.from_residual.ensures.1
    (operators_refused _ c.args.precedence _ _ _ _ c.requires.operator c.in_err-side.ensures)

pub returns : goal.returns
returns g c = operators_joined c.args.precedence c.requires.operator c.in_ok-side.ensures c.in_ok-tree.ensures
