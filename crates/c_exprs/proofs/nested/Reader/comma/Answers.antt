use Rattle.c_tree.specs.TreeView.{expr_view}
use Rattle.c_grammar.specs.Rules.{Rule}
use Rattle.c_grammar.specs.Derivations.{Front}
use Rattle.c_exprs.proofs.MadeLaws.{at_kind}
use Rattle.c_exprs.proofs.SideLaws.{passed_on}
use Rattle.c_exprs.proofs.ChainLaws.{commas_refused, commas_joined}
use Rattle.c_exprs.proofs.nested.Reader.comma.Goals as goal

pub returns-in_err-side : goal.returns-in_err-side
returns-in_err-side g c =
    passed_on expr_view (λ e n. Front c.args.self.now.text.now (Rule.commas e n)) c.from_residual.result
    c.from_residual.ensures.1 (commas_refused _ _ _ _ _ c.requires.comma c.in_err-side.ensures)

pub returns : goal.returns
returns g c =
    commas_joined c.requires.comma c.in_ok-side.ensures
    (at_kind c.in_ok-side.side.tree.0 c.at.ensures c.in_ok-kind.ensures)
