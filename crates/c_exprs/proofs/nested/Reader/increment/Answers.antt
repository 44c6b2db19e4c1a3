use Rattle.c_tree.specs.TreeView.{expr_view}
use Rattle.c_grammar.specs.Rules.{Rule}
use Rattle.c_grammar.specs.Derivations.{Front}
use Rattle.c_exprs.proofs.MadeLaws.{at_kind}
use Rattle.c_exprs.proofs.SideLaws.{passed_on}
use Rattle.c_exprs.proofs.ChainLaws.{increments_refused, increments_joined}
use Rattle.c_exprs.proofs.nested.Reader.increment.Goals as goal

pub returns-in_err-first : goal.returns-in_err-first
returns-in_err-first g c =
    passed_on expr_view (λ e n. Front c.args.self.now.text.now (Rule.increments e n)) c.from_residual.result
    c.from_residual.ensures.1 (increments_refused _ _ _ _ _ c.requires.op c.in_err-first.ensures)

pub returns : goal.returns
returns g c =
    increments_joined c.requires.op c.in_ok-first.ensures
    (at_kind c.in_ok-first.first.tree c.at.ensures c.in_ok-kind.ensures)
