use Rattle.std.proofs.Common.{refl, arith}
use Rattle.c_tree.specs.TreeView.{expr_view}
use Rattle.c_grammar.specs.Rules.{Rule}
use Rattle.c_grammar.specs.Grammar.{by_rule}
use Rattle.c_grammar.proofs.Laws.{refused_part}
use Rattle.c_grammar.proofs.Steps.{deep_most, passed}
use Rattle.c_exprs.proofs.ChainLaws.{chain_read}
use Rattle.c_exprs.proofs.nested.Reader.expression.Goals as goal

pub returns-in_err-left : goal.returns-in_err-left
returns-in_err-left g c =
    passed expr_view c.from_residual.result c.from_residual.ensures.1
    (refused_part Rule.expression Rule.assignment c.in_err-left.ensures (omega arith))

pub returns : goal.returns
returns g c =
    chain_read c.args.self.now.text.now Rule.expression Rule.assignment
    (Rule.commas (expr_view c.in_ok-left.left.tree) c.in_ok-left.left.levels) (λ e. e) expr_view expr_view
    (λ e n. by_rule (Rule.commas e n)) c.args.tokens.now c.in_ok-left.left.rest.now
    (expr_view c.in_ok-left.left.tree) c.in_ok-left.left.levels _ (λ x. refl) refl c.in_ok-left.ensures
    (λ x j rest p. deep_most p) c.commas.result c.commas.ensures
