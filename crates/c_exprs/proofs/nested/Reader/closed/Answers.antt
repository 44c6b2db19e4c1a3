use Rattle.std.proofs.Common.{refl, arith}
use Rattle.c_tree.specs.TreeView.{expr_view}
use Rattle.c_grammar.specs.Rules.{Rule}
use Rattle.c_grammar.proofs.Laws.{refused_part}
use Rattle.c_grammar.proofs.Steps.{closed_read, passed}
use Rattle.c_exprs.proofs.nested.Reader.closed.Goals as goal

pub returns-in_err-inner : goal.returns-in_err-inner
returns-in_err-inner g c =
    passed expr_view c.from_residual.result c.from_residual.ensures.1
    (refused_part (Rule.closed c.args.mark) Rule.expression c.in_err-inner.ensures (omega arith))

pub returns : goal.returns
returns g c =
    closed_read c.args.self.now.text.now (Rule.closed c.args.mark) Rule.expression (λ e. e) expr_view expr_view
    c.args.mark c.args.tokens.now _ c.in_ok-inner.inner (λ x. refl) c.in_ok-inner.ensures c.close.result c.close.ensures
