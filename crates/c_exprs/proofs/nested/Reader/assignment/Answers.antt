use Rattle.std.proofs.Common.{arith}
use Rattle.c_tree.specs.TreeView.{expr_view}
use Rattle.c_grammar.specs.Rules.{Rule}
use Rattle.c_grammar.specs.Grammar.{assigned}
use Rattle.c_grammar.proofs.Laws.{refused_part}
use Rattle.c_grammar.proofs.Steps.{deep_most, passed, then_read}
use Rattle.c_exprs.proofs.nested.Reader.assignment.Goals as goal

pub returns-in_err-left : goal.returns-in_err-left
returns-in_err-left g c =
    passed expr_view c.from_residual.result c.from_residual.ensures.1
    (refused_part Rule.assignment Rule.conditional c.in_err-left.ensures (omega arith))

pub returns : goal.returns
returns g c =
    then_read c.args.self.now.text.now Rule.assignment Rule.conditional expr_view assigned c.args.tokens.now
    c.in_ok-left.left.rest.now (expr_view c.in_ok-left.left.tree) c.in_ok-left.left.levels _ c.in_ok-left.ensures
    (λ x j rest p. deep_most p) c.assigned.result c.assigned.ensures
