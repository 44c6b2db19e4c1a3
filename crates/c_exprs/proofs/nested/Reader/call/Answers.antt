use Rattle.std.proofs.Common.{refl, ap, ◌∙◌, map, arith}
use Rattle.c_tokens.specs.declared.token.Punct.TheVariants as mark
use Rattle.c_tokens.specs.declared.token.TokenKind.TheVariants as kind
use Rattle.c_tree.specs.Expr.{Kind}
use Rattle.c_tree.specs.TreeView.{expr_view, exprs_of}
use Rattle.c_grammar.specs.Words.{name_of}
use Rattle.c_grammar.specs.Operators.{at}
use Rattle.c_grammar.specs.Rules.{Rule}
use Rattle.c_grammar.proofs.Laws.{refused_behind, refused_lacking, refused_part}
use Rattle.c_grammar.proofs.Steps.{levels_read, part_read, passed, token_read, value_read}
use Rattle.c_exprs.proofs.nested.Reader.call.Goals as goal

pub returns-in_err-open : goal.returns-in_err-open
returns-in_err-open g c =
    passed expr_view c.from_residual-in_err-open.result c.from_residual-in_err-open.ensures.1
    (refused_behind Rule.operand Rule.any c.in_ok-name.ensures.1
    (refused_lacking Rule.operand Rule.any c.in_err-open.ensures))

pub returns-in_err-args : goal.returns-in_err-args
returns-in_err-args g c =
    passed expr_view c.from_residual-in_err-args.result c.from_residual-in_err-args.ensures.1
    (refused_behind Rule.operand Rule.any c.in_ok-name.ensures.1
    (refused_behind Rule.operand Rule.any c.in_ok-open.ensures.1
    (refused_part Rule.operand Rule.arguments c.in_err-args.ensures (omega (arith, c.requires.nests.some)))))

pub returns-in_err-whole : goal.returns-in_err-whole
returns-in_err-whole g c =
    passed expr_view c.from_residual-in_err-whole.result c.from_residual-in_err-whole.ensures.1
    (refused_behind Rule.operand Rule.any c.in_ok-name.ensures.1
    (refused_behind Rule.operand Rule.any c.in_ok-open.ensures.1
    (refused_behind Rule.operand Rule.arguments c.in_ok-args.ensures.front
    (refused_lacking Rule.operand (Rule.token (kind.Mark mark.CloseParen)) c.in_err-whole.ensures))))

pub returns : goal.returns
returns g c =
    levels_read (omega (arith, c.requires.nests.some, c.in_ok-whole.ensures.1))
    (token_read Rule.operand Rule.any c.in_ok-name.ensures
    (token_read Rule.operand Rule.any c.in_ok-open.ensures
    (part_read Rule.operand Rule.arguments c.in_ok-args.ensures (omega (arith, c.requires.nests.some))
    (token_read Rule.operand (Rule.token (kind.Mark mark.CloseParen)) (refl, c.in_ok-whole.ensures.3)
    (value_read Rule.operand (c.in_ok-tree.ensures ∙ ap
    (λ es. at c.in_ok-name.name.tree (Kind.Call (name_of c.args.self.now.text.now c.in_ok-name.name.tree)
    (exprs_of (map expr_view es)))) c.in_ok-whole.ensures.0))))))
