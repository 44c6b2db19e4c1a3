use Rattle.std.proofs.Common.{arith, refl}
use Rattle.c_grammar.proofs.Laws.{refused_behind, refused_lacking, refused_part}
use Rattle.c_grammar.proofs.Steps.{levels_read, part_read, passed, token_read, value_read}
use Rattle.c_grammar.specs.Rules.{Rule}
use Rattle.c_tree.specs.TreeView.{expr_view}
use Rattle.c_tokens.specs.declared.token.Punct.TheVariants as mark
use Rattle.c_tokens.specs.declared.token.TokenKind.TheVariants as kind
use Rattle.c_parser.proofs.conditions.read_condition.Goals as goal

pub returns-in_err-open : goal.returns-in_err-open
returns-in_err-open c =
    passed expr_view c.from_residual.result c.from_residual.ensures.1
    (refused_lacking Rule.condition (Rule.token (kind.Mark mark.OpenParen)) c.in_err-open.ensures)

pub returns-in_err-closed : goal.returns-in_err-closed
returns-in_err-closed c =
    passed expr_view c.from_residual-in_err-closed.result c.from_residual-in_err-closed.ensures.1
    (refused_behind Rule.condition (Rule.token (kind.Mark mark.OpenParen)) c.in_ok-open.ensures.1
    (refused_part Rule.condition (Rule.closed mark.CloseParen) c.in_err-closed.ensures (omega arith)))

pub returns : goal.returns
returns c =
    levels_read (omega arith)
    (token_read Rule.condition (Rule.token (kind.Mark mark.OpenParen)) c.in_ok-open.ensures
    (part_read Rule.condition (Rule.closed mark.CloseParen) c.in_ok-closed.ensures (omega arith)
    (value_read Rule.condition refl)))
