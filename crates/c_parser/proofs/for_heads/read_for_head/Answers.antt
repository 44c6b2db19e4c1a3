use Rattle.std.proofs.Common.{arith, refl}
use Rattle.c_grammar.proofs.Laws.{refused_behind, refused_lacking, refused_part}
use Rattle.c_grammar.proofs.Steps.{levels_read, part_read, passed, token_read, value_read}
use Rattle.c_grammar.specs.Rules.{Rule}
use Rattle.c_tree.specs.TreeView.{for_view}
use Rattle.c_tokens.specs.declared.token.Punct.TheVariants as mark
use Rattle.c_tokens.specs.declared.token.TokenKind.TheVariants as kind
use Rattle.c_parser.proofs.for_heads.read_for_head.Goals as goal

pub returns-in_err-open : goal.returns-in_err-open
returns-in_err-open c =
    passed for_view c.from_residual.result c.from_residual.ensures.1
    (refused_lacking Rule.for_head (Rule.token (kind.Mark mark.OpenParen)) c.in_err-open.ensures)

pub returns-in_err-first : goal.returns-in_err-first
returns-in_err-first c =
    passed for_view c.from_residual-in_err-first.result c.from_residual-in_err-first.ensures.1
    (refused_behind Rule.for_head (Rule.token (kind.Mark mark.OpenParen)) c.in_ok-open.ensures.1
    (refused_part Rule.for_head Rule.first c.in_err-first.ensures (omega arith)))

pub returns-in_err-controls : goal.returns-in_err-controls
returns-in_err-controls c =
    passed for_view c.from_residual-in_err-controls.result c.from_residual-in_err-controls.ensures.1
    (refused_behind Rule.for_head (Rule.token (kind.Mark mark.OpenParen)) c.in_ok-open.ensures.1
    (refused_behind Rule.for_head Rule.first c.in_ok-first.ensures.front
    (refused_part Rule.for_head Rule.controls c.in_err-controls.ensures (omega arith))))

pub returns : goal.returns
returns c =
    levels_read (omega (arith, c.max.ensures))
    (token_read Rule.for_head (Rule.token (kind.Mark mark.OpenParen)) c.in_ok-open.ensures
    (part_read Rule.for_head Rule.first c.in_ok-first.ensures (omega arith)
    (part_read Rule.for_head Rule.controls c.in_ok-controls.ensures (omega arith)
    (value_read Rule.for_head refl))))
