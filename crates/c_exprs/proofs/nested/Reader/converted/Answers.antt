use Rattle.std.proofs.Common.{arith}
use Rattle.c_tokens.specs.declared.token.Punct.TheVariants as mark
use Rattle.c_tokens.specs.declared.token.TokenKind.TheVariants as kind
use Rattle.c_tree.specs.TreeView.{expr_view}
use Rattle.c_grammar.specs.Rules.{Rule}
use Rattle.c_grammar.proofs.Laws.{refused_behind, refused_lacking, refused_part}
use Rattle.c_grammar.proofs.Steps.{levels_read, part_read, passed, token_read, value_read}
use Rattle.c_exprs.proofs.MadeLaws.{at_kind}
use Rattle.c_exprs.proofs.nested.Reader.converted.Goals as goal

pub returns-in_err-base : goal.returns-in_err-base
returns-in_err-base g c =
    passed expr_view c.from_residual-in_err-base.result c.from_residual-in_err-base.ensures.1
    (refused_behind Rule.cast Rule.any c.in_ok-open.ensures.1
    (refused_lacking Rule.cast Rule.type_name c.in_err-base.ensures))

pub returns-in_err-close : goal.returns-in_err-close
returns-in_err-close g c =
    passed expr_view c.from_residual-in_err-close.result c.from_residual-in_err-close.ensures.1
    (refused_behind Rule.cast Rule.any c.in_ok-open.ensures.1
    (refused_behind Rule.cast Rule.type_name c.in_ok-base.ensures.1
    (refused_lacking Rule.cast (Rule.token (kind.Mark mark.CloseParen)) c.in_err-close.ensures)))

pub returns-in_err-inner : goal.returns-in_err-inner
returns-in_err-inner g c =
    passed expr_view c.from_residual-in_err-inner.result c.from_residual-in_err-inner.ensures.1
    (refused_behind Rule.cast Rule.any c.in_ok-open.ensures.1
    (refused_behind Rule.cast Rule.type_name c.in_ok-base.ensures.1
    (refused_behind Rule.cast (Rule.token (kind.Mark mark.CloseParen)) c.in_ok-close.ensures.1
    (refused_part Rule.cast Rule.cast c.in_err-inner.ensures (omega (arith, c.requires.nests.some))))))

pub returns : goal.returns
returns g c =
    levels_read (omega (arith, c.requires.nests.some))
    (token_read Rule.cast Rule.any c.in_ok-open.ensures
    (token_read Rule.cast Rule.type_name c.in_ok-base.ensures
    (token_read Rule.cast (Rule.token (kind.Mark mark.CloseParen)) c.in_ok-close.ensures
    (part_read Rule.cast Rule.cast c.in_ok-inner.ensures (omega (arith, c.requires.nests.some))
    (value_read Rule.cast (at_kind c.in_ok-open.open.tree c.at.ensures c.in_ok-kind.ensures))))))
