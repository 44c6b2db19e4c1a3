use Rattle.std.proofs.Common.{map, refl, sym}
use Rattle.c_grammar.proofs.Laws.{refused_behind, refused_lacking}
use Rattle.c_grammar.proofs.Steps.{look_read, look_refused, passed, token_read, value_read}
use Rattle.c_grammar.specs.Rules.{Rule}
use Rattle.c_grammar.specs.Words.{next_is}
use Rattle.c_tree.specs.TreeView.{expr_view, init_view}
use Rattle.c_tokens.specs.declared.token.Punct.TheVariants as mark
use Rattle.c_tokens.specs.declared.token.TokenKind.TheVariants as kind
use Rattle.c_grammar.specs.Grammar as grammar
use Rattle.c_parser.proofs.declarations.read_close.Goals as goal

pub returns-in_err-comma : goal.returns-in_err-comma
returns-in_err-comma c = λ room.
    passed init_view c.from_residual.result c.from_residual.ensures.1
    (look_refused Rule.given (grammar.braced (map expr_view c.args.values)) (next_is mark.Comma) (sym c.if-next_is.ensures)
    (refused_lacking Rule.given Rule.any c.in_err-comma.ensures))

pub returns-in_err-close : goal.returns-in_err-close
returns-in_err-close c = λ room.
    passed init_view c.from_residual-in_err-close.result c.from_residual-in_err-close.ensures.1
    (look_refused Rule.given (grammar.braced (map expr_view c.args.values)) (next_is mark.Comma) (sym c.if-next_is.ensures)
    (refused_behind Rule.given Rule.any c.in_ok-comma.ensures.1
    (refused_lacking Rule.given (Rule.token (kind.Mark mark.CloseBrace)) c.in_err-close.ensures)))

pub returns-then-next_is : goal.returns-then-next_is
returns-then-next_is c = λ room.
    look_read Rule.given (grammar.braced (map expr_view c.args.values)) (next_is mark.Comma) (sym c.if-next_is.ensures)
    (token_read Rule.given Rule.any c.in_ok-comma.ensures
    (token_read Rule.given (Rule.token (kind.Mark mark.CloseBrace)) c.in_ok-close.ensures
    (value_read Rule.given refl)))

pub returns-in_err-close-2 : goal.returns-in_err-close-2
returns-in_err-close-2 c = λ room.
    passed init_view c.from_residual-in_err-close-2.result c.from_residual-in_err-close-2.ensures.1
    (look_refused Rule.given (grammar.braced (map expr_view c.args.values)) (next_is mark.Comma) (sym c.if-next_is.ensures)
    (refused_lacking Rule.given (Rule.token (kind.Mark mark.CloseBrace)) c.in_err-close-2.ensures))

pub returns : goal.returns
returns c = λ room.
    look_read Rule.given (grammar.braced (map expr_view c.args.values)) (next_is mark.Comma) (sym c.if-next_is.ensures)
    (token_read Rule.given (Rule.token (kind.Mark mark.CloseBrace)) c.in_ok-close-2.ensures
    (value_read Rule.given refl))
