use Rattle.std.proofs.Common.{arith, refl}
use Rattle.c_grammar.proofs.Laws.{refused_behind, refused_lacking, refused_part}
use Rattle.c_grammar.proofs.Steps.{levels_read, part_read, passed, token_read, value_read}
use Rattle.c_grammar.specs.Rules.{Rule}
use Rattle.c_tree.specs.TreeView.{expr_view}
use Rattle.c_tokens.specs.declared.token.Punct.TheVariants as mark
use Rattle.c_tokens.specs.declared.token.TokenKind.TheVariants as kind
use Rattle.c_tokens.specs.declared.token.Keyword.TheVariants as key
use Rattle.c_parser.proofs.conditions.read_until.Goals as goal

pub returns-in_err-word : goal.returns-in_err-word
returns-in_err-word c =
    passed (λ u. (expr_view u.test, u.line)) c.from_residual.result c.from_residual.ensures.1
    (refused_lacking Rule.until (Rule.token (kind.Key key.While)) c.in_err-word.ensures)

pub returns-in_err-test : goal.returns-in_err-test
returns-in_err-test c =
    passed (λ u. (expr_view u.test, u.line)) c.from_residual-in_err-test.result c.from_residual-in_err-test.ensures.1
    (refused_behind Rule.until (Rule.token (kind.Key key.While)) c.in_ok-word.ensures.1
    (refused_part Rule.until Rule.condition c.in_err-test.ensures (omega arith)))

pub returns-in_err-close : goal.returns-in_err-close
returns-in_err-close c =
    passed (λ u.
    (expr_view u.test, u.line)) c.from_residual-in_err-close.result c.from_residual-in_err-close.ensures.1
    (refused_behind Rule.until (Rule.token (kind.Key key.While)) c.in_ok-word.ensures.1
    (refused_behind Rule.until Rule.condition c.in_ok-test.ensures.front
    (refused_lacking Rule.until (Rule.token (kind.Mark mark.Semicolon)) c.in_err-close.ensures)))

pub returns : goal.returns
returns c =
    levels_read (omega arith)
    (token_read Rule.until (Rule.token (kind.Key key.While)) c.in_ok-word.ensures
    (part_read Rule.until Rule.condition c.in_ok-test.ensures (omega arith)
    (token_read Rule.until (Rule.token (kind.Mark mark.Semicolon)) c.in_ok-close.ensures
    (value_read Rule.until refl))))
