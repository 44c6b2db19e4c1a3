use Rattle.std.proofs.Common.{arith, option_map, refl}
use Rattle.c_grammar.proofs.Laws.{refused_lacking}
use Rattle.c_grammar.proofs.Steps.{levels_read, passed, token_read, value_read}
use Rattle.c_grammar.specs.Rules.{Rule}
use Rattle.c_tree.specs.TreeView.{other_of, stmt_view}
use Rattle.c_tokens.specs.declared.token.Punct.TheVariants as mark
use Rattle.c_tokens.specs.declared.token.TokenKind.TheVariants as kind
use Rattle.c_parser.proofs.for_heads.read_no_first.Goals as goal

pub returns-in_err-close : goal.returns-in_err-close
returns-in_err-close c = λ room.
    passed (λ s. other_of (option_map stmt_view s)) c.from_residual.result c.from_residual.ensures.1
    (refused_lacking Rule.first (Rule.token (kind.Mark mark.Semicolon)) c.in_err-close.ensures)

pub returns : goal.returns
returns c = λ room.
    levels_read (omega arith)
    (token_read Rule.first (Rule.token (kind.Mark mark.Semicolon)) c.in_ok-close.ensures
    (value_read Rule.first refl))
