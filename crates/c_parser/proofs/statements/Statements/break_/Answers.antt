use Rattle.std.proofs.Common.{arith}
use Rattle.c_grammar.proofs.Laws.{refused_behind, refused_lacking}
use Rattle.c_grammar.proofs.Steps.{deep_read, levels_read, passed, token_read, value_read}
use Rattle.c_grammar.specs.Rules.{Rule}
use Rattle.c_tree.specs.TreeView.{stmt_view}
use Rattle.c_tokens.specs.declared.token.Punct.TheVariants as mark
use Rattle.c_tokens.specs.declared.token.TokenKind.TheVariants as kind
use Rattle.c_parser.proofs.statements.Statements.break_.Goals as goal

pub returns-in_err-word : goal.returns-in_err-word
returns-in_err-word g c =
    passed stmt_view c.from_residual.result c.from_residual.ensures.1
    (refused_lacking Rule.statement Rule.any c.in_err-word.ensures)

pub returns-in_err-close : goal.returns-in_err-close
returns-in_err-close g c =
    passed stmt_view c.from_residual-in_err-close.result c.from_residual-in_err-close.ensures.1
    (refused_behind Rule.statement Rule.any c.in_ok-word.ensures.1
    (refused_lacking Rule.statement (Rule.token (kind.Mark mark.Semicolon)) c.in_err-close.ensures))

pub returns : goal.returns
returns g c =
    levels_read (omega arith)
    (token_read Rule.statement Rule.any c.in_ok-word.ensures
    (token_read Rule.statement (Rule.token (kind.Mark mark.Semicolon)) c.in_ok-close.ensures
    (deep_read Rule.statement (omega arith) (value_read Rule.statement c.break_.ensures))))
