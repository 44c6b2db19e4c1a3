use Rattle.std.proofs.Common.{arith}
use Rattle.c_grammar.proofs.Laws.{refused_behind, refused_lacking}
use Rattle.c_grammar.proofs.Steps.{levels_read, passed, token_read, value_read}
use Rattle.c_grammar.specs.Rules.{Rule}
use Rattle.c_tree.specs.TreeView.{item_view}
use Rattle.c_tokens.specs.declared.token.Punct.TheVariants as mark
use Rattle.c_tokens.specs.declared.token.TokenKind.TheVariants as kind
use Rattle.c_parser.proofs.switches.read_default.Goals as goal

pub returns-in_err-word : goal.returns-in_err-word
returns-in_err-word c = λ room.
    passed item_view c.from_residual.result c.from_residual.ensures.1
    (refused_lacking Rule.switch_item Rule.any c.in_err-word.ensures)

pub returns-in_err-colon : goal.returns-in_err-colon
returns-in_err-colon c = λ room.
    passed item_view c.from_residual-in_err-colon.result c.from_residual-in_err-colon.ensures.1
    (refused_behind Rule.switch_item Rule.any c.in_ok-word.ensures.1
    (refused_lacking Rule.switch_item (Rule.token (kind.Mark mark.Colon)) c.in_err-colon.ensures))

pub returns : goal.returns
returns c = λ room.
    levels_read (omega arith)
    (token_read Rule.switch_item Rule.any c.in_ok-word.ensures
    (token_read Rule.switch_item (Rule.token (kind.Mark mark.Colon)) c.in_ok-colon.ensures
    (value_read Rule.switch_item c.default.ensures)))
