use Rattle.std.proofs.Common.{arith}
use Rattle.c_grammar.proofs.Laws.{refused_behind, refused_lacking, refused_part}
use Rattle.c_grammar.proofs.Steps.{levels_read, part_read, passed, token_read, value_read}
use Rattle.c_grammar.specs.Reads.{Refuses}
use Rattle.c_grammar.specs.Rules.{Rule}
use Rattle.c_tree.specs.TreeView.{item_view}
use Rattle.c_tokens.specs.declared.token.Punct.TheVariants as mark
use Rattle.c_tokens.specs.declared.token.TokenKind.TheVariants as kind
use Rattle.c_parser.proofs.switches.read_case.Goals as goal

pub returns-in_err-word : goal.returns-in_err-word
returns-in_err-word c =
    passed item_view c.from_residual.result c.from_residual.ensures.1
    (refused_lacking Rule.switch_item Rule.any c.in_err-word.ensures)

pub returns-in_err-value : goal.returns-in_err-value
returns-in_err-value c =
    passed item_view c.from_residual-in_err-value.result c.from_residual-in_err-value.ensures.1
    (refused_behind Rule.switch_item Rule.any c.in_ok-word.ensures.1
    (refused_part Rule.switch_item Rule.conditional c.in_err-value.ensures (omega arith)))

pub returns-in_err-colon : goal.returns-in_err-colon
returns-in_err-colon c =
    passed item_view c.from_residual-in_err-colon.result c.from_residual-in_err-colon.ensures.1
    (refused_behind Rule.switch_item Rule.any c.in_ok-word.ensures.1
    (refused_behind Rule.switch_item Rule.conditional c.in_ok-value.ensures.front
    (refused_lacking Rule.switch_item (Rule.token (kind.Mark mark.Colon)) c.in_err-colon.ensures)))

pub returns-in_err-case : goal.returns-in_err-case
returns-in_err-case c =
    passed item_view c.from_residual-in_err-case.result c.from_residual-in_err-case.ensures.1 Refuses.no_memory

pub returns : goal.returns
returns c =
    levels_read (omega arith)
    (token_read Rule.switch_item Rule.any c.in_ok-word.ensures
    (part_read Rule.switch_item Rule.conditional c.in_ok-value.ensures (omega arith)
    (token_read Rule.switch_item (Rule.token (kind.Mark mark.Colon)) c.in_ok-colon.ensures
    (value_read Rule.switch_item c.in_ok-case.ensures))))
