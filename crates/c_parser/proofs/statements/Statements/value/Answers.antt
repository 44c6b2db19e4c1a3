use Rattle.std.proofs.Common.{arith}
use Rattle.c_grammar.proofs.Laws.{refused_part}
use Rattle.c_grammar.proofs.Steps.{levels_read, part_read, passed, value_read}
use Rattle.c_grammar.specs.Rules.{Rule}
use Rattle.c_tree.specs.TreeView.{stmt_view}
use Rattle.c_tokens.specs.declared.token.Punct.TheVariants as mark
use Rattle.c_parser.proofs.statements.Statements.value.Goals as goal

pub returns-in_err-ended : goal.returns-in_err-ended
returns-in_err-ended g c =
    passed stmt_view c.from_residual.result c.from_residual.ensures.1
    (refused_part Rule.statement (Rule.ended mark.Semicolon) c.in_err-ended.ensures (omega arith))

pub returns : goal.returns
returns g c =
    levels_read (omega arith)
    (part_read Rule.statement (Rule.ended mark.Semicolon) c.in_ok-ended.ensures (omega arith)
    (value_read Rule.statement c.value.ensures))
