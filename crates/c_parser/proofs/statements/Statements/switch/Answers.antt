use Rattle.std.proofs.Common.{arith}
use Rattle.c_grammar.proofs.Laws.{refused_behind, refused_lacking, refused_part}
use Rattle.c_grammar.proofs.Steps.{levels_read, part_read, passed, token_read, value_read}
use Rattle.c_grammar.specs.Reads.{Refuses}
use Rattle.c_grammar.specs.Rules.{Rule}
use Rattle.c_tree.specs.TreeView.{stmt_view}
use Rattle.c_parser.proofs.statements.Statements.switch.Goals as goal

pub returns-in_err-word : goal.returns-in_err-word
returns-in_err-word g c =
    passed stmt_view c.from_residual.result c.from_residual.ensures.1
    (refused_lacking Rule.statement Rule.any c.in_err-word.ensures)

pub returns-in_err-value : goal.returns-in_err-value
returns-in_err-value g c =
    passed stmt_view c.from_residual-in_err-value.result c.from_residual-in_err-value.ensures.1
    (refused_behind Rule.statement Rule.any c.in_ok-word.ensures.1
    (refused_part Rule.statement Rule.condition c.in_err-value.ensures (omega arith)))

pub returns-in_err-cases : goal.returns-in_err-cases
returns-in_err-cases g c =
    passed stmt_view c.from_residual-in_err-cases.result c.from_residual-in_err-cases.ensures.1
    (refused_behind Rule.statement Rule.any c.in_ok-word.ensures.1
    (refused_behind Rule.statement Rule.condition c.in_ok-value.ensures.front
    (refused_part Rule.statement Rule.cases c.in_err-cases.ensures (omega arith))))

pub returns-in_err-switch : goal.returns-in_err-switch
returns-in_err-switch g c =
    passed stmt_view c.from_residual-in_err-switch.result c.from_residual-in_err-switch.ensures.1 Refuses.no_memory

pub returns : goal.returns
returns g c =
    levels_read (omega (arith, c.max.ensures))
    (token_read Rule.statement Rule.any c.in_ok-word.ensures
    (part_read Rule.statement Rule.condition c.in_ok-value.ensures (omega arith)
    (part_read Rule.statement Rule.cases c.in_ok-cases.ensures (omega arith)
    (value_read Rule.statement c.in_ok-switch.ensures))))
