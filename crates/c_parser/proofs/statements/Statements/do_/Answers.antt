use Rattle.std.proofs.Common.{arith}
use Rattle.c_grammar.proofs.Laws.{refused_behind, refused_lacking, refused_part}
use Rattle.c_grammar.proofs.Steps.{levels_read, part_read, passed, token_read, value_read}
use Rattle.c_grammar.specs.Reads.{Refuses}
use Rattle.c_grammar.specs.Rules.{Rule}
use Rattle.c_tree.specs.TreeView.{stmt_view}
use Rattle.c_parser.proofs.statements.Statements.do_.Goals as goal

pub returns-in_err-word : goal.returns-in_err-word
returns-in_err-word g c =
    passed stmt_view c.from_residual.result c.from_residual.ensures.1
    (refused_lacking Rule.statement Rule.any c.in_err-word.ensures)

pub returns-in_err-body : goal.returns-in_err-body
returns-in_err-body g c =
    passed stmt_view c.from_residual-in_err-body.result c.from_residual-in_err-body.ensures.1
    (refused_behind Rule.statement Rule.any c.in_ok-word.ensures.1
    (refused_part Rule.statement Rule.statement c.in_err-body.ensures (omega arith)))

pub returns-in_err-until : goal.returns-in_err-until
returns-in_err-until g c =
    passed stmt_view c.from_residual-in_err-until.result c.from_residual-in_err-until.ensures.1
    (refused_behind Rule.statement Rule.any c.in_ok-word.ensures.1
    (refused_behind Rule.statement Rule.statement c.in_ok-body.ensures.front
    (refused_part Rule.statement Rule.until c.in_err-until.ensures (omega arith))))

pub returns-in_err-do_while : goal.returns-in_err-do_while
returns-in_err-do_while g c =
    passed stmt_view c.from_residual-in_err-do_while.result c.from_residual-in_err-do_while.ensures.1
    Refuses.no_memory

pub returns : goal.returns
returns g c =
    levels_read (omega (arith, c.max.ensures))
    (token_read Rule.statement Rule.any c.in_ok-word.ensures
    (part_read Rule.statement Rule.statement c.in_ok-body.ensures (omega arith)
    (part_read Rule.statement Rule.until c.in_ok-until.ensures (omega arith)
    (value_read Rule.statement c.in_ok-do_while.ensures))))
