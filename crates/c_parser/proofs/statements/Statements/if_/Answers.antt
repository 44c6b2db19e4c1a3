use Rattle.std.proofs.Common.{arith}
use Rattle.c_grammar.proofs.Laws.{refused_behind, refused_lacking, refused_part}
use Rattle.c_grammar.proofs.Steps.{levels_read, part_read, passed, token_read, value_read}
use Rattle.c_grammar.specs.Reads.{Refuses}
use Rattle.c_grammar.specs.Rules.{Rule}
use Rattle.c_tree.specs.TreeView.{stmt_view}
use Rattle.c_parser.proofs.statements.Statements.if_.Goals as goal

pub returns-in_err-word : goal.returns-in_err-word
returns-in_err-word g c =
    passed stmt_view c.from_residual.result c.from_residual.ensures.1
    (refused_lacking Rule.statement Rule.any c.in_err-word.ensures)

pub returns-in_err-test : goal.returns-in_err-test
returns-in_err-test g c =
    passed stmt_view c.from_residual-in_err-test.result c.from_residual-in_err-test.ensures.1
    (refused_behind Rule.statement Rule.any c.in_ok-word.ensures.1
    (refused_part Rule.statement Rule.condition c.in_err-test.ensures (omega arith)))

pub returns-in_err-both : goal.returns-in_err-both
returns-in_err-both g c =
    passed stmt_view c.from_residual-in_err-both.result c.from_residual-in_err-both.ensures.1
    (refused_behind Rule.statement Rule.any c.in_ok-word.ensures.1
    (refused_behind Rule.statement Rule.condition c.in_ok-test.ensures.front
    (refused_part Rule.statement Rule.branches c.in_err-both.ensures (omega arith))))

pub returns-in_err-if_ : goal.returns-in_err-if_
returns-in_err-if_ g c =
    passed stmt_view c.from_residual-in_err-if_.result c.from_residual-in_err-if_.ensures.1 Refuses.no_memory

pub returns : goal.returns
returns g c =
    levels_read (omega (arith, c.max.ensures))
    (token_read Rule.statement Rule.any c.in_ok-word.ensures
    (part_read Rule.statement Rule.condition c.in_ok-test.ensures (omega arith)
    (part_read Rule.statement Rule.branches c.in_ok-both.ensures (omega arith)
    (value_read Rule.statement c.in_ok-if_.ensures))))
