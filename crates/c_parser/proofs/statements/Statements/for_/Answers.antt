use Rattle.std.proofs.Common.{arith}
use Rattle.c_grammar.proofs.Laws.{refused_behind, refused_lacking, refused_part}
use Rattle.c_grammar.proofs.Steps.{levels_read, part_read, passed, token_read, value_read}
use Rattle.c_grammar.specs.Reads.{Refuses}
use Rattle.c_grammar.specs.Rules.{Rule}
use Rattle.c_tree.specs.TreeView.{stmt_view}
use Rattle.c_parser.proofs.statements.Statements.for_.Goals as goal

pub returns-in_err-word : goal.returns-in_err-word
returns-in_err-word g c =
    passed stmt_view c.from_residual.result c.from_residual.ensures.1
    (refused_lacking Rule.statement Rule.any c.in_err-word.ensures)

pub returns-in_err-head : goal.returns-in_err-head
returns-in_err-head g c =
    passed stmt_view c.from_residual-in_err-head.result c.from_residual-in_err-head.ensures.1
    (refused_behind Rule.statement Rule.any c.in_ok-word.ensures.1
    (refused_part Rule.statement Rule.for_head c.in_err-head.ensures (omega arith)))

pub returns-in_err-body : goal.returns-in_err-body
returns-in_err-body g c =
    passed stmt_view c.from_residual-in_err-body.result c.from_residual-in_err-body.ensures.1
    (refused_behind Rule.statement Rule.any c.in_ok-word.ensures.1
    (refused_behind Rule.statement Rule.for_head c.in_ok-head.ensures.front
    (refused_part Rule.statement Rule.statement c.in_err-body.ensures (omega arith))))

pub returns-in_err-for_ : goal.returns-in_err-for_
returns-in_err-for_ g c =
    passed stmt_view c.from_residual-in_err-for_.result c.from_residual-in_err-for_.ensures.1 Refuses.no_memory

pub returns : goal.returns
returns g c =
    levels_read (omega (arith, c.max.ensures))
    (token_read Rule.statement Rule.any c.in_ok-word.ensures
    (part_read Rule.statement Rule.for_head c.in_ok-head.ensures (omega arith)
    (part_read Rule.statement Rule.statement c.in_ok-body.ensures (omega arith)
    (value_read Rule.statement c.in_ok-for_.ensures))))
