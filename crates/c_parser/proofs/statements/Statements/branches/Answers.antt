use Rattle.std.proofs.Common.{arith, option_map}
use Rattle.c_grammar.proofs.Laws.{refused_behind, refused_part}
use Rattle.c_grammar.proofs.Steps.{levels_read, part_read, passed}
use Rattle.c_grammar.specs.Rules.{Rule}
use Rattle.c_tree.specs.TreeView.{other_of, stmt_view}
use Rattle.c_parser.proofs.statements.Statements.branches.Goals as goal

pub returns-in_err-first : goal.returns-in_err-first
returns-in_err-first g c =
    passed (λ b. (
      stmt_view b.first,
      other_of
          (option_map stmt_view b.other),
    )) c.from_residual.result c.from_residual.ensures.1
    (refused_part Rule.branches Rule.statement c.in_err-first.ensures (omega arith))

pub returns-in_err-both : goal.returns-in_err-both
returns-in_err-both g c =
    passed (λ b. (
      stmt_view b.first,
      other_of
          (option_map stmt_view b.other),
    )) c.from_residual-in_err-both.result c.from_residual-in_err-both.ensures.1
    (refused_behind Rule.branches Rule.statement c.in_ok-first.ensures.front
    (c.in_err-both.ensures))

pub returns : goal.returns
returns g c =
    levels_read (omega (arith, c.max.ensures))
    (part_read Rule.branches Rule.statement c.in_ok-first.ensures (omega arith)
    (c.in_ok-both.ensures))
