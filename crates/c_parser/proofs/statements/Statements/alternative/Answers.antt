use Rattle.std.proofs.Common.{arith, option_map, refl, sym}
use Rattle.c_grammar.proofs.Laws.{refused_behind, refused_lacking, refused_part}
use Rattle.c_grammar.proofs.Steps.{levels_read, look_read, look_refused, part_read, passed, token_read, value_read}
use Rattle.c_grammar.specs.Forms.{else_at}
use Rattle.c_grammar.specs.Rules.{Rule}
use Rattle.c_tree.specs.TreeView.{other_of, stmt_view}
use Rattle.c_grammar.specs.Grammar as grammar
use Rattle.c_parser.proofs.statements.Statements.alternative.Goals as goal

pub returns-then-not-else_at : goal.returns-then-not-else_at
returns-then-not-else_at g c =
    look_read Rule.branches (grammar.alternative_as (stmt_view c.args.first)) else_at (sym c.if-not-else_at.ensures)
    (value_read Rule.branches refl)

pub returns-in_err-word : goal.returns-in_err-word
returns-in_err-word g c =
    passed (λ b. (
      stmt_view b.first,
      other_of
          (option_map stmt_view b.other),
    )) c.from_residual.result c.from_residual.ensures.1
    (look_refused Rule.branches (grammar.alternative_as (stmt_view c.args.first)) else_at (sym c.if-not-else_at.ensures)
    (refused_lacking Rule.branches Rule.any c.in_err-word.ensures))

pub returns-in_err-other : goal.returns-in_err-other
returns-in_err-other g c =
    passed (λ b. (
      stmt_view b.first,
      other_of
          (option_map stmt_view b.other),
    )) c.from_residual-in_err-other.result c.from_residual-in_err-other.ensures.1
    (look_refused Rule.branches (grammar.alternative_as (stmt_view c.args.first)) else_at (sym c.if-not-else_at.ensures)
    (refused_behind Rule.branches Rule.any c.in_ok-word.ensures.1
    (refused_part Rule.branches Rule.statement c.in_err-other.ensures (omega arith))))

pub returns : goal.returns
returns g c =
    look_read Rule.branches (grammar.alternative_as (stmt_view c.args.first)) else_at (sym c.if-not-else_at.ensures)
    (levels_read (omega arith)
    (token_read Rule.branches Rule.any c.in_ok-word.ensures
    (part_read Rule.branches Rule.statement c.in_ok-other.ensures (omega arith)
    (value_read Rule.branches refl))))
