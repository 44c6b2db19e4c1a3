use Rattle.std.proofs.Common.{ap, arith, option_map}
use Rattle.c_grammar.proofs.Laws.{refused_part}
use Rattle.c_grammar.proofs.Steps.{levels_read, part_read, passed, value_read}
use Rattle.c_grammar.specs.Rules.{Rule}
use Rattle.c_parser.proofs.Exits.{no_level}
use Rattle.c_tree.specs.Stmt.{OtherStmt}
use Rattle.c_tree.specs.TreeView.{other_of, stmt_view}
use Rattle.c_parser.proofs.for_heads.read_first_variables.Goals as goal

pub returns-in_err-variables : goal.returns-in_err-variables
returns-in_err-variables c =
    passed (λ s. other_of (option_map stmt_view s)) c.from_residual.result c.from_residual.ensures.1
    (refused_part Rule.first Rule.declaration c.in_err-variables.ensures (omega arith))

pub returns : goal.returns
returns c =
    levels_read (omega arith)
    (part_read Rule.first Rule.declaration c.in_ok-variables.ensures (omega arith)
    (value_read Rule.first (ap (λ s. OtherStmt.There s) c.vars.ensures)))

pub returns-then-room-eq0 : goal.returns-then-room-eq0
returns-then-room-eq0 c = no_level Rule.first Rule.declaration (omega (arith, c.if-room-eq0.true))
