use Rattle.std.proofs.Common.{ap, arith, option_map}
use Rattle.c_grammar.proofs.Laws.{refused_part}
use Rattle.c_grammar.proofs.Steps.{levels_read, part_read, passed, value_read}
use Rattle.c_grammar.specs.Reads.{Refuses}
use Rattle.c_grammar.specs.Rules.{Rule}
use Rattle.c_parser.proofs.Exits.{no_level}
use Rattle.c_tree.specs.Stmt.{OtherStmt}
use Rattle.c_tree.specs.TreeView.{other_of, stmt_view}
use Rattle.c_tokens.specs.declared.token.Punct.TheVariants as mark
use Rattle.c_parser.proofs.for_heads.read_first_value.Goals as goal

pub returns-in_err-value : goal.returns-in_err-value
returns-in_err-value c =
    passed (λ s. other_of (option_map stmt_view s)) c.from_residual.result c.from_residual.ensures.1
    (refused_part Rule.first (Rule.closed mark.Semicolon) c.in_err-value.ensures (omega arith))

pub returns-in_err-stated : goal.returns-in_err-stated
returns-in_err-stated c =
    passed (λ s. other_of
    (option_map stmt_view s)) c.from_residual-in_err-stated.result c.from_residual-in_err-stated.ensures.1
    Refuses.no_memory

pub returns : goal.returns
returns c =
    levels_read (omega arith)
    (part_read Rule.first (Rule.closed mark.Semicolon) c.in_ok-value.ensures (omega arith)
    (value_read Rule.first (ap (λ s. OtherStmt.There s) c.in_ok-stated.ensures)))

pub returns-then-room-eq0 : goal.returns-then-room-eq0
returns-then-room-eq0 c = no_level Rule.first (Rule.closed mark.Semicolon) (omega (arith, c.if-room-eq0.true))
