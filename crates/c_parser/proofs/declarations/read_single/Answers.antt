use Rattle.std.proofs.Common.{arith, refl}
use Rattle.c_grammar.proofs.Laws.{refused_part}
use Rattle.c_grammar.proofs.Steps.{levels_read, part_read, passed, value_read}
use Rattle.c_grammar.specs.Rules.{Rule}
use Rattle.c_tree.specs.TreeView.{init_view}
use Rattle.c_parser.proofs.declarations.read_single.Goals as goal

pub returns-in_err-value : goal.returns-in_err-value
returns-in_err-value c =
    passed init_view c.from_residual.result c.from_residual.ensures.1
    (refused_part Rule.given Rule.assignment c.in_err-value.ensures (omega arith))

pub returns : goal.returns
returns c =
    levels_read (omega arith)
    (part_read Rule.given Rule.assignment c.in_ok-value.ensures (omega arith)
    (value_read Rule.given refl))
