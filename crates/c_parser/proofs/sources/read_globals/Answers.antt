use Rattle.std.proofs.Common.{arith, refl}
use Rattle.c_grammar.proofs.Laws.{refused_part}
use Rattle.c_grammar.proofs.Steps.{levels_read, part_read, passed, value_read}
use Rattle.c_grammar.specs.Rules.{Rule}
use Rattle.c_tree.specs.TreeView.{outer_view}
use Rattle.c_parser.proofs.sources.read_globals.Goals as goal

pub returns-in_err-variables : goal.returns-in_err-variables
returns-in_err-variables c =
    passed outer_view c.from_residual.result c.from_residual.ensures.1
    (refused_part Rule.outer Rule.declaration c.in_err-variables.ensures (omega arith))

pub returns : goal.returns
returns c =
    levels_read (omega arith)
    (part_read Rule.outer Rule.declaration c.in_ok-variables.ensures (omega arith)
    (value_read Rule.outer refl))
