use Rattle.std.proofs.Common.{arith}
use Rattle.c_grammar.proofs.Laws.{refused_part}
use Rattle.c_grammar.proofs.Steps.{levels_read, part_read, passed, value_read}
use Rattle.c_grammar.specs.Rules.{Rule}
use Rattle.c_tree.specs.TreeView.{item_view}
use Rattle.c_parser.proofs.switches.read_labelled.Goals as goal

pub returns-in_err-item : goal.returns-in_err-item
returns-in_err-item g c =
    passed item_view c.from_residual.result c.from_residual.ensures.1
    (refused_part Rule.switch_item Rule.item c.in_err-item.ensures (omega arith))

pub returns : goal.returns
returns g c =
    levels_read (omega arith)
    (part_read Rule.switch_item Rule.item c.in_ok-item.ensures (omega arith)
    (value_read Rule.switch_item c.item_of.ensures))
