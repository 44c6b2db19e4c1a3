use Rattle.std.proofs.Common.{arith, refl}
use Rattle.c_grammar.proofs.Laws.{refused_behind, refused_lacking, refused_part}
use Rattle.c_grammar.proofs.Steps.{levels_read, part_read, passed, token_read, value_read}
use Rattle.c_grammar.specs.Rules.{Rule}
use Rattle.c_tree.specs.TreeView.{size_view}
use Rattle.c_parser.proofs.declarations.read_brackets.Goals as goal

pub returns-in_err-open : goal.returns-in_err-open
returns-in_err-open c =
    passed size_view c.from_residual.result c.from_residual.ensures.1
    (refused_lacking Rule.size Rule.any c.in_err-open.ensures)

pub returns-in_err-length : goal.returns-in_err-length
returns-in_err-length c =
    passed size_view c.from_residual-in_err-length.result c.from_residual-in_err-length.ensures.1
    (refused_behind Rule.size Rule.any c.in_ok-open.ensures.1
    (refused_part Rule.size Rule.length c.in_err-length.ensures (omega arith)))

pub returns : goal.returns
returns c =
    levels_read (omega arith)
    (token_read Rule.size Rule.any c.in_ok-open.ensures
    (part_read Rule.size Rule.length c.in_ok-length.ensures (omega arith)
    (value_read Rule.size refl)))
