use Rattle.std.proofs.Common.{arith, refl}
use Rattle.c_grammar.proofs.Laws.{refused_behind, refused_lacking, refused_part}
use Rattle.c_grammar.proofs.Steps.{levels_read, part_read, passed, token_read, value_read}
use Rattle.c_grammar.specs.Rules.{Rule}
use Rattle.c_tree.specs.TreeView.{init_view}
use Rattle.c_parser.proofs.declarations.read_equals.Goals as goal

pub returns-in_err-equals : goal.returns-in_err-equals
returns-in_err-equals c =
    passed init_view c.from_residual.result c.from_residual.ensures.1
    (refused_lacking Rule.initialiser Rule.any c.in_err-equals.ensures)

pub returns-in_err-given : goal.returns-in_err-given
returns-in_err-given c =
    passed init_view c.from_residual-in_err-given.result c.from_residual-in_err-given.ensures.1
    (refused_behind Rule.initialiser Rule.any c.in_ok-equals.ensures.1
    (refused_part Rule.initialiser Rule.given c.in_err-given.ensures (omega arith)))

pub returns : goal.returns
returns c =
    levels_read (omega arith)
    (token_read Rule.initialiser Rule.any c.in_ok-equals.ensures
    (part_read Rule.initialiser Rule.given c.in_ok-given.ensures (omega arith)
    (value_read Rule.initialiser refl)))
