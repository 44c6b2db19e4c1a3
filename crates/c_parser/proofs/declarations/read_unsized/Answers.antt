use Rattle.std.proofs.Common.{arith, refl}
use Rattle.c_grammar.proofs.Laws.{refused_lacking}
use Rattle.c_grammar.proofs.Steps.{levels_read, passed, token_read, value_read}
use Rattle.c_grammar.specs.Rules.{Rule}
use Rattle.c_tree.specs.TreeView.{size_view}
use Rattle.c_parser.proofs.declarations.read_unsized.Goals as goal

pub returns-in_err-close : goal.returns-in_err-close
returns-in_err-close c = λ room.
    passed size_view c.from_residual.result c.from_residual.ensures.1
    (refused_lacking Rule.length Rule.any c.in_err-close.ensures)

pub returns : goal.returns
returns c = λ room.
    levels_read (omega arith)
    (token_read Rule.length Rule.any c.in_ok-close.ensures
    (value_read Rule.length refl))
