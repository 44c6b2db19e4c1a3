use Rattle.std.proofs.Common.{ap, arith, map}
use Rattle.c_grammar.proofs.Laws.{refused_lacking}
use Rattle.c_grammar.proofs.Steps.{levels_read, passed, token_read, value_read}
use Rattle.c_grammar.specs.Rules.{Rule}
use Rattle.c_tree.specs.TreeView.{param_view}
use Rattle.c_parser.proofs.params.read_void.Goals as goal

pub returns-in_err-word : goal.returns-in_err-word
returns-in_err-word c =
    passed (map param_view) c.from_residual.result c.from_residual.ensures.1
    (refused_lacking Rule.parameters Rule.any c.in_err-word.ensures)

pub returns : goal.returns
returns c =
    levels_read (omega arith)
    (token_read Rule.parameters Rule.any c.in_ok-word.ensures
    (value_read Rule.parameters (ap (map param_view) c.new.ensures)))
