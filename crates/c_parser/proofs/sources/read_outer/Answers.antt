use Rattle.std.proofs.Common.{sym}
use Rattle.c_grammar.proofs.Laws.{by_look}
use Rattle.c_grammar.specs.Forms.{function_at}
use Rattle.c_grammar.specs.Rules.{Rule}
use Rattle.c_tree.specs.TreeView.{outer_view}
use Rattle.c_grammar.specs.Grammar as grammar
use Rattle.c_parser.proofs.sources.read_outer.Goals as goal

pub returns-then-function_at : goal.returns-then-function_at
returns-then-function_at c =
    by_look c.args.text.now Rule.outer outer_view grammar.outer_as
    function_at c.args.tokens.now c.args.room
    (sym c.if-function_at.ensures) c.read_function.result
    c.read_function.ensures

pub returns-else-function_at : goal.returns-else-function_at
returns-else-function_at c =
    by_look c.args.text.now Rule.outer outer_view grammar.outer_as
    function_at c.args.tokens.now c.args.room
    (sym c.if-function_at.ensures) c.read_globals.result
    c.read_globals.ensures
