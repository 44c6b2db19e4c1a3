use Rattle.std.proofs.Common.{arith, refl, sym}
use Rattle.c_grammar.proofs.Laws.{by_look, by_rule_read}
use Rattle.c_grammar.specs.Rules.{Rule}
use Rattle.c_grammar.specs.Words.{type_at}
use Rattle.c_tree.specs.TreeView.{stmt_view}
use Rattle.c_grammar.specs.Grammar as grammar
use Rattle.c_parser.proofs.statements.read_item.Goals as goal

pub returns-then-type_at : goal.returns-then-type_at
returns-then-type_at g c =
    by_look c.args.text.now Rule.item stmt_view grammar.item_as
    type_at c.args.tokens.now c.args.room
    (sym c.if-type_at.ensures) c.read_variables_item.result
    c.read_variables_item.ensures

pub returns-else-type_at : goal.returns-else-type_at
returns-else-type_at g c =
    by_look c.args.text.now Rule.item stmt_view grammar.item_as
    type_at c.args.tokens.now c.args.room
    (sym c.if-type_at.ensures) c.read_inner.result
    (by_rule_read c.args.text.now Rule.item Rule.statement (λ s. s) stmt_view stmt_view
    c.args.tokens.now c.args.room c.args.room (λ x. refl) (omega arith)
    (omega arith) c.read_inner.result c.read_inner.ensures)
