use Rattle.std.proofs.Common.{sym}
use Rattle.c_grammar.proofs.Laws.{by_look}
use Rattle.c_grammar.specs.Forms.{item_at}
use Rattle.c_grammar.specs.Rules.{Rule}
use Rattle.c_tree.specs.TreeView.{item_view}
use Rattle.c_grammar.specs.Grammar as grammar
use Rattle.c_parser.proofs.switches.read_switch_item.Goals as goal

pub returns-in-Case : goal.returns-in-Case
returns-in-Case g c =
    by_look c.args.text.now Rule.switch_item item_view grammar.switch_item_as
    item_at c.args.tokens.now c.args.room
    (sym c.in-Case.ensures) c.read_case.result
    c.read_case.ensures

pub returns-in-Default : goal.returns-in-Default
returns-in-Default g c =
    by_look c.args.text.now Rule.switch_item item_view grammar.switch_item_as
    item_at c.args.tokens.now c.args.room
    (sym c.in-Default.ensures) c.read_default.result
    (c.read_default.ensures c.args.room)

pub returns-in-Item : goal.returns-in-Item
returns-in-Item g c =
    by_look c.args.text.now Rule.switch_item item_view grammar.switch_item_as
    item_at c.args.tokens.now c.args.room
    (sym c.in-Item.ensures) c.read_labelled.result
    c.read_labelled.ensures
