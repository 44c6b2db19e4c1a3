use Rattle.std.proofs.Common.{sym}
use Rattle.c_grammar.proofs.Laws.{by_look}
use Rattle.c_grammar.specs.Rules.{Rule}
use Rattle.c_grammar.specs.Words.{next_is}
use Rattle.c_tree.specs.TreeView.{init_view}
use Rattle.c_tokens.specs.declared.token.Punct.TheVariants as mark
use Rattle.c_grammar.specs.Grammar as grammar
use Rattle.c_parser.proofs.declarations.read_given.Goals as goal

pub returns-then-next_is : goal.returns-then-next_is
returns-then-next_is c =
    by_look c.args.text.now Rule.given init_view grammar.given_as
    (next_is mark.OpenBrace) c.args.tokens.now c.args.room
    (sym c.if-next_is.ensures) c.read_several.result
    c.read_several.ensures

pub returns-else-next_is : goal.returns-else-next_is
returns-else-next_is c =
    by_look c.args.text.now Rule.given init_view grammar.given_as
    (next_is mark.OpenBrace) c.args.tokens.now c.args.room
    (sym c.if-next_is.ensures) c.read_single.result
    c.read_single.ensures
