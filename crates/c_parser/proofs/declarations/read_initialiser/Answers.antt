use Rattle.std.proofs.Common.{refl, sym}
use Rattle.c_grammar.proofs.Laws.{by_look}
use Rattle.c_grammar.proofs.Steps.{look_read, value_read}
use Rattle.c_grammar.specs.Rules.{Rule}
use Rattle.c_grammar.specs.Words.{next_is}
use Rattle.c_tree.specs.TreeView.{init_view}
use Rattle.c_tokens.specs.declared.token.Punct.TheVariants as mark
use Rattle.c_grammar.specs.Grammar as grammar
use Rattle.c_parser.proofs.declarations.read_initialiser.Goals as goal

pub returns-then-next_is : goal.returns-then-next_is
returns-then-next_is c =
    by_look c.args.text.now Rule.initialiser init_view grammar.initialiser_as
    (next_is mark.Assign) c.args.tokens.now c.args.room
    (sym c.if-next_is.ensures) c.read_equals.result
    c.read_equals.ensures

pub returns : goal.returns
returns c =
    look_read Rule.initialiser grammar.initialiser_as (next_is mark.Assign) (sym c.if-next_is.ensures) (value_read Rule.initialiser refl)
