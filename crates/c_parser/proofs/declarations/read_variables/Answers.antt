use Rattle.std.proofs.Common.{refl, rules}
use Rattle.c_grammar.proofs.Spends.{reader_spends}
use Rattle.c_grammar.specs.Rules.{Listed, Rule}
use Rattle.c_tree.specs.TreeView.{var_view}
use Rattle.c_parser.proofs.declarations.read_variables.Goals as goal

pub read_list-requires : goal.read_list-requires
read_list-requires c = λ k. (
  search rules,
  (
    (λ ts. search rules),
    (λ text ts r p.
        reader_spends text.now (Rule.variable c.args.base) var_view ts.now c.args.room r refl (search rules)),
  ),
)

pub returns : goal.returns
returns c =
    c.read_list.ensures (Listed.variables c.args.base) var_view refl (λ text ts r p. search rules)
