use Rattle.std.proofs.Common.{refl, rules}
use Rattle.c_grammar.proofs.Spends.{reader_spends}
use Rattle.c_grammar.specs.Rules.{Listed, Rule}
use Rattle.c_tree.specs.TreeView.{param_view}
use Rattle.c_parser.proofs.params.read_listed.Goals as goal

pub read_list-requires : goal.read_list-requires
read_list-requires c = λ k. (
  search rules,
  (
    (λ ts. search rules),
    (λ text ts r p.
        reader_spends text.now Rule.parameter param_view ts.now 0 r refl (search rules)),
  ),
)

pub returns : goal.returns
returns c =
    c.read_list.ensures (Listed.parameters) param_view refl (λ text ts r p. search rules)
