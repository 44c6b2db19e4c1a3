use Rattle.std.proofs.Common.{refl, rules}
use Rattle.c_grammar.proofs.Spends.{reader_spends}
use Rattle.c_grammar.specs.Rules.{Listed, Rule}
use Rattle.c_tree.specs.TreeView.{outer_view}
use Rattle.c_parser.proofs.sources.read_outers.Goals as goal

pub read_more-requires : goal.read_more-requires
read_more-requires c = λ k. (
  search rules,
  (
    (λ ts. search rules),
    (λ text ts r p.
        reader_spends text.now Rule.outer outer_view ts.now c.args.room r refl (search rules)),
  ),
)

pub returns : goal.returns
returns c =
    c.read_more.ensures Listed.outers outer_view refl (λ text ts r p. search rules)
