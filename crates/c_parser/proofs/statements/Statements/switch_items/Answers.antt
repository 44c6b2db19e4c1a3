use Rattle.std.proofs.Common.{refl, rules}
use Rattle.c_grammar.proofs.Spends.{reader_spends}
use Rattle.c_grammar.specs.Rules.{Listed, Rule}
use Rattle.c_tree.specs.TreeView.{item_view}
use Rattle.c_parser.proofs.statements.Statements.switch_items.Goals as goal

pub read_more-requires : goal.read_more-requires
read_more-requires g c = λ k. (
  search rules,
  (
    (λ ts. search rules),
    (λ text ts r p.
        reader_spends text.now Rule.switch_item item_view ts.now c.args.self.now.room r refl (search rules)),
  ),
)

pub returns : goal.returns
returns g c =
    c.read_more.ensures Listed.switch_items item_view refl (λ text ts r p. search rules)
