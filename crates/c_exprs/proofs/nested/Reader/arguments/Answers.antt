use Rattle.std.proofs.Common.{refl, sym, ◌∙◌}
use Rattle.c_tree.specs.TreeView.{expr_view}
use Rattle.c_grammar.specs.Rules.{Listed, Rule}
use Rattle.c_grammar.proofs.Spends.{reader_spends}
use Rattle.c_exprs.proofs.OperandLaws.{no_arguments, some_arguments}
use Rattle.c_exprs.proofs.nested.Reader.arguments.Goals as goal

pub returns-then-next_is : goal.returns-then-next_is
returns-then-next_is g c = no_arguments c.args.tokens.now (sym c.next_is.ensures ∙ c.if-next_is.true) c.new.ensures

pub read_list-requires : goal.read_list-requires
read_list-requires g c κs = (
  (refl, tt),
  (
    λ ts. c.requires.nests.callable _ _ ts _,
    λ text ts r p. reader_spends text.now Rule.assignment expr_view ts.now _ r refl
        (c.requires.nests.reads _ text ts _ r p),
  ),
)

pub returns : goal.returns
returns g c =
    some_arguments c.args.self.now.text.now c.args.tokens.now _
    (sym c.next_is.ensures ∙ c.if-next_is.false) c.read_list.result
    (c.read_list.ensures Listed.arguments expr_view refl (λ text ts r p. c.requires.nests.reads _ text ts _ r p))
