use Rattle.std.proofs.Common.{◌≡◌, drop, map}
use Rattle.c_tree.specs.TreeView.{param_view}
use Rattle.c_typing.specs.Sources.{same_bases}
use Rattle.c_types.proofs.heads.same_bases.Given as goal

abbrev pub invariant-loop-at : goal.invariant-loop-at
invariant-loop-at l =
    same_bases (drop l.at l.bases) (map (λ p. p.base) (map param_view (drop l.at l.params)))
    ≡ same_bases l.bases (map (λ p. p.base) (map param_view l.params))
