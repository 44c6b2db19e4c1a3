use Rattle.std.proofs.Common.{◌≡◌, ◌++◌, drop, map}
use Rattle.c_tree.specs.TreeView.{param_view}
use Rattle.c_types.proofs.heads.param_bases.Given as goal

abbrev pub invariant-loop-p : goal.invariant-loop-p
invariant-loop-p l =
    l.bases ++ map (λ p. p.base) (map param_view (drop l.p-index l.params)) ≡ map (λ p. p.base) (map param_view l.params)
