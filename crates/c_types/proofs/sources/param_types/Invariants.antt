use Rattle.std.proofs.Common.{◌≡◌, ◌++◌, drop, map}
use Rattle.c_tree.specs.TreeView.{param_view}
use Rattle.c_typing.specs.TypedForms.{number_type}
use Rattle.c_types.proofs.sources.param_types.Given as goal

abbrev pub invariant-loop-p : goal.invariant-loop-p
invariant-loop-p l =
    l.types ++ map number_type (map (λ p. p.base) (map param_view (drop l.p-index l.params)))
    ≡ map number_type (map (λ p. p.base) (map param_view l.params))
