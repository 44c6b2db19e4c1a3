use Rattle.std.proofs.Common.{◌≡◌, ◌++◌, drop, map}
use Rattle.prime_paths.proofs.store.Paths.of.Given as goal

abbrev pub invariant-loop-list : goal.invariant-loop-list
invariant-loop-list l = l.paths ++ map (λ v. v.items) (drop l.list-index l.list-items)
    ≡ map (λ v. v.items) l.fn.lists.items
