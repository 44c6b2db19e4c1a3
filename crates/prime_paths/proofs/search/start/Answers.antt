use Rattle.std.proofs.Common.{sym, subst, ap, ◌∙◌, ◌++◌, ◌∷◌, [], List, ℕ}
use Rattle.prime_paths.specs.Search.{Comes, from_path}
use Rattle.prime_paths.proofs.Growing.{visits_start}
use Rattle.prime_paths.proofs.search.start.Goals as goal

pub returns-clause-found : goal.returns-clause-found
returns-clause-found g c =
    subst (λ o. Comes o c.grow_from-grown.new.found c.grow_from-grown.result)
    (ap (λ (p : List ℕ). from_path c.args.ways.now c.blocks-2.result p c.args.found.now)
    (c.in_ok-push.ensures.blocks ∙ ap (λ (p : List ℕ). p ++ c.args.block ∷ []) c.requires.blocks)
    ∙ ap (λ n. from_path c.args.ways.now n (c.args.block ∷ []) c.args.found.now) c.blocks-2.ensures
    ∙ sym (visits_start c.args.ways.now c.args.ways.now.blocks c.args.block c.args.found.now))
    c.grow_from-grown.ensures.found
