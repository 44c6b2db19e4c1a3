-- One step over a list of lists of lines, seen as its items.
use Rattle.std.proofs.Common.{◌≡◌, ℕ, ◌+◌, ◌<◌, cond, ◌&&◌, ltb, List, length, get_or, drop, map, Some, ◌∙◌, ap, arith}
use Rattle.std.proofs.lemmas.List.{at_drop_more, get_or-map, length-map}
use Rattle.cov_base.specs.Net.{first_wrong_list, suits}

pub first_wrong_list_more : {X : Type 0} (view : X → List ℕ) (xs : List X) (i blocks : ℕ) (d : X) → i < length xs
    → first_wrong_list i blocks (drop i (map view xs)) ≡ cond (ltb i blocks && suits i (view (get_or xs i d))) (first_wrong_list (i + 1) blocks (drop (i + 1) (map view xs))) (Some i)
first_wrong_list_more view xs i blocks d h =
    at_drop_more (first_wrong_list i blocks) (map view xs) i (view d) (omega (arith, length-map xs view))
    ∙ ap (λ x. cond (ltb i blocks && suits i x) (first_wrong_list (i + 1) blocks (drop (i + 1) (map view xs))) (Some i)) (get_or-map view xs i d (view d) h)
