-- The numbers of cases as the check keeps them.
use Rattle.std.proofs.Common.{◌≡◌, refl, sym, ap, subst, ◌∙◌, ℤ, Bool, true, false, cond, ◌||◌, List, [], ◌∷◌, ◌++◌}
use Rattle.std.specs.List.{list_any}
use Rattle.std.specs.Ordering.{int_eq}
use Rattle.indexmap.specs.IndexSet.{insert_key}
use Rattle.c_typing.specs.StmtFaults.{Labels, is_among}

pub among : (n : ℤ) (ms : List ℤ) → list_any (int_eq n) ms ≡ is_among n ms
among n [] = refl
among n (m ∷ ms) = ap (λ b. int_eq n m || b) (among n ms)

-- a number that isn't among them yet goes behind the others
pub one_more : (n : ℤ) (keys after : List ℤ) (default : Bool) (l : Labels) → ◌≡◌ {A = Labels}
    (record { values = keys; default = default }) l → after ≡ insert_key int_eq keys n → is_among n l.values ≡ false
    → ◌≡◌ {A = Labels} (record { values = after; default = default })
    (record { values = l.values ++ n ∷ []; default = l.default })
one_more n keys after default l view is new =
    subst (λ (x : Labels). ◌≡◌ {A = Labels} (record { values = after; default = default })
    (record { values = x.values ++ n ∷ []; default = x.default })) view
    (ap (λ vs. make vs) (is ∙ ap (λ b. cond b keys (keys ++ n ∷ []))
    (among n keys ∙ (ap (λ (x : Labels). is_among n x.values) view ∙ new))))
  where
    make : List ℤ → Labels
    make vs = record { values = vs; default = default }
