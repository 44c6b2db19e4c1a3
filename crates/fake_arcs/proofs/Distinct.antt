-- Sorted targets, each once.
use Rattle.std.proofs.Common.{◌≡◌, refl, sym, ap, subst, ◌∙◌, ℕ, zero, suc, ◌≤◌, ◌<◌, ◌==◌, List}
use Rattle.std.proofs.Common.{[], ◌∷◌, ◌++◌, map, length, Bool, true, false, cond, ◌⊎◌, inl, inr, arith, eq-eqb}
use Rattle.std.proofs.Common.{eqb-true, eqb, nat_cmp, take_all}
use Rattle.std.specs.Prelude.{ℤ, nat_lt, take}
use Rattle.std.specs.List.{Contains, AllPairs, dedup}
use Rattle.std.specs.List.Sorted.{IsSorted, IsPermutation}
use Rattle.std.proofs.lemmas.Bool.{both_ways, or_cases, or_left, or_right, cases_eq}
use Rattle.std.proofs.lemmas.Bool.{ltb-false, ltb-true}
use Rattle.std.proofs.lemmas.List.Kept.{AllPairs-from_increasing, Contains-dedup_nat, Contains-from_dedup}
use Rattle.std.proofs.lemmas.List.Sorted.{Contains-permutation, IsPermutation-sym}
use Rattle.std.proofs.lemmas.Map.Keys.{IsStrictlyIncreasing-dedup}
use Rattle.flow_graph.specs.Graph.{Ending}
use Rattle.flow_graph.specs.Ascending.{inserted}
use Rattle.flow_graph.specs.Nets.{targets, among}
use Rattle.fake_arcs.specs.Marking.{goals_of}
use Rattle.fake_arcs.proofs.Lockstep.{itself}
use Rattle.fake_arcs.proofs.Tidied.{among_cases}
use Rattle.fake_arcs.proofs.Worklist.{goals_target, target_goals}

-- each number is below all behind it
abbrev Up : List ℕ → Type 0
Up [] = Unit {0}
Up (x ∷ xs) = ((y : ℕ) → among y xs ≡ true → x < y) × Up xs

-- lists that go up and have the same members are equal
up_same : (xs ys : List ℕ) → Up xs → Up ys → ((t : ℕ) → among t xs ≡ true → among t ys ≡ true)
    → ((t : ℕ) → among t ys ≡ true → among t xs ≡ true) → xs ≡ ys
up_same [] [] u v f g = refl
up_same [] (y ∷ ys) u v f g = absurd (let never : false ≡ true = g y (itself y ys) in cc)
up_same (x ∷ xs) [] u v f g = absurd (let never : false ≡ true = f x (itself x xs) in cc)
up_same (x ∷ xs) (y ∷ ys) u v f g =
    let same : x ≡ y = first (or_cases (x == y) (among x ys) (f x (itself x xs)))
    (or_cases (y == x) (among y xs) (g y (itself y ys))) in
    ap (λ (h : ℕ). h ∷ xs) same ∙ ap (λ (l : List ℕ). y ∷ l) (up_same xs ys u.1 v.1
    (λ t m. by_f t m (or_cases (t == y) (among t ys) (f t (or_right _ _ m))) same)
    (λ t m. by_g t m (or_cases (t == x) (among t xs) (g t (or_right _ _ m))) same))
  where
    first : ((x == y) ≡ true) ⊎ (among x ys ≡ true) → ((y == x) ≡ true) ⊎ (among y xs ≡ true) → x ≡ y
    first (inl e) h = eqb-true x y e
    first (inr m) (inl e) = sym (eqb-true y x e)
    first (inr m) (inr n) = absurd (let a = v.0 x m in let b = u.0 y n in omega (arith, a, b))

    by_f : (t : ℕ) → among t xs ≡ true → ((t == y) ≡ true) ⊎ (among t ys ≡ true) → x ≡ y → among t ys ≡ true
    by_f t m (inl e) same = absurd (let a = u.0 t m in let b = eqb-true t y e in omega (arith, a, b, same))
    by_f t m (inr l) same = l

    by_g : (t : ℕ) → among t ys ≡ true → ((t == x) ≡ true) ⊎ (among t xs ≡ true) → x ≡ y → among t xs ≡ true
    by_g t m (inl e) same = absurd (let a = v.0 t m in let b = eqb-true t x e in omega (arith, a, b, same))
    by_g t m (inr l) same = l

up_line : (n : ℕ) (ls : List ℕ) → Up ls → Up (inserted n ls)
up_line n [] u = ((λ y m. absurd (let never : false ≡ true = m in cc)), tt)
up_line n (l ∷ ls) u = go (nat_lt n l) refl (n == l) refl (up_line n ls u.1)
  where
    go : (x : Bool) → nat_lt n l ≡ x → (y : Bool) → (n == l) ≡ y → Up (inserted n ls)
        → Up (cond x (n ∷ l ∷ ls) (cond y (l ∷ ls) (l ∷ inserted n ls)))
    go true ex y ey rec = (
      (λ t m. elim (or_cases (t == l) (among t ls) m) [
        | inl e ↦ (let a = ltb-true n l ex in let b = eqb-true t l e in omega (arith, a, b))
        | inr k ↦ (let a = ltb-true n l ex in let b = u.0 t k in omega (arith, a, b))
      ]),
      u,
    )
    go false ex true ey rec = u
    go false ex false ey rec = (
      (λ t m. elim (among_cases n t ls m) [
        | inl e ↦ (let a = ltb-false n l ex in let b = eqb-true t n e in over t (cases_eq n l) a b)
        | inr k ↦ u.0 t k
      ]),
      rec,
    )
      where
        over : (t : ℕ) → (n ≡ l) ⊎ (n ≡ l → ⊥) → l ≤ n → t ≡ n → l < t
        over t (inl e) a b = absurd (both_ways _ ey (eq-eqb n l e))
        over t (inr o) a b = omega (arith, o, a, b)

up_targets : (cases : List (ℤ × ℕ)) (default : ℕ) → Up (targets (Ending.Switch cases default))
up_targets [] default = ((λ y m. absurd (let never : false ≡ true = m in cc)), tt)
up_targets (c ∷ cases) default = up_line c.1 (targets (Ending.Switch cases default)) (up_targets cases default)

contains_among : (xs : List ℕ) (t : ℕ) → among t xs ≡ true → Contains xs t
contains_among [] t m = absurd (let never : false ≡ true = m in cc)
contains_among (x ∷ xs) t m = elim (or_cases (t == x) (among t xs) m) [
  | inl e ↦ (zero, omega arith, sym (eqb-true t x e))
  | inr l ↦ (let h = contains_among xs t l in let w = h.1 in (suc h.0, omega (arith, w), h.2))
]

among_contains : (xs : List ℕ) (t : ℕ) → Contains xs t → among t xs ≡ true
among_contains [] t (k, w, e) = absurd (omega (arith, w))
among_contains (x ∷ xs) t (zero, w, e) = or_left _ _ (eq-eqb t x (sym e))
among_contains (x ∷ xs) t (suc k, w, e) = or_right _ _ (among_contains xs t (k, omega (arith, w), e))

up_increasing : (xs : List ℕ) → AllPairs (λ x y. x < y) xs → Up xs
up_increasing [] h = tt
up_increasing (x ∷ xs) h = (
  (λ y m. (let c = contains_among xs y m in let w = c.1 in
      subst (λ z. x < z) c.2 (h 0 (suc c.0) y (omega arith) (omega (arith, w))))),
  up_increasing xs (λ i j d l w. h (suc i) (suc j) d (omega (arith, l)) (omega (arith, w))),
)

pub sorted_targets : (cases : List (ℤ × ℕ)) (default : ℕ) (raw sorted new : List ℕ)
    → raw ≡ goals_of (Ending.Switch cases default) → IsPermutation raw sorted → IsSorted nat_cmp sorted
    → new ≡ dedup eqb sorted → new ≡ targets (Ending.Switch cases default)
sorted_targets cases default raw sorted new e p s d =
    d ∙ up_same (dedup eqb sorted) (targets (Ending.Switch cases default))
    (up_increasing (dedup eqb sorted)
    (AllPairs-from_increasing (dedup eqb sorted) (IsStrictlyIncreasing-dedup sorted s)))
    (up_targets cases default)
    (λ t m. goals_target (Ending.Switch cases default) t (subst (λ l. among t l ≡ true) e
    (among_contains raw t (Contains-permutation sorted raw t (IsPermutation-sym raw sorted p)
    (Contains-from_dedup eqb sorted t (contains_among (dedup eqb sorted) t m))))))
    (λ t m. among_contains (dedup eqb sorted) t (Contains-dedup_nat sorted t (Contains-permutation raw sorted t p
    (contains_among raw t
    (subst (λ l. among t l ≡ true) (sym e) (target_goals (Ending.Switch cases default) t m))))))

same_pairs : (cases : List (ℤ × ℕ)) → map (λ (c : ℤ × ℕ). c.1) (map (λ (c : ℤ × ℕ). (c.0, c.1)) cases)
    ≡ map (λ (c : ℤ × ℕ). c.1) cases
same_pairs [] = refl
same_pairs (c ∷ cases) = ap (λ (l : List ℕ). c.1 ∷ l) (same_pairs cases)

-- the cases' targets, as they stand in what the program holds, and the default
pub raw_goals : (cases : List (ℤ × ℕ)) (default k : ℕ) (found raw : List ℕ)
    → found ≡ map (λ (c : ℤ × ℕ). c.1) (take k cases) → length cases ≤ k → raw ≡ found ++ default ∷ []
    → raw ≡ goals_of (Ending.Switch (map (λ (c : ℤ × ℕ). (c.0, c.1)) cases) default)
raw_goals cases default k found raw e l r =
    r ∙ ap (λ (x : List ℕ). x ++ default ∷ [])
    (e ∙ ap (λ (x : List (ℤ × ℕ)). map (λ (c : ℤ × ℕ). c.1) x) (take_all k cases l) ∙ sym (same_pairs cases))
