-- Marks of the blocks of a path, as it goes on and back.
use Rattle.std.proofs.Common.{◌≡◌, refl, sym, ap, subst, ◌∙◌, ℕ, zero, suc, ◌-◌, ◌<◌, ◌||◌, ◌==◌, List, [], ◌∷◌, ◌++◌, length, get_or, set, Bool, true, false, not, ◌⊎◌, inl, inr, arith, eq-eqb}
use Rattle.std.specs.List.{All}
use Rattle.std.proofs.lemmas.Bool.{cases_eq, ne_eqb, and_from, and_parts}
use Rattle.std.proofs.lemmas.List.{get_or-set_same, get_or-set_other, length-set}
use Rattle.std.proofs.lemmas.List.Elements.{All-push}
use Rattle.prime_paths.specs.Paths.{among, distinct, front_of}
use Rattle.prime_paths.specs.Lister.{last_from}
use Rattle.prime_paths.specs.Trail.{last_of, IsTrail}
use Rattle.prime_paths.proofs.SimplePaths.{front_behind}
use Rattle.prime_paths.proofs.Fits.{among_behind, distinct_behind}

pub front_snoc : (init : List ℕ) (x : ℕ) → front_of (init ++ x ∷ []) ≡ init
front_snoc [] x = refl
front_snoc (y ∷ init) x = front_behind y init x

last_from_at : (x : ℕ) (p : List ℕ) (d : ℕ) → get_or (x ∷ p) (length p) d ≡ last_from x p
last_from_at x [] d = refl
last_from_at x (y ∷ p) d = last_from_at y p d

-- the last block stands at the last place
pub last_at : (p : List ℕ) (d : ℕ) → 0 < length p → get_or p (length p - 1) d ≡ last_of p
last_at [] d l = absurd (omega (arith, l))
last_at (x ∷ p) d l = ap (λ k. get_or (x ∷ p) k d) one ∙ last_from_at x p d
  where
    one : suc (length p) - 1 ≡ length p
    one = omega arith

-- no marks, and no blocks
pub trail_start : (marks : List Bool) → ((b : ℕ) → get_or marks b false ≡ false) → IsTrail marks []
trail_start marks none = record { marked = none; within = λ k d l. absurd (omega (arith, l)); apart = refl }

-- the path goes on to another block
pub trail_more : (marks : List Bool) (p : List ℕ) (b : ℕ) → IsTrail marks p → b < length marks → among b p ≡ false
    → IsTrail (set marks b true) (p ++ b ∷ [])
trail_more marks p b h l other = record {
  marked = λ c. mark c (cases_eq c b) ∙ sym (among_behind c p b);
  within = subst (λ n. All (λ c. c < n) (p ++ b ∷ [])) (sym (length-set marks b true))
      (All-push (λ c. c < length marks) p b h.within l);
  apart = distinct_behind p b ∙ and_from _ _ h.apart (ap not other);
}
  where
    or_true : (a : Bool) → true ≡ (a || true)
    or_true true = refl
    or_true false = refl

    or_no : (a c : Bool) → c ≡ false → a ≡ (a || c)
    or_no true c e = refl
    or_no false c e = sym e

    mark : (c : ℕ) → (c ≡ b) ⊎ (c ≡ b → ⊥) → get_or (set marks b true) c false ≡ (among c p || (c == b))
    mark c (inl e) = ap (λ k. get_or (set marks b true) k false) e ∙ get_or-set_same marks b true false l
        ∙ or_true (among c p) ∙ ap (λ x. among c p || x) (sym (eq-eqb c b e))
    mark c (inr o) = get_or-set_other marks b c true false o ∙ h.marked c ∙ or_no (among c p) (c == b) (ne_eqb c b o)

-- the path goes back from its last block
pub trail_less : (marks : List Bool) (p : List ℕ) (b : ℕ) → IsTrail marks (p ++ b ∷ []) → IsTrail (set marks b false) p
trail_less marks p b h = record {
  marked = λ c. mark c (cases_eq c b);
  within = subst (λ n. All (λ c. c < n) p) (sym (length-set marks b false)) (within p h.within);
  apart = apart.0;
}
  where
    apart : (distinct p ≡ true) × (not (among b p) ≡ true)
    apart = and_parts (distinct p) (not (among b p)) (sym (distinct_behind p b) ∙ h.apart)

    not_true : (a : Bool) → not a ≡ true → false ≡ a
    not_true false e = refl
    not_true true e = absurd (let never : false ≡ true = e in cc)

    or_no : (a c : Bool) → c ≡ false → (a || c) ≡ a
    or_no true c e = refl
    or_no false c e = e

    within : (p : List ℕ) → All (λ c. c < length marks) (p ++ b ∷ []) → All (λ c. c < length marks) p
    within [] a = λ k d l. absurd (omega (arith, l))
    within (x ∷ p) a = front (within p (λ k d l. a (suc k) d (omega (arith, l)))) (a 0 x (omega arith))
      where
        front : All (λ c. c < length marks) p → x < length marks → All (λ c. c < length marks) (x ∷ p)
        front h l zero d m = l
        front h l (suc k) d m = h k d (omega (arith, m))

    mark : (c : ℕ) → (c ≡ b) ⊎ (c ≡ b → ⊥) → get_or (set marks b false) c false ≡ among c p
    mark c (inl e) = ap (λ k. get_or (set marks b false) k false) e ∙ unset b ∙ not_true (among b p) apart.1
        ∙ ap (λ k. among k p) (sym e)
      where
        none : (ms : List Bool) (k : ℕ) → get_or (set ms k false) k false ≡ false
        none [] k = refl
        none (m ∷ ms) zero = refl
        none (m ∷ ms) (suc k) = none ms k

        unset : (b : ℕ) → get_or (set marks b false) b false ≡ false
        unset b = none marks b
    mark c (inr o) = get_or-set_other marks b c false false o ∙ h.marked c ∙ among_behind c p b
        ∙ or_no (among c p) (c == b) (ne_eqb c b o)

-- the last block is within the marks
pub last_within : (n : ℕ) (p : List ℕ) → All (λ b. b < n) p → 0 < length p → last_of p < n
last_within n p a l = subst (λ k. k < n) (last_at p 0 l) (a (length p - 1) 0 (omega (arith, l)))
