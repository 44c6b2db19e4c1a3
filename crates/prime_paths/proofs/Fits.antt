-- Whether one block more makes a simple path of a simple path, told by its ends.
use Rattle.std.proofs.Common.{◌≡◌, refl, sym, ap, ap₂, ◌∙◌, ℕ, ◌||◌, ◌&&◌, ◌==◌, List, [], ◌∷◌, ◌++◌, Bool, true, false, not, eq-eqb, eqb-true}
use Rattle.std.proofs.lemmas.Bool.{both_ways, and_parts}
use Rattle.cov_base.specs.Net.{NetValue}
use Rattle.prime_paths.specs.Paths.{among, distinct, front_of, is_simple, is_inner, leads, goes_on, is_path, is_simple_path}
use Rattle.prime_paths.specs.Lister.{last_from, fits_behind, fits_before}
use Rattle.prime_paths.proofs.SimplePaths.{front_behind}

and_assoc : (a b c : Bool) → (a && (b && c)) ≡ ((a && b) && c)
and_assoc true b c = refl
and_assoc false b c = refl

goes_behind : (net : NetValue) (x : ℕ) (p : List ℕ) (b : ℕ) → goes_on net x (p ++ b ∷ [])
    ≡ (goes_on net x p && (leads net (last_from x p) b && (is_inner net b && true)))
goes_behind net x [] b = refl
goes_behind net x (y ∷ p) b =
    ap (λ c. leads net x y && (is_inner net y && c)) (goes_behind net y p b)
    ∙ ap (λ c. leads net x y && c) (and_assoc (is_inner net y) (goes_on net y p)
    (leads net (last_from y p) b && (is_inner net b && true)))
    ∙ and_assoc (leads net x y) (is_inner net y && goes_on net y p)
    (leads net (last_from y p) b && (is_inner net b && true))

-- a number behind a list is one of it, or the last
pub among_behind : (x : ℕ) (p : List ℕ) (b : ℕ) → among x (p ++ b ∷ []) ≡ (among x p || (x == b))
among_behind x [] b = or_false (x == b)
  where
    or_false : (a : Bool) → (a || false) ≡ a
    or_false true = refl
    or_false false = refl
among_behind x (y ∷ p) b = ap (λ c. (x == y) || c) (among_behind x p b) ∙ assoc (x == y) (among x p) (x == b)
  where
    assoc : (a b c : Bool) → (a || (b || c)) ≡ ((a || b) || c)
    assoc true b c = refl
    assoc false b c = refl

same_swapped : (x b : ℕ) → (x == b) ≡ (b == x)
same_swapped x b = go (x == b) refl (b == x) refl
  where
    go : (c : Bool) → (x == b) ≡ c → (d : Bool) → (b == x) ≡ d → c ≡ d
    go true e true f = refl
    go false e false f = refl
    go true e false f = absurd (both_ways _ f (eq-eqb b x (sym (eqb-true x b e))))
    go false e true f = absurd (both_ways _ e (eq-eqb x b (sym (eqb-true b x f))))

pub distinct_behind : (p : List ℕ) (b : ℕ) → distinct (p ++ b ∷ []) ≡ (distinct p && not (among b p))
distinct_behind [] b = refl
distinct_behind (x ∷ p) b =
    ap₂ (λ c d. not c && d) (among_behind x p b) (distinct_behind p b)
    ∙ ap (λ e. not (among x p || e) && (distinct p && not (among b p))) (same_swapped x b)
    ∙ turned (among x p) (b == x) (distinct p) (among b p)
  where
    turned : (a e d m : Bool) → (not (a || e) && (d && not m)) ≡ ((not a && d) && not (e || m))
    turned true e d m = refl
    turned false true true m = refl
    turned false true false m = refl
    turned false false d m = refl

-- behind
pub fits_behind_simple : (net : NetValue) (p : List ℕ) (b : ℕ) → is_simple_path net p ≡ true
    → is_simple_path net (p ++ b ∷ []) ≡ fits_behind net p b
fits_behind_simple net [] b e = absurd (let never : false ≡ true = e in cc)
fits_behind_simple net (x ∷ p) b e =
    let h = and_parts (is_path net (x ∷ p)) (is_simple (x ∷ p)) e in
    let g = and_parts (is_inner net x) (goes_on net x p) h.0 in
    let s = and_parts (distinct (front_of (x ∷ p))) (distinct p) h.1 in
    ap₂ (λ a c. (is_inner net x && a) && (c && distinct (p ++ b ∷ []))) (goes_behind net x p b)
    (ap (λ l. distinct l) (front_behind x p b))
    ∙ ap (λ c. (is_inner net x && (goes_on net x p && (leads net (last_from x p) b && (is_inner net b && true)))) &&
    ((not (among x p) && distinct p) && c)) (distinct_behind p b)
    ∙ left (is_inner net x) g.0 (goes_on net x p) g.1 (distinct p) s.1 (leads net (last_from x p) b) (is_inner net b)
    (among x p) (among b p)
  where
    left : (i : Bool) → i ≡ true → (g : Bool) → g ≡ true → (d : Bool) → d ≡ true → (l j a m : Bool)
        → ((i && (g && (l && (j && true)))) && ((not a && d) && (d && not m))) ≡ (l && (j && (not a && not m)))
    left false e g f d h l j a m = absurd (let never : false ≡ true = e in cc)
    left true e false f d h l j a m = absurd (let never : false ≡ true = f in cc)
    left true e true f false h l j a m = absurd (let never : false ≡ true = h in cc)
    left true e true f true h false j a m = refl
    left true e true f true h true false a m = refl
    left true e true f true h true true true m = refl
    left true e true f true h true true false m = refl

-- in front
pub fits_before_simple : (net : NetValue) (p : List ℕ) (b : ℕ) → is_simple_path net p ≡ true
    → is_simple_path net (b ∷ p) ≡ fits_before net p b
fits_before_simple net [] b e = absurd (let never : false ≡ true = e in cc)
fits_before_simple net (x ∷ p) b e =
    let h = and_parts (is_path net (x ∷ p)) (is_simple (x ∷ p)) e in
    let s = and_parts (distinct (front_of (x ∷ p))) (distinct p) h.1 in
    left (is_path net (x ∷ p)) h.0 (distinct (front_of (x ∷ p))) s.0 (distinct p) s.1 (is_inner net b) (leads net b x)
    (among x p) (among b (front_of (x ∷ p)))
  where
    left : (q : Bool) → q ≡ true → (f : Bool) → f ≡ true → (d : Bool) → d ≡ true → (i l a m : Bool)
        → ((i && (l && q)) && ((not m && f) && (not a && d))) ≡ (i && (l && (not a && not m)))
    left false e f g d h i l a m = absurd (let never : false ≡ true = e in cc)
    left true e false g d h i l a m = absurd (let never : false ≡ true = g in cc)
    left true e true g false h i l a m = absurd (let never : false ≡ true = h in cc)
    left true e true g true h false l a m = refl
    left true e true g true h true false a m = refl
    left true e true g true h true true true true = refl
    left true e true g true h true true true false = refl
    left true e true g true h true true false true = refl
    left true e true g true h true true false false = refl
