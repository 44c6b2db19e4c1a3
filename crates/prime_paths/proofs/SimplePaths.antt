-- Parts of simple paths are simple paths, and no simple path is long.
use Rattle.std.proofs.Common.{◌≡◌, refl, sym, ap, subst, ◌∙◌, ℕ, ◌-◌, ◌≤◌, ◌||◌, ◌==◌, List, [], ◌∷◌, ◌++◌, length, Bool, true, false, not, inl, inr, arith, append_assoc, append-nil}
use Rattle.std.specs.List.{list_any}
use Rattle.std.proofs.lemmas.Bool.{both_ways, or_cases, or_left, or_right, and_parts, and_from, leb-true, ltb-true}
use Rattle.cov_base.specs.Net.{NetValue}
use Rattle.prime_paths.specs.Paths.{among, distinct, front_of, is_simple, is_inner, leads, goes_on, is_path, is_simple_path, Among, Part, IsPrime}
use Rattle.prime_paths.specs.Lister.{inner_blocks, is_prime}
use Rattle.prime_paths.proofs.ListFacts.{numbers_in, numbers_length, distinct_apart, no_more, any_false, false_any}

-- a list is not empty
abbrev pub Some_in : List ℕ → Type 0
Some_in [] = ⊥
Some_in (x ∷ xs) = Unit {0}

pub some_path : (net : NetValue) (p : List ℕ) → is_simple_path net p ≡ true → Some_in p
some_path net [] e = (let never : false ≡ true = e in cc)
some_path net (x ∷ p) e = tt

-- ---- the first or the last block is left out

pub drop_first : (net : NetValue) (x : ℕ) (p : List ℕ) → Some_in p → is_simple_path net (x ∷ p) ≡ true
    → is_simple_path net p ≡ true
drop_first net x [] some e = absurd some
drop_first net x (y ∷ ys) some e =
    let p = and_parts (is_path net (x ∷ y ∷ ys)) (is_simple (x ∷ y ∷ ys)) e in
    let g = and_parts (is_inner net x) (goes_on net x (y ∷ ys)) p.0 in
    let w = and_parts (leads net x y) (is_path net (y ∷ ys)) g.1 in
    let s = and_parts (distinct (x ∷ front_of (y ∷ ys))) (distinct (y ∷ ys)) p.1 in
    and_from _ _ w.1 (and_from (distinct (front_of (y ∷ ys))) (distinct ys)
    (and_parts (not (among x (front_of (y ∷ ys)))) (distinct (front_of (y ∷ ys))) s.0).1
    (and_parts (not (among y ys)) (distinct ys) s.1).1)

pub front_behind : (x : ℕ) (p : List ℕ) (b : ℕ) → front_of (x ∷ (p ++ b ∷ [])) ≡ x ∷ p
front_behind x [] b = refl
front_behind x (y ∷ ys) b = ap (λ (l : List ℕ). x ∷ l) (front_behind y ys b)

goes_front : (net : NetValue) (a : ℕ) (p r : List ℕ) → goes_on net a (p ++ r) ≡ true → goes_on net a p ≡ true
goes_front net a [] r e = refl
goes_front net a (b ∷ p) r e =
    let l = and_parts _ _ e in
    let i = and_parts _ _ l.1 in
    and_from _ _ l.0 (and_from _ _ i.0 (goes_front net b p r i.1))

among_front : (x y : ℕ) (ys : List ℕ) → among x (front_of (y ∷ ys)) ≡ true → among x (y ∷ ys) ≡ true
among_front x y [] m = absurd (let never : false ≡ true = m in cc)
among_front x y (z ∷ zs) m = elim (or_cases (x == y) (among x (front_of (z ∷ zs))) m) [
  | inl e ↦ or_left _ _ e
  | inr l ↦ or_right _ _ (among_front x z zs l)
]

not_by : (a b : Bool) → (a ≡ true → b ≡ true) → not b ≡ true → not a ≡ true
not_by true true h e = e
not_by true false h e = (let never : false ≡ true = h refl in absurd (cc))
not_by false b h e = refl

distinct_front : (x : ℕ) (xs : List ℕ) → distinct (x ∷ xs) ≡ true → distinct (front_of (x ∷ xs)) ≡ true
distinct_front x [] e = refl
distinct_front x (y ∷ ys) e =
    let d = and_parts _ _ e in
    and_from _ _ (not_by (among x (front_of (y ∷ ys))) (among x (y ∷ ys)) (among_front x y ys) d.0)
    (distinct_front y ys d.1)

pub drop_last : (net : NetValue) (p : List ℕ) (b : ℕ) → Some_in p → is_simple_path net (p ++ b ∷ []) ≡ true
    → is_simple_path net p ≡ true
drop_last net [] b some e = absurd some
drop_last net (x ∷ p) b some e =
    let h = and_parts _ _ e in
    let g = and_parts _ _ h.0 in
    let s = and_parts _ _ h.1 in
    let d : distinct (x ∷ p) ≡ true = subst (λ l. distinct l ≡ true) (front_behind x p b) s.0 in
    and_from _ _ (and_from _ _ g.0 (goes_front net x p (b ∷ []) g.1))
    (and_from _ _ (distinct_front x p d) (and_parts _ _ d).1)

-- ---- parts

some_more : (p r : List ℕ) → Some_in p → Some_in (p ++ r)
some_more [] r some = absurd some
some_more (x ∷ p) r some = tt

pub keeps_front : (net : NetValue) (p r : List ℕ) → Some_in p → is_simple_path net (p ++ r) ≡ true
    → is_simple_path net p ≡ true
keeps_front net p [] some e = subst (λ l. is_simple_path net l ≡ true) (append-nil p) e
keeps_front net p (b ∷ r) some e =
    drop_last net p b some (keeps_front net (p ++ b ∷ []) r (some_more p (b ∷ []) some)
    (subst (λ l. is_simple_path net l ≡ true) (sym (append_assoc p (b ∷ []) r)) e))

pub keeps_rest : (net : NetValue) (f p : List ℕ) → Some_in p → is_simple_path net (f ++ p) ≡ true → is_simple_path net p
    ≡ true
keeps_rest net [] p some e = e
keeps_rest net (x ∷ f) p some e = keeps_rest net f p some (drop_first net x (f ++ p) (behind f) e)
  where
    behind : (f : List ℕ) → Some_in (f ++ p)
    behind [] = some
    behind (y ∷ f) = tt

-- a part of a simple path that isn't empty is a simple path
pub part_simple : (net : NetValue) (p q : List ℕ) → Some_in p → Part p q → is_simple_path net q ≡ true
    → is_simple_path net p ≡ true
part_simple net p q some (f, r, e) s =
    keeps_front net p r some (keeps_rest net f (p ++ r) (some_more p r some)
    (subst (λ l. is_simple_path net l ≡ true) e s))

-- ---- length

inner_in : (net : NetValue) (b : ℕ) → is_inner net b ≡ true → Among b (inner_blocks net)
inner_in net b e =
    let h = and_parts _ _ e in
    let lo = leb-true 2 b h.0 in
    let hi = ltb-true b net.blocks h.1 in
    numbers_in 2 (net.blocks - 2) b lo (omega (arith, lo, hi))

goes_inner : (net : NetValue) (a : ℕ) (p : List ℕ) → goes_on net a p ≡ true → (x : ℕ) → Among x p → is_inner net x
    ≡ true
goes_inner net a [] e x m = absurd m
goes_inner net a (b ∷ p) e x (inl s) =
    let i = and_parts _ _ (and_parts _ _ e).1 in subst (λ k. is_inner net k ≡ true) (sym s) i.0
goes_inner net a (b ∷ p) e x (inr m) =
    let i = and_parts _ _ (and_parts _ _ e).1 in goes_inner net b p i.1 x m

pub first_inner : (net : NetValue) (b : ℕ) (r : List ℕ) → is_simple_path net (b ∷ r) ≡ true → Among b (inner_blocks net)
first_inner net b r e = inner_in net b (and_parts _ _ (and_parts _ _ e).0).0

pub last_inner : (net : NetValue) (p : List ℕ) (b : ℕ) → is_simple_path net (p ++ b ∷ []) ≡ true
    → Among b (inner_blocks net)
last_inner net [] b e = first_inner net b [] e
last_inner net (x ∷ p) b e = inner_in net b (goes_inner net x (p ++ b ∷ []) (and_parts _ _ (and_parts _ _ e).0).1 b
    (behind p))
  where
    behind : (p : List ℕ) → Among b (p ++ b ∷ [])
    behind [] = inl refl
    behind (y ∷ p) = inr (behind p)

-- behind the first block of a simple path stand no more blocks than the net has
pub short : (net : NetValue) (b : ℕ) (r : List ℕ) → is_simple_path net (b ∷ r) ≡ true → length r ≤ net.blocks
short net b r e =
    let h = and_parts _ _ e in
    let few : length r ≤ length (inner_blocks net) = no_more r (inner_blocks net)
    (distinct_apart r (and_parts _ _ h.1).1)
    (λ x m. inner_in net x (goes_inner net b r (and_parts _ _ h.0).1 x m)) in
    let many = numbers_length 2 (net.blocks - 2) in
    omega (arith, few, many)

-- ---- the test of a prime path

-- a list that isn't empty has a last member
pub last_split : (x : ℕ) (f : List ℕ) → (g : List ℕ) × (c : ℕ) × (x ∷ f ≡ g ++ c ∷ [])
last_split x [] = ([], x, refl)
last_split x (y ∷ f) = (let h = last_split y f in (x ∷ h.0, h.1, ap (λ (l : List ℕ). x ∷ l) h.2))

either : (a b : Bool) → (a || b) ≡ false → (a ≡ false) × (b ≡ false)
either false b e = (refl, e)
either true b e = absurd (let never : true ≡ false = e in cc)

not_yes : (a : Bool) → not a ≡ true → a ≡ false
not_yes false e = refl
not_yes true e = absurd (let never : false ≡ true = e in cc)

-- a simple path that passes the test is prime
pub test_prime : (net : NetValue) (p : List ℕ) → is_simple_path net p ≡ true → is_prime net p ≡ true → IsPrime net p
test_prime net p s t = record { simple = s; maximal = λ q sq part. whole q part.0 part.1 part.2 sq }
  where
    none : (b : ℕ) → Among b (inner_blocks net) → (is_simple_path net (p ++ b ∷ []) ≡ false)
        × (is_simple_path net (b ∷ p) ≡ false)
    none b m = either _ _ (any_false (λ b. is_simple_path net (p ++ b ∷ []) || is_simple_path net (b ∷ p)) b
        (inner_blocks net) (not_yes _ t) m)

    in_front : (c : ℕ) → is_simple_path net (c ∷ p) ≡ true → ⊥
    in_front c e = both_ways _ (none c (first_inner net c p e)).1 e

    behind : (b : ℕ) → is_simple_path net (p ++ b ∷ []) ≡ true → ⊥
    behind b e = both_ways _ (none b (last_inner net p b e)).0 e

    more : (r : List ℕ) → is_simple_path net (p ++ r) ≡ true → r ≡ []
    more [] e = refl
    more (b ∷ r) e = absurd (behind b (keeps_front net (p ++ b ∷ []) r (some_more p (b ∷ []) (some_path net p s))
        (subst (λ l. is_simple_path net l ≡ true) (sym (append_assoc p (b ∷ []) r)) e)))

    whole : (q f r : List ℕ) → q ≡ f ++ (p ++ r) → is_simple_path net q ≡ true → q ≡ p
    whole q [] r e sq = e ∙ ap (λ l. p ++ l) (more r (subst (λ l. is_simple_path net l ≡ true) e sq)) ∙ append-nil p
    whole q (x ∷ f) r e sq =
        let k = last_split x f in
        let e2 : q ≡ k.0 ++ ((k.1 ∷ p) ++ r) = e ∙ ap (λ (l : List ℕ). l ++ (p ++ r)) k.2
        ∙ append_assoc k.0 (k.1 ∷ []) (p ++ r) in
        absurd (in_front k.1 (part_simple net (k.1 ∷ p) q tt (k.0, r, e2) sq))

longer : (p : List ℕ) (b : ℕ) → (p ++ b ∷ []) ≡ p → ⊥
longer [] b e = (let never : b ∷ [] ≡ [] = e in cc)
longer (x ∷ p) b e = longer p b (let h : x ∷ (p ++ b ∷ []) ≡ x ∷ p = e in cc)

longer_front : (p : List ℕ) (b : ℕ) → (b ∷ p) ≡ p → ⊥
longer_front p b e = (let h = ap (λ (l : List ℕ). length l) e in omega (arith, h))

-- a prime path passes the test
pub prime_tested : (net : NetValue) (p : List ℕ) → IsPrime net p → is_prime net p ≡ true
prime_tested net p h = passed (list_any (λ b. is_simple_path net (p ++ b ∷ []) || is_simple_path net (b ∷ p))
    (inner_blocks net))
    (false_any (λ b. is_simple_path net (p ++ b ∷ []) || is_simple_path net (b ∷ p)) (inner_blocks net)
    (λ b m. neither (is_simple_path net (p ++ b ∷ [])) (is_simple_path net (b ∷ p)) (behind b) (in_front b)))
  where
    passed : (c : Bool) → c ≡ false → not c ≡ true
    passed true e = absurd (let never : true ≡ false = e in cc)
    passed false e = refl

    behind : (b : ℕ) → is_simple_path net (p ++ b ∷ []) ≡ true → ⊥
    behind b e = longer p b (h.maximal (p ++ b ∷ []) e ([], b ∷ [], refl))

    in_front : (b : ℕ) → is_simple_path net (b ∷ p) ≡ true → ⊥
    in_front b e = longer_front p b (h.maximal (b ∷ p) e (b ∷ [], [], ap (λ (l : List ℕ). b ∷ l) (sym (append-nil p))))

    neither : (a c : Bool) → (a ≡ true → ⊥) → (c ≡ true → ⊥) → (a || c) ≡ false
    neither true c x y = absurd (x refl)
    neither false true x y = absurd (y refl)
    neither false false x y = refl
