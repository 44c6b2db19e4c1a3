-- Members of lists, lists in order, and lists without repetition.
use Rattle.std.proofs.Common.{◌≡◌, refl, sym, ap, subst, ◌∙◌, ℕ, zero, suc, ◌+◌, ◌≤◌, ◌<◌, ◌||◌, ◌==◌, List, [], ◌∷◌, ◌++◌, length, Bool, true, false, cond, not, ◌⊎◌, inl, inr, arith, eq-eqb, eqb-true, filter, flat_map}
use Rattle.std.specs.List.{list_any}
use Rattle.std.proofs.lemmas.Bool.{both_ways, or_cases, or_left, or_right, and_parts, cases_eq}
use Rattle.prime_paths.specs.Paths.{among, distinct, Among, Apart, Before, Ascend}
use Rattle.prime_paths.specs.Lister.{numbers}

-- ---- members

pub among_in : (x : ℕ) (xs : List ℕ) → among x xs ≡ true → Among x xs
among_in x [] m = absurd (let never : false ≡ true = m in cc)
among_in x (y ∷ ys) m = elim (or_cases (x == y) (among x ys) m) [
  | inl e ↦ inl (eqb-true x y e)
  | inr l ↦ inr
      (among_in x ys l)
]

pub in_among : (x : ℕ) (xs : List ℕ) → Among x xs → among x xs ≡ true
in_among x [] m = absurd m
in_among x (y ∷ ys) (inl e) = or_left _ _ (eq-eqb x y e)
in_among x (y ∷ ys) (inr m) = or_right _ _ (in_among x ys m)

pub among_left : {A : Type 0} (x : A) (xs ys : List A) → Among x xs → Among x (xs ++ ys)
among_left x [] ys m = absurd m
among_left x (z ∷ zs) ys (inl e) = inl e
among_left x (z ∷ zs) ys (inr m) = inr (among_left x zs ys m)

pub among_right : {A : Type 0} (x : A) (xs ys : List A) → Among x ys → Among x (xs ++ ys)
among_right x [] ys m = m
among_right x (z ∷ zs) ys m = inr (among_right x zs ys m)

pub among_sides : {A : Type 0} (x : A) (xs ys : List A) → Among x (xs ++ ys) → Among x xs ⊎ Among x ys
among_sides x [] ys m = inr m
among_sides x (z ∷ zs) ys (inl e) = inl (inl e)
among_sides x (z ∷ zs) ys (inr m) = elim (among_sides x zs ys m) [ inl l ↦ inl (inr l) | inr r ↦ inr r ]

pub among_each : {X A : Type 0} (f : X → List A) (x : A) (b : X) (ns : List X) → Among b ns → Among x (f b)
    → Among x (flat_map f ns)
among_each f x b [] m h = absurd m
among_each f x b (n ∷ ns) (inl e) h = among_left x (f n) (flat_map f ns) (subst (λ k. Among x (f k)) e h)
among_each f x b (n ∷ ns) (inr m) h = among_right x (f n) (flat_map f ns) (among_each f x b ns m h)

pub among_some : {X A : Type 0} (f : X → List A) (x : A) (ns : List X) → Among x (flat_map f ns) → (b : X) × Among b ns
    × Among x (f b)
among_some f x [] m = absurd m
among_some f x (n ∷ ns) m = elim (among_sides x (f n) (flat_map f ns) m) [
  | inl l ↦ (n, inl refl, l)
  | inr r ↦ (let h = among_some f x ns r in (h.0, inr h.1, h.2))
]

pub among_cond : {A : Type 0} (x : A) (c : Bool) (l : List A) → Among x (cond c l []) → (c ≡ true) × Among x l
among_cond x true l m = (refl, m)
among_cond x false l m = absurd m

pub cond_among : {A : Type 0} (x : A) (c : Bool) (l : List A) → c ≡ true → Among x l → Among x (cond c l [])
cond_among x true l e m = m
cond_among x false l e m = absurd (let never : false ≡ true = e in cc)

pub among_filter : {A : Type 0} (t : A → Bool) (x : A) (xs : List A) → Among x (filter t xs) → (t x ≡ true) × Among x xs
among_filter t x [] m = absurd m
among_filter t x (y ∷ ys) m = go (t y) refl m (among_filter t x ys)
  where
    go : (c : Bool) → t y ≡ c → Among x (cond c (y ∷ filter t ys) (filter t ys))
        → (Among x (filter t ys) → (t x ≡ true) × Among x ys)
        → (t x ≡ true) × Among x (y ∷ ys)
    go true e (inl s) rec = (ap t s ∙ e, inl s)
    go true e (inr m) rec = (let h = rec m in (h.0, inr h.1))
    go false e m rec = (let h = rec m in (h.0, inr h.1))

pub filter_among : {A : Type 0} (t : A → Bool) (x : A) (xs : List A) → t x ≡ true → Among x xs → Among x (filter t xs)
filter_among t x [] e m = absurd m
filter_among t x (y ∷ ys) e m = go (t y) refl m (filter_among t x ys e)
  where
    go : (c : Bool) → t y ≡ c → Among x (y ∷ ys) → (Among x ys → Among x (filter t ys))
        → Among x (cond c (y ∷ filter t ys) (filter t ys))
    go true f (inl s) rec = inl s
    go true f (inr m) rec = inr (rec m)
    go false f (inl s) rec = absurd (both_ways (t y) f (sym (ap t s) ∙ e))
    go false f (inr m) rec = rec m

pub any_false : {A : Type 0} (t : A → Bool) (x : A) (xs : List A) → list_any t xs ≡ false → Among x xs → t x ≡ false
any_false t x [] e m = absurd m
any_false t x (y ∷ ys) e m = go (t y) refl e m (any_false t x ys)
  where
    go : (c : Bool) → t y ≡ c → (c || list_any t ys) ≡ false → Among x (y ∷ ys)
        → (list_any t ys ≡ false → Among x ys → t x ≡ false) → t x ≡ false
    go true f e m rec = absurd (let never : true ≡ false = e in cc)
    go false f e (inl s) rec = ap t s ∙ f
    go false f e (inr m) rec = rec e m

pub false_any : {A : Type 0} (t : A → Bool) (xs : List A) → ((x : A) → Among x xs → t x ≡ false) → list_any t xs ≡ false
false_any t [] h = refl
false_any t (y ∷ ys) h = go (t y) (h y (inl refl)) (false_any t ys (λ x m. h x (inr m)))
  where
    go : (c : Bool) → c ≡ false → list_any t ys ≡ false → (c || list_any t ys) ≡ false
    go true e rec = e
    go false e rec = rec

-- ---- numbers in a row

pub numbers_in : (from n b : ℕ) → from ≤ b → b < from + n → Among b (numbers from n)
numbers_in from zero b lo hi = absurd (omega (arith, lo, hi))
numbers_in from (suc n) b lo hi = elim (cases_eq b from) [
  | inl e ↦ inl e
  | inr o ↦ inr (numbers_in (suc from) n b (omega (arith, lo, o)) (omega (arith, hi)))
]

pub numbers_low : (from n b : ℕ) → Among b (numbers from n) → (from ≤ b) × (b < from + n)
numbers_low from zero b m = absurd m
numbers_low from (suc n) b (inl e) = (omega (arith, e), omega (arith, e))
numbers_low from (suc n) b (inr m) = (let h = numbers_low (suc from) n b m in let l = h.0 in let u = h.1 in
    (omega (arith, l), omega (arith, u)))

pub numbers_length : (from n : ℕ) → length (numbers from n) ≡ n
numbers_length from zero = refl
numbers_length from (suc n) = ap suc (numbers_length (suc from) n)

-- each number is below all behind it
abbrev pub Up : List ℕ → Type 0
Up [] = Unit {0}
Up (x ∷ xs) = ((y : ℕ) → Among y xs → x < y) × Up xs

pub numbers_up : (from n : ℕ) → Up (numbers from n)
numbers_up from zero = tt
numbers_up from (suc n) = (
  (λ y m. (let h = numbers_low (suc from) n y m in let l = h.0 in omega (arith, l))),
  numbers_up (suc from) n,
)

-- ---- lists without repetition

pub distinct_apart : (xs : List ℕ) → distinct xs ≡ true → Apart xs
distinct_apart [] e = tt
distinct_apart (x ∷ xs) e = (
  (λ m. go (among x xs) (in_among x xs m) (and_parts _ _ e).0),
  distinct_apart xs (and_parts _ _ e).1,
)
  where
    go : (c : Bool) → c ≡ true → not c ≡ true → ⊥
    go true a b = (let never : false ≡ true = b in cc)
    go false a b = (let never : false ≡ true = a in cc)

-- a list without one of its members
pub taken_out : {A : Type 0} (x : A) (ys : List A) → Among x ys → (zs : List A) × (length ys ≡ suc (length zs))
    × ((y : A) → Among y ys → (y ≡ x) ⊎ Among y zs)
taken_out x [] m = absurd m
taken_out {A} x (y ∷ ys) (inl e) = (ys, refl, go)
  where
    go : (z : A) → Among z (y ∷ ys) → (z ≡ x) ⊎ Among z ys
    go z (inl s) = inl (s ∙ sym e)
    go z (inr m) = inr m
taken_out {A} x (y ∷ ys) (inr m) = (let h = taken_out x ys m in (y ∷ h.0, ap suc h.1, go h.0 h.2))
  where
    go : (zs : List A) → ((z : A) → Among z ys → (z ≡ x) ⊎ Among z zs) → (z : A) → Among z (y ∷ ys)
        → (z ≡ x) ⊎ Among z (y ∷ zs)
    go zs h z (inl s) = inr (inl s)
    go zs h z (inr m) = elim (h z m) [ inl e ↦ inl e | inr k ↦ inr (inr k) ]

-- a list without repetition is no longer than one that has all its members
pub no_more : {A : Type 0} (xs ys : List A) → Apart xs → ((x : A) → Among x xs → Among x ys) → length xs ≤ length ys
no_more [] ys a h = omega arith
no_more {A} (x ∷ xs) ys a h =
    let t = taken_out x ys (h x (inl refl)) in
    let l = no_more xs t.0 a.1 (λ y m. go t.0 y m (t.2 y (h y (inr m)))) in
    let e = t.1 in
    omega (arith, l, e)
  where
    go : (zs : List A) (y : A) → Among y xs → (y ≡ x) ⊎ Among y zs → Among y zs
    go zs y m (inl e) = absurd (a.0 (subst (λ k. Among k xs) e m))
    go zs y m (inr k) = k

-- ---- the order of a dictionary

pub before_more : (p : List ℕ) (b : ℕ) (r : List ℕ) → Before p (p ++ (b ∷ r))
before_more [] b r = tt
before_more (x ∷ p) b r = inr (refl, before_more p b r)

pub before_sides : (p : List ℕ) (b c : ℕ) (r s : List ℕ) → b < c → Before (p ++ (b ∷ r)) (p ++ (c ∷ s))
before_sides [] b c r s l = inl l
before_sides (x ∷ p) b c r s l = inr (refl, before_sides p b c r s l)

pub before_never : (p q : List ℕ) → Before p q → Before q p → ⊥
before_never p [] a b = a
before_never [] (y ∷ q) a b = b
before_never (x ∷ p) (y ∷ q) (inl l) (inl m) = omega (arith, l, m)
before_never (x ∷ p) (y ∷ q) (inl l) (inr m) = (let e = m.0 in omega (arith, l, e))
before_never (x ∷ p) (y ∷ q) (inr l) (inl m) = (let e = l.0 in omega (arith, e, m))
before_never (x ∷ p) (y ∷ q) (inr l) (inr m) = before_never p q l.1 m.1

pub before_self : (p : List ℕ) → Before p p → ⊥
before_self p h = before_never p p h h

pub join_ascend : (ps qs : List (List ℕ)) → Ascend ps → Ascend qs
    → ((p q : List ℕ) → Among p ps → Among q qs → Before p q) → Ascend (ps ++ qs)
join_ascend [] qs a b h = b
join_ascend (p ∷ ps) qs a b h = (
  (λ q m. elim (among_sides q ps qs m) [ inl l ↦ a.0 q l | inr r ↦ h p q (inl refl) r ]),
  join_ascend ps qs a.1 b (λ x y m n. h x y (inr m) n),
)

pub filter_ascend : (t : List ℕ → Bool) (ps : List (List ℕ)) → Ascend ps → Ascend (filter t ps)
filter_ascend t [] a = tt
filter_ascend t (p ∷ ps) a = go (t p) (filter_ascend t ps a.1)
  where
    go : (c : Bool) → Ascend (filter t ps) → Ascend (cond c (p ∷ filter t ps) (filter t ps))
    go true rec = ((λ q m. a.0 q (among_filter t q ps m).1), rec)
    go false rec = rec

pub ascend_apart : (ps : List (List ℕ)) → Ascend ps → Apart ps
ascend_apart [] a = tt
ascend_apart (p ∷ ps) a = ((λ m. before_self p (a.0 p m)), ascend_apart ps a.1)

-- lists for one number each, which the number follows a common front in, ascend as the numbers do
pub each_ascends : (p : List ℕ) (f : ℕ → List (List ℕ)) (ns : List ℕ) → Up ns → ((b : ℕ) → Ascend (f b))
    → ((b : ℕ) (q : List ℕ) → Among q (f b) → (r : List ℕ) × (q ≡ p ++ (b ∷ r))) → Ascend (flat_map f ns)
each_ascends p f [] u a h = tt
each_ascends p f (n ∷ ns) u a h = join_ascend (f n) (flat_map f ns) (a n) (each_ascends p f ns u.1 a h) go
  where
    go : (x y : List ℕ) → Among x (f n) → Among y (flat_map f ns) → Before x y
    go x y mx my =
        let s = among_some f y ns my in
        let hx = h n x mx in
        let hy = h s.0 y s.2 in
        subst (λ k. Before k y) (sym hx.1) (subst (λ k. Before (p ++ (n ∷ hx.0)) k) (sym hy.1)
        (before_sides p n s.0 hx.0 hy.0 (u.0 s.0 s.1)))

-- lists in order with the same members are equal
pub one_order : (ps qs : List (List ℕ)) → Ascend ps → Ascend qs → ((p : List ℕ) → Among p ps → Among p qs)
    → ((p : List ℕ) → Among p qs → Among p ps) → ps ≡ qs
one_order [] [] a b f g = refl
one_order [] (q ∷ qs) a b f g = absurd (g q (inl refl))
one_order (p ∷ ps) [] a b f g = absurd (f p (inl refl))
one_order (p ∷ ps) (q ∷ qs) a b f g =
    let same : p ≡ q = first (f p (inl refl)) (g q (inl refl)) in
    ap (λ (h : List ℕ). h ∷ ps) same ∙ ap (λ (l : List (List ℕ)). q ∷ l) (one_order ps qs a.1 b.1
    (λ t m. by_f t m (f t (inr m)) same) (λ t m. by_g t m (g t (inr m)) same))
  where
    first : Among p (q ∷ qs) → Among q (p ∷ ps) → p ≡ q
    first (inl e) n = e
    first (inr m) (inl e) = sym e
    first (inr m) (inr n) = absurd (before_never p q (a.0 q n) (b.0 p m))

    by_f : (t : List ℕ) → Among t ps → Among t (q ∷ qs) → p ≡ q → Among t qs
    by_f t m (inl e) same = absurd (before_self p (subst (λ k. Before p k) (e ∙ sym same) (a.0 t m)))
    by_f t m (inr l) same = l

    by_g : (t : List ℕ) → Among t qs → Among t (p ∷ ps) → p ≡ q → Among t ps
    by_g t m (inl e) same = absurd (before_self q (subst (λ k. Before q k) (e ∙ same) (b.0 t m)))
    by_g t m (inr l) same = l
