-- How simple paths grow block by block, and how the search goes along with them.
use Rattle.std.proofs.Common.{◌≡◌, refl, sym, ap, ap₂, subst, ◌∙◌, ℕ, zero, suc, ◌+◌, ◌-◌, ◌≤◌, ◌<◌, ◌||◌, ◌&&◌, ◌==◌, List, [], ◌∷◌, ◌++◌, length, Option, Some, None, Bool, true, false, not, cond, filter, flat_map, inl, inr, arith, eqb-true, eq-eqb, drop, get_or, Ok, Err}
use Rattle.std.specs.Prelude.{Result, OnOk}
use Rattle.std.specs.Result.{IsErrAnd}
use Rattle.std.proofs.lemmas.List.{drop_more}
use Rattle.std.specs.List.{list_any}
use Rattle.std.proofs.lemmas.Bool.{and_from, and_parts, le-leb, lt-ltb}
use Rattle.cov_base.specs.Net.{NetValue}
use Rattle.prime_paths.specs.Paths.{Among, among, distinct, front_of, is_inner, leads, is_simple_path}
use Rattle.prime_paths.specs.Lister.{numbers, inner_blocks, last_from, grow, grown_by, is_prime, fits_behind, fits_before}
use Rattle.prime_paths.specs.Ways.{next_blocks, prior_blocks}
use Rattle.prime_paths.specs.Trail.{first_of, last_of}
use Rattle.prime_paths.specs.Search.{FoundValue, followed, added, noted, charged, is_long, visit, visits, beyond, from_path, is_open, Comes}
use Rattle.prime_paths.specs.declared.found.Stop.{Stop}
use Rattle.prime_paths.specs.declared.found.Stop.TheVariants as stop
use Rattle.prime_paths.proofs.SimplePaths.{last_split}
use Rattle.prime_paths.proofs.Fits.{fits_behind_simple, fits_before_simple, among_behind, distinct_behind}
use Rattle.prime_paths.proofs.WaysLaws.{inner_of}
use Rattle.prime_paths.proofs.TrailLaws.{front_snoc}

-- ---- numbers in a row

pub numbers_more : (b n : ℕ) → b < n → numbers b (n - b) ≡ b ∷ numbers (b + 1) (n - (b + 1))
numbers_more b n l = ap (λ k. numbers b k) more ∙ ap (λ k. b ∷ numbers k (n - (b + 1))) one
  where
    more : n - b ≡ suc (n - (b + 1))
    more = omega (arith, l)

    one : suc b ≡ b + 1
    one = omega arith

pub numbers_none : (b n : ℕ) → n ≤ b → numbers b (n - b) ≡ []
numbers_none b n l = ap (λ k. numbers b k) none
  where
    none : n - b ≡ zero
    none = omega (arith, l)

-- ---- only next blocks count

flat_filter : {A : Type 0} (t : ℕ → Bool) (f : ℕ → List A) (xs : List ℕ) → ((x : ℕ) → t x ≡ false → f x ≡ [])
    → flat_map f (filter t xs) ≡ flat_map f xs
flat_filter t f [] h = refl
flat_filter {A} t f (x ∷ xs) h = go (t x) refl (flat_filter t f xs h)
  where
    go : (c : Bool) → t x ≡ c → flat_map f (filter t xs) ≡ flat_map f xs
        → flat_map f (cond c (x ∷ filter t xs) (filter t xs)) ≡ f x ++ flat_map f xs
    go true e rec = ap (λ (l : List A). f x ++ l) rec
    go false e rec = rec ∙ ap (λ (l : List A). l ++ flat_map f xs) (sym (h x e))

any_filter : (t u : ℕ → Bool) (xs : List ℕ) → list_any u (filter t xs) ≡ list_any (λ x. t x && u x) xs
any_filter t u [] = refl
any_filter t u (x ∷ xs) = go (t x) (any_filter t u xs)
  where
    go : (c : Bool) → list_any u (filter t xs) ≡ list_any (λ x. t x && u x) xs
        → list_any u (cond c (x ∷ filter t xs) (filter t xs)) ≡ ((c && u x) || list_any (λ x. t x && u x) xs)
    go true rec = ap (λ y. u x || y) rec
    go false rec = rec

grown_none : (net : NetValue) (n : ℕ) (p : List ℕ) (b : ℕ) → is_simple_path net p ≡ true → fits_behind net p b ≡ false
    → grown_by net n p b ≡ []
grown_none net n p b s e = ap (λ c. cond c (grow net n (p ++ b ∷ [])) []) (fits_behind_simple net p b s ∙ e)

grown_some : (net : NetValue) (n : ℕ) (p : List ℕ) (b : ℕ) → is_simple_path net p ≡ true → fits_behind net p b ≡ true
    → grown_by net n p b ≡ grow net n (p ++ b ∷ [])
grown_some net n p b s e = ap (λ c. cond c (grow net n (p ++ b ∷ [])) []) (fits_behind_simple net p b s ∙ e)

no_way : (net : NetValue) (p : List ℕ) (b : ℕ) → leads net (last_of p) b ≡ false → fits_behind net p b ≡ false
no_way net [] b e = refl
no_way net (x ∷ p) b e = ap (λ c. c && (is_inner net b && (not (among x p) && not (among b p)))) e

-- what grows from a path grows by the next blocks of its last
pub next_enough : (net : NetValue) (n : ℕ) (p : List ℕ) → is_simple_path net p ≡ true
    → flat_map (grown_by net n p) (next_blocks net (last_of p)) ≡ flat_map (grown_by net n p) (inner_blocks net)
next_enough net n p s = flat_filter (leads net (last_of p)) (grown_by net n p) (inner_blocks net)
    (λ b e. grown_none net n p b s (no_way net p b e))

pub grow_parts : (net : NetValue) (n : ℕ) (p : List ℕ) → grow net n p ≡ p ∷ beyond net n p
grow_parts net zero p = refl
grow_parts net (suc n) p = refl

pub beyond_more : (net : NetValue) (n : ℕ) (p : List ℕ) → 0 < n → is_simple_path net p ≡ true
    → flat_map (grown_by net (n - 1) p) (next_blocks net (last_of p)) ≡ beyond net n p
beyond_more net zero p l s = absurd (omega (arith, l))
beyond_more net (suc n) p l s = ap (λ k. flat_map (grown_by net k p) (next_blocks net (last_of p))) one
    ∙ next_enough net n p s
  where
    one : suc n - 1 ≡ n
    one = omega arith

pub beyond_none : (net : NetValue) (n : ℕ) (p : List ℕ) → n ≡ 0 → beyond net n p ≡ []
beyond_none net zero p e = refl
beyond_none net (suc n) p e = absurd (omega (arith, e))

-- ---- blocks that make a path longer

not_yes : (a : Bool) → not a ≡ true → a ≡ false
not_yes false e = refl
not_yes true e = absurd (let never : false ≡ true = e in cc)

fresh_first : (x : ℕ) (p : List ℕ) → distinct (x ∷ p) ≡ true → among x p ≡ false
fresh_first x p d = not_yes (among x p) (and_parts (not (among x p)) (distinct p) d).0

-- the first block closes the path
pub fits_first : (net : NetValue) (p : List ℕ) (b : ℕ) → 0 < length p → distinct p ≡ true → leads net (last_of p) b
    ≡ true → is_inner net b ≡ true
    → b ≡ first_of p → fits_behind net p b ≡ true
fits_first net [] b l d w i e = absurd (omega (arith, l))
fits_first net (x ∷ p) b l d w i e =
    and_from (leads net (last_from x p) b) (is_inner net b && (not (among x p) && not (among b p))) w
    (and_from (is_inner net b) (not (among x p) && not (among b p)) i
    (and_from (not (among x p)) (not (among b p)) (ap not (fresh_first x p d))
    (ap (λ k. not (among k p)) e ∙ ap not (fresh_first x p d))))

-- no other block of the path does
pub fits_never : (net : NetValue) (p : List ℕ) (b : ℕ) → (b ≡ first_of p → ⊥) → among b p ≡ true → fits_behind net p b
    ≡ false
fits_never net [] b o m = refl
fits_never net (x ∷ p) b o m = go (leads net (last_from x p) b) (is_inner net b) (among x p) (among b p)
    (later (b == x) refl m)
  where
    later : (c : Bool) → (b == x) ≡ c → (c || among b p) ≡ true → among b p ≡ true
    later true e h = absurd (o (eqb-true b x e))
    later false e h = h

    go : (a c d e : Bool) → e ≡ true → (a && (c && (not d && not e))) ≡ false
    go false c d e h = refl
    go true false d e h = refl
    go true true true e h = refl
    go true true false true h = refl
    go true true false false h = absurd (let never : false ≡ true = h in cc)

-- a block that isn't of the path does
pub fits_other : (net : NetValue) (p : List ℕ) (b : ℕ) → 0 < length p → distinct p ≡ true → leads net (last_of p) b
    ≡ true → is_inner net b ≡ true
    → among b p ≡ false → fits_behind net p b ≡ true
fits_other net [] b l d w i m = absurd (omega (arith, l))
fits_other net (x ∷ p) b l d w i m =
    and_from (leads net (last_from x p) b) (is_inner net b && (not (among x p) && not (among b p))) w
    (and_from (is_inner net b) (not (among x p) && not (among b p)) i
    (and_from (not (among x p)) (not (among b p)) (ap not (fresh_first x p d)) (ap not (right (b == x) (among b p) m))))
  where
    right : (a c : Bool) → (a || c) ≡ false → c ≡ false
    right false c e = e
    right true c e = absurd (let never : true ≡ false = e in cc)

-- ---- a closed path

last_snoc : (x : ℕ) (p : List ℕ) (b : ℕ) → among b (p ++ b ∷ []) ≡ true
last_snoc x p b = among_behind b p b ∙ go (among b p) (b == b) (eq-eqb b b refl)
  where
    go : (a c : Bool) → c ≡ true → (a || c) ≡ true
    go true c e = refl
    go false c e = e

closed_behind : (net : NetValue) (x : ℕ) (p : List ℕ) (c : ℕ) → fits_behind net (x ∷ (p ++ x ∷ [])) c ≡ false
closed_behind net x p c = go (leads net (last_from x (p ++ x ∷ [])) c) (is_inner net c) (among x (p ++ x ∷ []))
    (not (among c (p ++ x ∷ []))) (last_snoc x p x)
  where
    go : (a d e f : Bool) → e ≡ true → (a && (d && (not e && f))) ≡ false
    go false d e f h = refl
    go true false e f h = refl
    go true true true f h = refl
    go true true false f h = absurd (let never : false ≡ true = h in cc)

closed_before : (net : NetValue) (x : ℕ) (p : List ℕ) (c : ℕ) → fits_before net (x ∷ (p ++ x ∷ [])) c ≡ false
closed_before net x p c = go (is_inner net c) (leads net c x) (among x (p ++ x ∷ []))
    (not (among c (front_of (x ∷ (p ++ x ∷ []))))) (last_snoc x p x)
  where
    go : (a d e f : Bool) → e ≡ true → (a && (d && (not e && f))) ≡ false
    go false d e f h = refl
    go true false e f h = refl
    go true true true f h = refl
    go true true false f h = absurd (let never : false ≡ true = h in cc)

none_any : (t : ℕ → Bool) (xs : List ℕ) → ((x : ℕ) → t x ≡ false) → list_any t xs ≡ false
none_any t [] h = refl
none_any t (x ∷ xs) h = ap₂ (λ a b. a || b) (h x) (none_any t xs h)

none_flat : {A : Type 0} (f : ℕ → List A) (xs : List ℕ) → ((x : ℕ) → f x ≡ []) → flat_map f xs ≡ []
none_flat f [] h = refl
none_flat {A} f (x ∷ xs) h = ap₂ (λ (a b : List A). a ++ b) (h x) (none_flat f xs h)

-- nothing grows from it
closed_beyond : (net : NetValue) (n x : ℕ) (p : List ℕ) → is_simple_path net (x ∷ (p ++ x ∷ [])) ≡ true
    → beyond net n (x ∷ (p ++ x ∷ [])) ≡ []
closed_beyond net zero x p s = refl
closed_beyond net (suc n) x p s = none_flat (grown_by net n (x ∷ (p ++ x ∷ []))) (inner_blocks net)
    (λ b. grown_none net n (x ∷ (p ++ x ∷ [])) b s (closed_behind net x p b))

-- and it is prime
closed_prime : (net : NetValue) (x : ℕ) (p : List ℕ) → is_simple_path net (x ∷ (p ++ x ∷ [])) ≡ true
    → is_prime net (x ∷ (p ++ x ∷ [])) ≡ true
closed_prime net x p s =
    ap not (none_any (λ b. is_simple_path net ((x ∷ (p ++ x ∷ [])) ++ b ∷ []) || is_simple_path net
    (b ∷ (x ∷ (p ++ x ∷ [])))) (inner_blocks net)
    (λ b. ap₂ (λ a c. a || c) (fits_behind_simple net (x ∷ (p ++ x ∷ [])) b s ∙ closed_behind net x p b)
    (fits_before_simple net (x ∷ (p ++ x ∷ [])) b s ∙ closed_before net x p b)))

-- ---- the test of a prime path by its ends

any_or : (t u : ℕ → Bool) (xs : List ℕ) → list_any (λ x. t x || u x) xs ≡ (list_any t xs || list_any u xs)
any_or t u [] = refl
any_or t u (x ∷ xs) = ap (λ c. (t x || u x) || c) (any_or t u xs) ∙ turned (t x) (u x) (list_any t xs) (list_any u xs)
  where
    turned : (a b c d : Bool) → ((a || b) || (c || d)) ≡ ((a || c) || (b || d))
    turned true b c d = refl
    turned false true true d = refl
    turned false true false d = refl
    turned false false c d = refl

any_same : (t u : ℕ → Bool) (xs : List ℕ) → ((x : ℕ) → Among x xs → t x ≡ u x) → list_any t xs ≡ list_any u xs
any_same t u [] h = refl
any_same t u (x ∷ xs) h = ap₂ (λ a b. a || b) (h x (inl refl)) (any_same t u xs (λ y m. h y (inr m)))

open_first : (x : ℕ) (p : List ℕ) (b : ℕ) → among x p ≡ false → not (among b p) ≡ is_open (x ∷ p) x b
open_first x p b f = go (b == x) refl
  where
    go : (c : Bool) → (b == x) ≡ c → not (among b p) ≡ (c || not (c || among b p))
    go true e = ap (λ k. not (among k p)) (eqb-true b x e) ∙ ap not f
    go false e = refl

open_last : (g : List ℕ) (c b : ℕ) → among c g ≡ false → not (among b g) ≡ is_open (g ++ c ∷ []) c b
open_last g c b f = go (b == c) refl ∙ ap (λ (a : Bool). (b == c) || not a) (sym (among_behind b g c))
  where
    go : (d : Bool) → (b == c) ≡ d → not (among b g) ≡ (d || not (among b g || d))
    go true e = ap (λ k. not (among k g)) (eqb-true b c e) ∙ ap not f
    go false e = ap not (sym (or_false (among b g)))
      where
        or_false : (a : Bool) → (a || false) ≡ a
        or_false true = refl
        or_false false = refl

last_of_snoc : (g : List ℕ) (c : ℕ) → last_of (g ++ c ∷ []) ≡ c
last_of_snoc [] c = refl
last_of_snoc (x ∷ g) c = go x g
  where
    go : (x : ℕ) (g : List ℕ) → last_from x (g ++ c ∷ []) ≡ c
    go x [] = refl
    go x (y ∷ g) = go y g

-- the blocks that lengthen a path behind are its last block's next ones that are none of it, or its first
test_behind : (net : NetValue) (x : ℕ) (p : List ℕ) → is_simple_path net (x ∷ p) ≡ true → distinct (x ∷ p) ≡ true
    → list_any (λ b. is_simple_path net ((x ∷ p) ++ b ∷ [])) (inner_blocks net)
    ≡ list_any (is_open (x ∷ p) x) (next_blocks net (last_of (x ∷ p)))
test_behind net x p s d =
    any_same (λ b. is_simple_path net ((x ∷ p) ++ b ∷ [])) (λ b. leads net (last_from x p) b && is_open (x ∷ p) x b)
    (inner_blocks net)
    (λ b m. fits_behind_simple net (x ∷ p) b s
    ∙ go (leads net (last_from x p) b) (is_inner net b) (among x p) (not (among b p)) (is_open (x ∷ p) x b)
    (inner_of net b m) (fresh_first x p d) (open_first x p b (fresh_first x p d)))
    ∙ sym (any_filter (leads net (last_from x p)) (is_open (x ∷ p) x) (inner_blocks net))
  where
    go : (a i f n o : Bool) → i ≡ true → f ≡ false → n ≡ o → (a && (i && (not f && n))) ≡ (a && o)
    go false i f n o e g h = refl
    go true false f n o e g h = absurd (let never : false ≡ true = e in cc)
    go true true true n o e g h = absurd (let never : true ≡ false = g in cc)
    go true true false n o e g h = h

-- those that lengthen it in front are its first block's prior ones that are none of it, or its last
test_before : (net : NetValue) (x : ℕ) (p : List ℕ) → is_simple_path net (x ∷ p) ≡ true → distinct (x ∷ p) ≡ true
    → list_any (λ b. is_simple_path net (b ∷ (x ∷ p))) (inner_blocks net)
    ≡ list_any (is_open (x ∷ p) (last_of (x ∷ p))) (prior_blocks net x)
test_before net x p s d =
    any_same (λ b. is_simple_path net (b ∷ (x ∷ p))) (λ b. leads net b x && is_open (x ∷ p) (last_of (x ∷ p)) b)
    (inner_blocks net)
    (λ b m. fits_before_simple net (x ∷ p) b s
    ∙ go (leads net b x) (is_inner net b) (among x p) (not (among b (front_of (x ∷ p))))
    (is_open (x ∷ p) (last_of (x ∷ p)) b)
    (inner_of net b m) (fresh_first x p d) (ends b))
    ∙ sym (any_filter (λ b. leads net b x) (is_open (x ∷ p) (last_of (x ∷ p))) (inner_blocks net))
  where
    go : (a i f n o : Bool) → i ≡ true → f ≡ false → n ≡ o → (i && (a && (not f && n))) ≡ (a && o)
    go false false f n o e g h = refl
    go false true f n o e g h = refl
    go true false f n o e g h = absurd (let never : false ≡ true = e in cc)
    go true true true n o e g h = absurd (let never : true ≡ false = g in cc)
    go true true false n o e g h = h

    split : (g : List ℕ) × (c : ℕ) × (x ∷ p ≡ g ++ c ∷ [])
    split = last_split x p

    same : x ∷ p ≡ split.0 ++ split.1 ∷ []
    same = split.2

    apart : among split.1 split.0 ≡ false
    apart = not_yes (among split.1 split.0)
        (and_parts (distinct split.0) (not (among split.1 split.0))
        (sym (distinct_behind split.0 split.1) ∙ subst (λ l. distinct l ≡ true) same d)).1

    ends : (b : ℕ) → not (among b (front_of (x ∷ p))) ≡ is_open (x ∷ p) (last_of (x ∷ p)) b
    ends b = ap (λ l. not (among b (front_of l))) same ∙ ap (λ l. not (among b l)) (front_snoc split.0 split.1)
        ∙ open_last split.0 split.1 b apart
        ∙ ap (λ k. is_open (split.0 ++ split.1 ∷ []) k b) (sym (last_of_snoc split.0 split.1))
        ∙ ap (λ l. is_open l (last_of l) b) (sym same)

-- whether a path on which no block stands twice is prime, by its ends
pub whole_test : (net : NetValue) (p : List ℕ) (first last : ℕ) → is_simple_path net p ≡ true → distinct p ≡ true
    → first ≡ first_of p → last ≡ last_of p
    → (not (list_any (is_open p first) (next_blocks net last)) && not
    (list_any (is_open p last) (prior_blocks net first))) ≡ is_prime net p
whole_test net [] first last s d f l = absurd (let never : false ≡ true = s in cc)
whole_test net (x ∷ p) first last s d f l =
    ap₂ (λ a b. not (list_any (is_open (x ∷ p) a) (next_blocks net b)) && not
    (list_any (is_open (x ∷ p) b) (prior_blocks net a))) f l
    ∙ ap₂ (λ a b. not a && not b) (sym (test_behind net x p s d)) (sym (test_before net x p s d))
    ∙ sym (neither (list_any (λ b. is_simple_path net ((x ∷ p) ++ b ∷ [])) (inner_blocks net))
    (list_any (λ b. is_simple_path net (b ∷ (x ∷ p))) (inner_blocks net)))
    ∙ sym (ap not (any_or (λ b. is_simple_path net ((x ∷ p) ++ b ∷ [])) (λ b. is_simple_path net (b ∷ (x ∷ p)))
    (inner_blocks net)))
  where
    neither : (a b : Bool) → not (a || b) ≡ (not a && not b)
    neither true b = refl
    neither false b = refl

-- ---- the search along paths

-- a path of two or more blocks is charged
pub long_snoc : (p : List ℕ) (b : ℕ) → 0 < length p → is_long (p ++ b ∷ []) ≡ true
long_snoc [] b l = absurd (omega (arith, l))
long_snoc (x ∷ []) b l = refl
long_snoc (x ∷ (y ∷ p)) b l = refl

pub visit_long : (net : NetValue) (p : List ℕ) (b : ℕ) (found : FoundValue) → 0 < length p
    → visit net (p ++ b ∷ []) found ≡ followed (charged found) (noted net (p ++ b ∷ []))
visit_long net p b found l = ap (λ c. cond c (followed (charged found) (noted net (p ++ b ∷ [])))
    (noted net (p ++ b ∷ []) found)) (long_snoc p b l)

followed_assoc : (o : Option FoundValue) (f g : FoundValue → Option FoundValue)
    → followed (followed o f) g ≡ followed o (λ x. followed (f x) g)
followed_assoc None f g = refl
followed_assoc (Some x) f g = refl

followed_some : (o : Option FoundValue) → followed o (λ x. Some x) ≡ o
followed_some None = refl
followed_some (Some x) = refl

-- paths one behind another
pub visits_join : (net : NetValue) (ps qs : List (List ℕ)) (found : FoundValue)
    → visits net (ps ++ qs) found ≡ followed (visits net ps found) (visits net qs)
visits_join net [] qs found = refl
visits_join net (p ∷ ps) qs found = go (visit net p found) (λ x. visits_join net ps qs x)
  where
    go : (o : Option FoundValue) → ((x : FoundValue) → visits net (ps ++ qs) x
        ≡ followed (visits net ps x) (visits net qs))
        → followed o (visits net (ps ++ qs)) ≡ followed (followed o (visits net ps)) (visits net qs)
    go None rec = refl
    go (Some x) rec = rec x

-- the search over what grows from a path by a block that fits
pub visits_grown : (net : NetValue) (n : ℕ) (p : List ℕ) (b : ℕ) (found : FoundValue) → is_simple_path net p ≡ true
    → 0 < length p
    → fits_behind net p b ≡ true
    → visits net (grown_by net n p b) found ≡ followed (charged found) (from_path net n (p ++ b ∷ []))
visits_grown net n p b found s l e =
    ap (λ ps. visits net ps found) (grown_some net n p b s e ∙ grow_parts net n (p ++ b ∷ []))
    ∙ ap (λ o. followed o (visits net (beyond net n (p ++ b ∷ [])))) (visit_long net p b found l)
    ∙ followed_assoc (charged found) (noted net (p ++ b ∷ [])) (visits net (beyond net n (p ++ b ∷ [])))

-- by a block that doesn't
pub visits_none : (net : NetValue) (n : ℕ) (p : List ℕ) (b : ℕ) (found : FoundValue) → is_simple_path net p ≡ true
    → fits_behind net p b ≡ false → visits net (grown_by net n p b) found ≡ Some found
visits_none net n p b found s e = ap (λ ps. visits net ps found) (grown_none net n p b s e)

-- by its first block
pub visits_closed : (net : NetValue) (n : ℕ) (p : List ℕ) (b : ℕ) (found : FoundValue) → is_simple_path net p ≡ true
    → 0 < length p
    → b ≡ first_of p → fits_behind net p b ≡ true
    → visits net (grown_by net n p b) found ≡ followed (charged found) (added (p ++ b ∷ []))
visits_closed net n [] b found s l f e = absurd (omega (arith, l))
visits_closed net n (x ∷ p) b found s l f e =
    visits_grown net n (x ∷ p) b found s l e ∙ follow (charged found)
  where
    simple : is_simple_path net (x ∷ (p ++ x ∷ [])) ≡ true
    simple = ap (λ k. is_simple_path net (x ∷ (p ++ k ∷ []))) (sym f) ∙ fits_behind_simple net (x ∷ p) b s ∙ e

    beyond_it : beyond net n ((x ∷ p) ++ b ∷ []) ≡ []
    beyond_it = ap (λ k. beyond net n (x ∷ (p ++ k ∷ []))) f ∙ closed_beyond net n x p simple

    prime : is_prime net ((x ∷ p) ++ b ∷ []) ≡ true
    prime = ap (λ k. is_prime net (x ∷ (p ++ k ∷ []))) f ∙ closed_prime net x p simple

    follow : (o : Option FoundValue) → followed o (from_path net n ((x ∷ p) ++ b ∷ []))
        ≡ followed o (added ((x ∷ p) ++ b ∷ []))
    follow None = refl
    follow (Some g) =
        ap (λ ps. followed (noted net ((x ∷ p) ++ b ∷ []) g) (visits net ps)) beyond_it
        ∙ followed_some (noted net ((x ∷ p) ++ b ∷ []) g)
        ∙ ap (λ c. cond c (added ((x ∷ p) ++ b ∷ []) g) (Some g)) prime

-- ---- the search from a start

pub single_simple : (net : NetValue) (b : ℕ) → 2 ≤ b → b < net.blocks → is_simple_path net (b ∷ []) ≡ true
single_simple net b l m =
    and_from (is_inner net b && true) true (and_from (is_inner net b) true
    (and_from _ _ (le-leb 2 b l) (lt-ltb b net.blocks m)) refl) refl

pub visits_start : (net : NetValue) (n b : ℕ) (found : FoundValue) → visits net (grow net n (b ∷ [])) found
    ≡ from_path net n (b ∷ []) found
visits_start net n b found = ap (λ ps. visits net ps found) (grow_parts net n (b ∷ []))

-- the simple paths that begin at the blocks from b on
abbrev pub started_from : NetValue → ℕ → List (List ℕ)
started_from net b = flat_map (λ b. cond (is_simple_path net (b ∷ [])) (grow net net.blocks (b ∷ [])) [])
    (numbers b (net.blocks - b))

pub started_more : (net : NetValue) (b : ℕ) → 2 ≤ b → b < net.blocks
    → started_from net b ≡ grow net net.blocks (b ∷ []) ++ started_from net (b + 1)
started_more net b low high =
    ap (λ ns. flat_map (λ b. cond (is_simple_path net (b ∷ [])) (grow net net.blocks (b ∷ [])) []) ns)
    (numbers_more b net.blocks high)
    ∙ ap (λ c. cond c (grow net net.blocks (b ∷ [])) [] ++ started_from net (b + 1)) (single_simple net b low high)

pub started_none : (net : NetValue) (b : ℕ) → net.blocks ≤ b → started_from net b ≡ []
started_none net b l =
    ap (λ ns. flat_map (λ b. cond (is_simple_path net (b ∷ [])) (grow net net.blocks (b ∷ [])) []) ns)
    (numbers_none b net.blocks l)

-- ---- the loop over next blocks

-- before the first
pub grow_start : (net : NetValue) (n : ℕ) (p row : List ℕ) (last : ℕ) (old new : FoundValue) → 0 < n
    → is_simple_path net p ≡ true
    → row ≡ next_blocks net last → last ≡ last_of p → noted net p old ≡ Some new
    → visits net (flat_map (grown_by net (n - 1) p) row) new ≡ from_path net n p old
grow_start net n p row last old new l s r e h =
    ap (λ bs. visits net (flat_map (grown_by net (n - 1) p) bs) new) (r ∙ ap (next_blocks net) e)
    ∙ ap (λ ps. visits net ps new) (beyond_more net n p l s)
    ∙ sym (ap (λ o. followed o (visits net (beyond net n p))) h)

grow_split : (net : NetValue) (n : ℕ) (p row : List ℕ) (k d : ℕ) (found : FoundValue) → k < length row
    → visits net (flat_map (grown_by net n p) (drop k row)) found
    ≡ followed (visits net (grown_by net n p (get_or row k d)) found)
    (visits net (flat_map (grown_by net n p) (drop (k + 1) row)))
grow_split net n p row k d found l =
    ap (λ bs. visits net (flat_map (grown_by net n p) bs) found) (drop_more row k d l)
    ∙ visits_join net (grown_by net n p (get_or row k d)) (flat_map (grown_by net n p) (drop (k + 1) row)) found

-- one more
pub grow_one : (net : NetValue) (n : ℕ) (p q row : List ℕ) (k d : ℕ) (old new : FoundValue) (whole : Option FoundValue)
    → k < length row → q ≡ p
    → visits net (grown_by net n q (get_or row k d)) old ≡ Some new
    → visits net (flat_map (grown_by net n p) (drop k row)) old ≡ whole
    → visits net (flat_map (grown_by net n p) (drop (k + 1) row)) new ≡ whole
grow_one net n p q row k d old new whole l same h e =
    sym (ap (λ o. followed o (visits net (flat_map (grown_by net n p) (drop (k + 1) row))))
    (ap (λ r. visits net (grown_by net n r (get_or row k d)) old) (sym same) ∙ h))
    ∙ sym (grow_split net n p row k d old l) ∙ e

-- one at which the search stops
pub grow_stop : (net : NetValue) (n : ℕ) (p q row : List ℕ) (k d : ℕ) (old : FoundValue) (whole : Option FoundValue)
    → k < length row → q ≡ p
    → visits net (flat_map (grown_by net n p) (drop k row)) old ≡ whole
    → visits net (grown_by net n q (get_or row k d)) old ≡ None → whole ≡ None
grow_stop net n p q row k d old whole l same e h =
    sym e ∙ grow_split net n p row k d old l
    ∙ ap (λ o. followed o (visits net (flat_map (grown_by net n p) (drop (k + 1) row))))
    (ap (λ r. visits net (grown_by net n r (get_or row k d)) old) (sym same) ∙ h)

-- what stops a part stops the whole
pub comes_err : (part whole : Option FoundValue) (new : FoundValue) (e : Stop) → (part ≡ None → whole ≡ None)
    → Comes part new (Err e) → Comes whole new (Err e)
comes_err part whole new stop.LimitPassed h c = h c
comes_err part whole new stop.NoMemory h c = tt

pub comes_residual : (part whole : Option FoundValue) (new : FoundValue) (r : Result Unit Stop) (e : Stop)
    → IsErrAnd r (λ x. x ≡ e)
    → (part ≡ None → whole ≡ None) → Comes part new (Err e) → Comes whole new r
comes_residual part whole new (Ok x) e is h c = absurd is
comes_residual part whole new (Err x) e is h c = comes_err part whole new x h
    (subst (λ s. Comes part new (Err s)) (sym is) c)

-- ---- what the code meets

pub simple_some : (net : NetValue) (p : List ℕ) → is_simple_path net p ≡ true → 0 < length p
simple_some net [] s = absurd (let never : false ≡ true = s in cc)
simple_some net (x ∷ p) s = omega arith

-- a path that goes on to another next block is simple
pub longer_simple : (net : NetValue) (p : List ℕ) (b : ℕ) → is_simple_path net p ≡ true → distinct p ≡ true
    → leads net (last_of p) b ≡ true → is_inner net b ≡ true → among b p ≡ false → is_simple_path net (p ++ b ∷ [])
    ≡ true
longer_simple net p b s d w i m = fits_behind_simple net p b s ∙ fits_other net p b (simple_some net p s) d w i m

-- its first block closes the path
pub goes_closed : (net : NetValue) (n : ℕ) (p : List ℕ) (b : ℕ) (found : FoundValue) → is_simple_path net p ≡ true
    → distinct p ≡ true
    → leads net (last_of p) b ≡ true → is_inner net b ≡ true → b ≡ first_of p
    → visits net (grown_by net n p b) found ≡ followed (charged found) (added (p ++ b ∷ []))
goes_closed net n p b found s d w i f =
    visits_closed net n p b found s (simple_some net p s) f (fits_first net p b (simple_some net p s) d w i f)

-- no other block of the path lengthens it
pub goes_nowhere : (net : NetValue) (n : ℕ) (p : List ℕ) (b : ℕ) (found : FoundValue) → is_simple_path net p ≡ true
    → (b ≡ first_of p → ⊥) → among b p ≡ true → visits net (grown_by net n p b) found ≡ Some found
goes_nowhere net n p b found s o m = visits_none net n p b found s (fits_never net p b o m)

-- another block does
pub goes_further : (net : NetValue) (n : ℕ) (p : List ℕ) (b : ℕ) (found : FoundValue) → is_simple_path net p ≡ true
    → distinct p ≡ true
    → leads net (last_of p) b ≡ true → is_inner net b ≡ true → among b p ≡ false
    → visits net (grown_by net n p b) found ≡ followed (charged found) (from_path net n (p ++ b ∷ []))
goes_further net n p b found s d w i m =
    visits_grown net n p b found s (simple_some net p s) (fits_other net p b (simple_some net p s) d w i m)

pub goes_charged : (net : NetValue) (n : ℕ) (p q : List ℕ) (b : ℕ) (found left : FoundValue) → is_simple_path net p
    ≡ true → distinct p ≡ true
    → leads net (last_of p) b ≡ true → is_inner net b ≡ true → among b p ≡ false → charged found ≡ Some left → q
    ≡ p ++ b ∷ []
    → from_path net n q left ≡ visits net (grown_by net n p b) found
goes_charged net n p q b found left s d w i m c e =
    ap (λ r. from_path net n r left) e
    ∙ sym (ap (λ o. followed o (from_path net n (p ++ b ∷ []))) c)
    ∙ sym (goes_further net n p b found s d w i m)

pub goes_stopped : (net : NetValue) (n : ℕ) (p : List ℕ) (b : ℕ) (found : FoundValue) → is_simple_path net p ≡ true
    → distinct p ≡ true
    → leads net (last_of p) b ≡ true → is_inner net b ≡ true → among b p ≡ false → charged found ≡ None
    → visits net (grown_by net n p b) found ≡ None
goes_stopped net n p b found s d w i m c = goes_further net n p b found s d w i m
    ∙ ap (λ o. followed o (from_path net n (p ++ b ∷ []))) c

-- after an Ok the path is back
pub back_ok : {T F : Type 0} (r : Result T F) (p q mid back : List ℕ) (b : ℕ) → OnOk r (q ≡ mid) → mid ≡ p ++ b ∷ []
    → back ≡ front_of q → OnOk r (back ≡ p)
back_ok (Ok x) p q mid back b h m e = e ∙ ap (λ l. front_of l) (h ∙ m) ∙ front_snoc p b
back_ok (Err e) p q mid back b h m f = tt

-- ---- the loop over starts

-- one start more
pub start_one : (net : NetValue) (b : ℕ) (old new : FoundValue) (whole : Option FoundValue) → 2 ≤ b → b < net.blocks
    → visits net (grow net net.blocks (b ∷ [])) old ≡ Some new → visits net (started_from net b) old ≡ whole
    → visits net (started_from net (b + 1)) new ≡ whole
start_one net b old new whole low high h e =
    sym (ap (λ o. followed o (visits net (started_from net (b + 1)))) h)
    ∙ sym (visits_join net (grow net net.blocks (b ∷ [])) (started_from net (b + 1)) old)
    ∙ sym (ap (λ ps. visits net ps old) (started_more net b low high)) ∙ e

pub start_stop : (net : NetValue) (b : ℕ) (old : FoundValue) (whole : Option FoundValue) → 2 ≤ b → b < net.blocks
    → visits net (started_from net b) old ≡ whole → visits net (grow net net.blocks (b ∷ [])) old ≡ None → whole ≡ None
start_stop net b old whole low high e h =
    sym e ∙ ap (λ ps. visits net ps old) (started_more net b low high)
    ∙ visits_join net (grow net net.blocks (b ∷ [])) (started_from net (b + 1)) old
    ∙ ap (λ o. followed o (visits net (started_from net (b + 1)))) h

pub start_end : (net : NetValue) (b : ℕ) (found : FoundValue) (whole : Option FoundValue) → net.blocks ≤ b
    → visits net (started_from net b) found ≡ whole → whole ≡ Some found
start_end net b found whole l e = sym e ∙ ap (λ ps. visits net ps found) (started_none net b l)

-- ---- the test of a whole path in two steps

pub whole_no : (a b p : Bool) → a ≡ true → (not a && not b) ≡ p → false ≡ p
whole_no true b p e h = h
whole_no false b p e h = absurd (let never : false ≡ true = e in cc)

pub whole_then : (a b p : Bool) → a ≡ false → (not a && not b) ≡ p → not b ≡ p
whole_then false b p e h = h
whole_then true b p e h = absurd (let never : true ≡ false = e in cc)

pub open_row : (p row other : List ℕ) (end : ℕ) (a : Bool) → a ≡ list_any (is_open p end) row → row ≡ other → a
    ≡ list_any (is_open p end) other
open_row p row other end a e r = e ∙ ap (λ l. list_any (is_open p end) l) r
