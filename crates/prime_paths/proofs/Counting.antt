-- Each simple path is a part of a prime path, which has few parts: so there are not many more simple paths than
-- prime ones.
use Rattle.std.proofs.Common.{◌≡◌, refl, sym, ap, ap₂, subst, ◌∙◌, ℕ, zero, suc, ◌+◌, ◌*◌, ◌≤◌, ◌||◌, List, [], ◌∷◌, ◌++◌, map, length, Bool, true, false, not, inl, inr, arith, append_assoc, append-nil, flat_map, mul-le-mul, mul-add, add-mul, mul_comm, length-append}
use Rattle.std.specs.List.{list_any}
use Rattle.std.proofs.lemmas.Bool.{or_cases, cases_Bool}
use Rattle.std.proofs.lemmas.List.{length-map}
use Rattle.cov_base.specs.Net.{NetValue}
use Rattle.prime_paths.specs.Paths.{is_simple_path, Among, Part, IsPrime}
use Rattle.prime_paths.specs.Lister.{inner_blocks, simple_paths, is_prime, listing}
use Rattle.prime_paths.proofs.ListFacts.{among_left, among_right, among_each, ascend_apart, no_more}
use Rattle.prime_paths.proofs.SimplePaths.{Some_in, some_path, short, test_prime}
use Rattle.prime_paths.proofs.AllPaths.{simple_sound, simple_ascends, lists}

-- ---- parts of a list

-- the fronts of a list that aren't empty
abbrev pub fronts : List ℕ → List (List ℕ)
fronts [] = []
fronts (x ∷ p) = (x ∷ []) ∷ map (λ l. x ∷ l) (fronts p)

-- the parts of a list that aren't empty
abbrev pub parts : List ℕ → List (List ℕ)
parts [] = []
parts (x ∷ p) = fronts (x ∷ p) ++ parts p

among_map : {A B : Type 0} (f : A → B) (x : A) (xs : List A) → Among x xs → Among (f x) (map f xs)
among_map f x [] m = absurd m
among_map f x (y ∷ ys) (inl e) = inl (ap f e)
among_map f x (y ∷ ys) (inr m) = inr (among_map f x ys m)

front_among : (p r : List ℕ) → Some_in p → Among p (fronts (p ++ r))
front_among [] r some = absurd some
front_among (x ∷ []) r some = inl refl
front_among (x ∷ (y ∷ p)) r some = inr (among_map (λ l. x ∷ l) (y ∷ p) (fronts ((y ∷ p) ++ r))
    (front_among (y ∷ p) r tt))

fronts_parts : (p q : List ℕ) → Among p (fronts q) → Among p (parts q)
fronts_parts p [] m = absurd m
fronts_parts p (x ∷ q) m = among_left p (fronts (x ∷ q)) (parts q) m

pub part_among : (p f r : List ℕ) → Some_in p → Among p (parts (f ++ (p ++ r)))
part_among p [] r some = fronts_parts p (p ++ r) (front_among p r some)
part_among p (x ∷ f) r some = among_right p (fronts (x ∷ (f ++ (p ++ r)))) (parts (f ++ (p ++ r)))
    (part_among p f r some)

fronts_length : (p : List ℕ) → length (fronts p) ≡ length p
fronts_length [] = refl
fronts_length (x ∷ p) = ap suc (length-map (fronts p) (λ l. x ∷ l) ∙ fronts_length p)

one_more : (l : ℕ) → suc l * suc (suc l) ≡ 2 * suc l + l * suc l
one_more l = mul_comm (suc l) (suc (suc l)) ∙ ap (λ k. k * suc l) two ∙ add-mul 2 l (suc l)
  where
    two : suc (suc l) ≡ 2 + l
    two = omega arith

-- a list of n members has n * (n + 1) / 2 parts
pub parts_length : (p : List ℕ) → 2 * length (parts p) ≡ length p * suc (length p)
parts_length [] = refl
parts_length (x ∷ p) =
    let a = length-append (fronts (x ∷ p)) (parts p) in
    let f = fronts_length (x ∷ p) in
    let r = parts_length p in
    let o = one_more (length p) in
    ap (λ k. 2 * k) (a ∙ ap (λ k. k + length (parts p)) f) ∙ mul-add 2 (suc (length p)) (length (parts p))
    ∙ ap (λ k. 2 * suc (length p) + k) r ∙ sym o

-- ---- each simple path is a part of a prime path

any_true : {A : Type 0} (t : A → Bool) (xs : List A) → list_any t xs ≡ true → (x : A) × (t x ≡ true)
any_true t [] e = absurd (let never : false ≡ true = e in cc)
any_true t (y ∷ ys) e = elim (or_cases (t y) (list_any t ys) e) [ inl h ↦ (y, h) | inr h ↦ any_true t ys h ]

part_behind : (q p : List ℕ) (b : ℕ) → Part (q ++ b ∷ []) p → Part q p
part_behind q p b (f, r, e) = (f, b ∷ r, e ∙ ap (λ l. f ++ l) (append_assoc q (b ∷ []) r))

part_front : (q p : List ℕ) (b : ℕ) → Part (b ∷ q) p → Part q p
part_front q p b (f, r, e) = (f ++ b ∷ [], r, e ∙ sym (append_assoc f (b ∷ []) (q ++ r)))

-- a simple path has at most one block more than the net
pub short_whole : (net : NetValue) (p : List ℕ) → is_simple_path net p ≡ true → length p ≤ suc net.blocks
short_whole net [] e = omega arith
short_whole net (b ∷ r) e = (let l = short net b r e in omega (arith, l))

not_no : (a : Bool) → not a ≡ false → a ≡ true
not_no true e = refl
not_no false e = absurd (let never : true ≡ false = e in cc)

lengthens : (net : NetValue) (k : ℕ) (q : List ℕ) → is_simple_path net q ≡ true → suc net.blocks ≤ length q + k
    → (p : List ℕ) × IsPrime net p × Part q p
lengthens net zero q s l = elim (cases_Bool (is_prime net q)) [
  | inl e ↦ (q, test_prime net q s e, ([], [], sym (append-nil q)))
  | inr e ↦ absurd (go (any_true (λ b. is_simple_path net (q ++ b ∷ []) || is_simple_path net (b ∷ q))
      (inner_blocks net) (not_no _ e)))
]
  where
    go : (b : ℕ) × ((is_simple_path net (q ++ b ∷ []) || is_simple_path net (b ∷ q)) ≡ true) → ⊥
    go (b, h) = elim (or_cases (is_simple_path net (q ++ b ∷ [])) (is_simple_path net (b ∷ q)) h) [
      | inl e ↦ (let w = short_whole net (q ++ b ∷ []) e in let a = length-append q (b ∷ []) in omega (arith, w, a, l))
      | inr e ↦ (let w : suc (length q) ≤ suc net.blocks = short_whole net (b ∷ q) e in omega (arith, w, l))
    ]
lengthens net (suc k) q s l = elim (cases_Bool (is_prime net q)) [
  | inl e ↦ (q, test_prime net q s e, ([], [], sym (append-nil q)))
  | inr e ↦ go (any_true (λ b. is_simple_path net (q ++ b ∷ []) || is_simple_path net (b ∷ q)) (inner_blocks net)
      (not_no _ e))
      (λ b h. lengthens net k (q ++ b ∷ []) h (let a = length-append q (b ∷ []) in omega (arith, a, l)))
      (λ b h. lengthens net k (b ∷ q) h (omega (arith, l)))
]
  where
    go : (b : ℕ) × ((is_simple_path net (q ++ b ∷ []) || is_simple_path net (b ∷ q)) ≡ true)
        → ((b : ℕ) → is_simple_path net (q ++ b ∷ []) ≡ true → (p : List ℕ) × IsPrime net p × Part (q ++ b ∷ []) p)
        → ((b : ℕ) → is_simple_path net (b ∷ q) ≡ true → (p : List ℕ) × IsPrime net p × Part (b ∷ q) p)
        → (p : List ℕ) × IsPrime net p × Part q p
    go (b, h) x y = elim (or_cases (is_simple_path net (q ++ b ∷ [])) (is_simple_path net (b ∷ q)) h) [
      | inl e ↦ (let z = x b e in (z.0, z.1, part_behind q z.0 b z.2))
      | inr e ↦ (let z = y b e in (z.0, z.1, part_front q z.0 b z.2))
    ]

-- each simple path is a part of a prime path (Ammann and Offutt)
pub extends : (net : NetValue) (q : List ℕ) → is_simple_path net q ≡ true → (p : List ℕ) × IsPrime net p × Part q p
extends net q s = lengthens net (suc net.blocks) q s (omega arith)

-- ---- the count

parts_few : (n : ℕ) (ps : List (List ℕ)) → ((p : List ℕ) → Among p ps → length p ≤ suc n)
    → 2 * length (flat_map parts ps) ≤ length ps * (suc n * suc (suc n))
parts_few n [] h = omega arith
parts_few n (p ∷ ps) h =
    let l = h p (inl refl) in
    let few : length p * suc (length p) ≤ suc n * suc (suc n) = mul-le-mul l (omega (arith, l)) in
    let rest = parts_few n ps (λ q m. h q (inr m)) in
    let a = length-append (parts p) (flat_map parts ps) in
    let own = parts_length p in
    omega (arith, few, rest, a, own)

-- twice the simple paths are at most as many as the prime paths times (n + 1) * (n + 2), where the net has n blocks
pub few_simple : (net : NetValue) → 2 * length (simple_paths net) ≤ length (listing net) *
    ((net.blocks + 1) * (net.blocks + 2))
few_simple net =
    let ls = lists net in
    let few = no_more (simple_paths net) (flat_map parts (listing net)) (ascend_apart _ (simple_ascends net))
    (λ q m. go q (simple_sound net q m)) in
    let most : 2 * length (flat_map parts (listing net)) ≤ length (listing net) *
    (suc net.blocks * suc (suc net.blocks)) =
    parts_few net.blocks (listing net) (λ p m. short_whole net p (ls.sound p m).simple) in
    let same : length (listing net) * (suc net.blocks * suc (suc net.blocks))
    ≡ length (listing net) * ((net.blocks + 1) * (net.blocks + 2)) =
    ap₂ (λ x y. length (listing net) * (x * y)) one two in
    omega (arith, few, most, same)
  where
    one : suc net.blocks ≡ net.blocks + 1
    one = omega arith

    two : suc (suc net.blocks) ≡ net.blocks + 2
    two = omega arith

    go : (q : List ℕ) → is_simple_path net q ≡ true → Among q (flat_map parts (listing net))
    go q s =
        let h = extends net q s in
        among_each parts q h.0 (listing net) ((lists net).complete h.0 h.1)
        (subst (λ l. Among q (parts l)) (sym h.2.2) (part_among q h.2.0 h.2.1 (some_path net q s)))
