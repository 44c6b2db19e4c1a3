-- Words of tests, their bits, and the fold of a row over the words.
use Rattle.std.proofs.Common.{
  ◌≡◌,
  refl,
  sym,
  ap,
  ap₂,
  subst,
  ◌∙◌,
  ℕ,
  zero,
  suc,
  ◌+◌,
  ◌*◌,
  ◌/◌,
  ◌%◌,
  ◌≤◌,
  ◌<◌,
  ◌||◌,
  ◌&&◌,
  List,
  [],
  ◌∷◌,
  map,
  get_or,
  Bool,
  true,
  false,
  ◌⊎◌,
  inl,
  inr,
  arith,
  min,
  max,
  fold,
  flat_map,
  bit_and,
  bit_or,
  ◌≢◌,
}
use Rattle.std.specs.Int.{bit_at}
use Rattle.std.proofs.lemmas.Bool.{cases_eq}
use Rattle.std.proofs.lemmas.Nat.Bits.{bit_at_lowest, bit_at-suc, bit_at-zero, bit_at_and, bit_at_or, same_from_bits}
use Rattle.std.proofs.lemmas.List.Sums.{fold-append}
use Rattle.prime_paths.specs.Paths.{Among}
use Rattle.prime_paths.specs.Lister.{numbers}
use Rattle.path_masks.specs.Masks.{one_if, word_of, nth}

-- ---- bits of a word

low_bit : (c : Bool) (n : ℕ) → (one_if c + 2 * n) % 2 ≡ one_if c
low_bit true n = omega arith
low_bit false n = omega arith

high_bits : (c : Bool) (n : ℕ) → (one_if c + 2 * n) / 2 ≡ n
high_bits true n = omega arith
high_bits false n = omega arith

-- a bit of the word tells whether its path passes the test
pub bit_of_word : (t : List ℕ → Bool) (ps : List (List ℕ)) (k : ℕ) → bit_at (word_of t ps) k ≡ one_if (nth t ps k)
bit_of_word t [] k = bit_at-zero k
bit_of_word t (p ∷ ps) zero = bit_at_lowest (word_of t (p ∷ ps)) ∙ low_bit (t p) (word_of t ps)
bit_of_word t (p ∷ ps) (suc k) = bit_at-suc (word_of t (p ∷ ps)) k
    ∙ ap (λ n. bit_at n k) (high_bits (t p) (word_of t ps)) ∙ bit_of_word t ps k

both_bits : (a b : Bool) → min (one_if a) (one_if b) ≡ one_if (a && b)
both_bits true true = refl
both_bits true false = refl
both_bits false true = refl
both_bits false false = refl

some_bit : (a b : Bool) → max (one_if a) (one_if b) ≡ one_if (a || b)
some_bit true true = refl
some_bit true false = refl
some_bit false true = refl
some_bit false false = refl

nth_and : (t u : List ℕ → Bool) (ps : List (List ℕ)) (k : ℕ) → (nth t ps k && nth u ps k) ≡ nth (λ p. t p && u p) ps k
nth_and t u [] k = refl
nth_and t u (p ∷ ps) zero = refl
nth_and t u (p ∷ ps) (suc k) = nth_and t u ps k

nth_or : (t u : List ℕ → Bool) (ps : List (List ℕ)) (k : ℕ) → (nth t ps k || nth u ps k) ≡ nth (λ p. t p || u p) ps k
nth_or t u [] k = refl
nth_or t u (p ∷ ps) zero = refl
nth_or t u (p ∷ ps) (suc k) = nth_or t u ps k

pub word_and : (t u : List ℕ → Bool) (ps : List (List ℕ)) → bit_and (word_of t ps) (word_of u ps)
    ≡ word_of (λ p. t p && u p) ps
word_and t u ps = same_from_bits _ _ (λ k. bit_at_and (word_of t ps) (word_of u ps) k
    ∙ ap₂ (λ a b. min a b) (bit_of_word t ps k) (bit_of_word u ps k)
    ∙ both_bits (nth t ps k) (nth u ps k) ∙ ap (λ c. one_if c) (nth_and t u ps k)
    ∙ sym (bit_of_word (λ p. t p && u p) ps k))

pub word_or : (t u : List ℕ → Bool) (ps : List (List ℕ)) → bit_or (word_of t ps) (word_of u ps)
    ≡ word_of (λ p. t p || u p) ps
word_or t u ps = same_from_bits _ _ (λ k. bit_at_or (word_of t ps) (word_of u ps) k
    ∙ ap₂ (λ a b. max a b) (bit_of_word t ps k) (bit_of_word u ps k)
    ∙ some_bit (nth t ps k) (nth u ps k) ∙ ap (λ c. one_if c) (nth_or t u ps k)
    ∙ sym (bit_of_word (λ p. t p || u p) ps k))

-- tests that agree on the paths make the same word
pub word_same : (t u : List ℕ → Bool) (ps : List (List ℕ)) → ((p : List ℕ) → Among p ps → t p ≡ u p) → word_of t ps
    ≡ word_of u ps
word_same t u [] h = refl
word_same t u (p ∷ ps) h = ap₂ (λ (c : Bool) (n : ℕ). one_if c + 2 * n) (h p (inl refl))
    (word_same t u ps (λ q m. h q (inr m)))

-- where no path passes, the word is 0
pub word_none : (t : List ℕ → Bool) (ps : List (List ℕ)) → ((p : List ℕ) → Among p ps → t p ≡ false) → word_of t ps ≡ 0
word_none t [] h = refl
word_none t (p ∷ ps) h = ap₂ (λ (c : Bool) (n : ℕ). one_if c + 2 * n) (h p (inl refl))
    (word_none t ps (λ q m. h q (inr m)))

-- ---- numbers in a row

pub get_numbers : (f : ℕ → ℕ) (from n j : ℕ) → j < n → get_or (map f (numbers from n)) j 0 ≡ f (from + j)
get_numbers f from zero j l = absurd (omega (arith, l))
get_numbers f from (suc n) zero l = ap f (omega arith)
get_numbers f from (suc n) (suc j) l = get_numbers f (suc from) n j (omega (arith, l)) ∙ ap f (omega arith)

-- ---- a row whose entries are for one word each, ascending

pub record EachWord {S E : Type 0} (step : S → E → S) (row : ℕ → List E) (see : S → ℕ → ℕ × ℕ)
    (change : ℕ → ℕ × ℕ → ℕ × ℕ) (Good : S → Type 0) (most : ℕ) : Type 0 where
  pub keeps : (i : ℕ) (s : S) → i < most → Good s → Good (fold step s (row i))
  pub own : (i : ℕ) (s : S) → i < most → Good s → see (fold step s (row i)) i ≡ change i (see s i)
  pub other : (i j : ℕ) (s : S) → i < most → Good s → j ≢ i → see (fold step s (row i)) j ≡ see s j

-- what the whole row makes of the words
pub each_word : {S E : Type 0} (step : S → E → S) (row : ℕ → List E) (see : S → ℕ → ℕ × ℕ) (change : ℕ → ℕ × ℕ → ℕ × ℕ)
    (Good : S → Type 0) (most : ℕ)
    → EachWord step row see change Good most → (from n : ℕ) (s : S) → from + n ≤ most → Good s
    → Good (fold step s (flat_map row (numbers from n)))
    × ((j : ℕ) → j < from → see (fold step s (flat_map row (numbers from n))) j ≡ see s j)
    × ((j : ℕ) → from ≤ j → j < from + n → see (fold step s (flat_map row (numbers from n))) j ≡ change j (see s j))
each_word step row see change Good most h from zero s l g = (g, (λ j k. refl), (λ j a b. absurd (omega (arith, a, b))))
each_word {S} {E} step row see change Good most h from (suc n) s l g =
    let here : from < most = omega (arith, l) in
    let r = each_word step row see change Good most h (suc from) n (fold step s (row from)) (omega (arith, l))
    (h.keeps from s here g) in
    let e = fold-append step s (row from) (flat_map row (numbers (suc from) n)) in (
      subst Good (sym e) r.0,
      (λ j k. ap (λ x. see x j) e ∙ r.1 j (omega (arith, k))
          ∙ h.other from j s here g (λ q. (let b : j ≡ from = q in omega (arith, b, k)))),
      (λ j a b. ap (λ x. see x j) e ∙ at here j a b (cases_eq j from) r.1 r.2),
    )
  where
    at : from < most → (j : ℕ) → from ≤ j → j < from + suc n → (j ≡ from) ⊎ (j ≡ from → ⊥)
        → ((j : ℕ) → j < suc from → see (fold step (fold step s (row from)) (flat_map row (numbers (suc from) n))) j
        ≡ see (fold step s (row from)) j)
        → ((j : ℕ) → suc from ≤ j → j < suc from + n
        → see (fold step (fold step s (row from)) (flat_map row (numbers (suc from) n))) j
        ≡ change j (see (fold step s (row from)) j))
        → see (fold step (fold step s (row from)) (flat_map row (numbers (suc from) n))) j ≡ change j (see s j)
    at here j a b (inl q) low high =
        low j (omega (arith, q)) ∙ subst (λ i. see (fold step s (row from)) i ≡ change i (see s i)) (sym q)
        (h.own from s here g)
    at here j a b (inr o) low high =
        high j (omega (arith, a, o)) (omega (arith, b)) ∙ ap (λ x. change j x) (h.other from j s here g o)
