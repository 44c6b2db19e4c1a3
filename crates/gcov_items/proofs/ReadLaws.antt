-- What is left behind an item, and strings at the front of bytes.
use Rattle.std.proofs.Common.{◌≡◌, ◌≢◌, refl, sym, ap, subst, ◌∙◌, ℕ, zero, suc, ◌+◌, ◌-◌, ◌<◌, ◌≤◌, List, [], ◌∷◌}
use Rattle.std.proofs.Common.{◌++◌, length, take, drop, get_or, true, ◌==◌, eqb-true, append_assoc, arith}
use Rattle.std.proofs.Common.{length-append, length-drop}
use Rattle.std.proofs.lemmas.List.{drop-drop, take-append-drop, length-take-le}
use Rattle.gcov_items.specs.Items.{word_bytes, string_bytes, IsBodyOf, IsNoString}

-- something is left before the end
pub some_left : (bytes : List ℕ) (at : ℕ) → at < length bytes → drop at bytes ≢ []
some_left [] at lt e = absurd (omega (arith, lt))
some_left (x ∷ xs) zero lt e = cc
some_left (x ∷ xs) (suc at) lt e = some_left xs at (omega (arith, lt)) e

take_whole : (xs : List ℕ) → take (length xs) xs ≡ xs
take_whole [] = refl
take_whole (x ∷ xs) = ap (λ (l : List ℕ). x ∷ l) (take_whole xs)

-- a slice up to the end is what is left
pub all_behind : (k : ℕ) (xs : List ℕ) → take (length xs - k) (drop k xs) ≡ drop k xs
all_behind k xs = subst (λ n. take n (drop k xs) ≡ drop k xs) (length-drop k xs) (take_whole (drop k xs))

-- ---- bodies of strings

not_nil : (ys : List ℕ) (b : ℕ) → [] ≡ ys ++ b ∷ [] → ⊥
not_nil [] b e = cc
not_nil (y ∷ ys) b e = cc

tails : (x y : ℕ) (xs ys : List ℕ) → x ∷ xs ≡ y ∷ ys → (x ≡ y) × (xs ≡ ys)
tails x y xs ys e = (cc, cc)

last_same : (xs ys : List ℕ) (a b : ℕ) → xs ++ a ∷ [] ≡ ys ++ b ∷ [] → (xs ≡ ys) × (a ≡ b)
last_same [] [] a b e = (refl, (tails a b [] [] e).0)
last_same [] (y ∷ ys) a b e = absurd (not_nil ys b (tails a y [] (ys ++ b ∷ []) e).1)
last_same (x ∷ xs) [] a b e = absurd (not_nil xs a (sym (tails x b (xs ++ a ∷ []) [] e).1))
last_same (x ∷ xs) (y ∷ ys) a b e =
    let h = tails x y (xs ++ a ∷ []) (ys ++ b ∷ []) e in
    let k = last_same xs ys a b h.1 in (rw (h.0, k.0) refl, k.1)

-- a text with a NUL in it has no string
pub no_body : (body front : List ℕ) (last at : ℕ) → body ≡ front ++ last ∷ [] → at < length front
    → ((d : ℕ) → (get_or front at d == 0) ≡ true) → (text : List ℕ) → IsBodyOf body text → ⊥
no_body body front last at e lt nul text h =
    let same : front ≡ text = (last_same front text last 0 (sym e ∙ h.2)).0 in
    h.1 at 0 (subst (λ l. at < length l) same lt)
    (subst (λ (l : List ℕ). get_or l at 0 ≡ 0) same (eqb-true (get_or front at 0) 0 (nul 0)))

-- bytes behind a word that are the body of no text are those of no string
pub no_string : (l b : List ℕ) (n : ℕ) → b ≡ drop 4 l → l ≡ word_bytes n ++ drop 4 l → n ≢ 0 → n ≤ length b
    → ((text : List ℕ) → IsBodyOf (take n b) text → ⊥) → IsNoString l
no_string l b n e h ne le none = record {
  size = n;
  body = take n b;
  rest = drop n b;
  front = h ∙ ap (λ (r : List ℕ). word_bytes n ++ r) (sym e ∙ sym (take-append-drop n b));
  whole = length-take-le n b le;
  some = some n ne;
  none = none;
}
  where
    some : (n : ℕ) → n ≢ 0 → 0 < n
    some zero ne = absurd (ne refl)
    some (suc n) ne = omega arith

-- the string of a text that isn't empty
some_string : (text : List ℕ) → 0 < length text → string_bytes text ≡ word_bytes (length text + 1) ++ (text ++ 0 ∷ [])
some_string [] lt = absurd (omega (arith, lt))
some_string (b ∷ text) lt = refl

-- a text whose body stands behind its word has its string there
pub a_string : (l b text : List ℕ) (n : ℕ) → b ≡ drop 4 l → l ≡ word_bytes n ++ drop 4 l → n ≤ length b
    → IsBodyOf (take n b) text → (l ≡ string_bytes text ++ drop (4 + n) l) × (length (string_bytes text) ≡ 4 + n)
a_string l b text n e h le body =
    let size : n ≡ length text + 1 =
    sym (length-take-le n b le) ∙ (ap length body.2 ∙ length-append text (0 ∷ [])) in
    let spelled : string_bytes text ≡ word_bytes n ++ take n b =
    some_string text body.0 ∙ (ap (λ k. word_bytes k ++ (text ++ 0 ∷ [])) (sym size)
    ∙ ap (λ (r : List ℕ). word_bytes n ++ r) (sym body.2)) in
    let parts : b ≡ take n b ++ drop n b = sym (take-append-drop n b) in
    let rest : drop n b ≡ drop (4 + n) l = ap (drop n) e ∙ drop-drop n 4 l in (
      h ∙ (ap (λ (r : List ℕ). word_bytes n ++ r) (sym e ∙ (parts ∙ ap (λ (r : List ℕ). take n b ++ r) rest))
          ∙ (sym (append_assoc (word_bytes n) (take n b) (drop (4 + n) l))
          ∙ ap (λ (s : List ℕ). s ++ drop (4 + n) l) (sym spelled))),
      ap length spelled ∙ (length-append (word_bytes n) (take n b) ∙ ap (λ k. 4 + k) (length-take-le n b le)),
    )
