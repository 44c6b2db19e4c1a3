-- The paths of a word one by one.
use Rattle.std.proofs.Common.{◌≡◌, refl, sym, ap, ap₂, ◌∙◌, ℕ, zero, suc, ◌+◌, ◌-◌, ◌*◌, ◌^◌, ◌≤◌, ◌<◌, ◌||◌}
use Rattle.std.proofs.Common.{List, [], ◌∷◌, length, get_or, take, drop, cond, ltb, Bool, true, false, arith, pow-suc}
use Rattle.std.proofs.Common.{length-drop}
use native.Mathlib.Nat.{one-le-pow}
use Rattle.std.specs.List.{list_any}
use Rattle.std.proofs.lemmas.Bool.{ltb-true}
use Rattle.std.proofs.lemmas.List.{take_all, drop_more}
use Rattle.path_masks.specs.Masks.{one_if, word_of, chunk}

one_most : (c : Bool) → one_if c ≤ 1
one_most true = omega arith
one_most false = omega arith

-- so many paths have a word of so many bits
pub word_small : (t : List ℕ → Bool) (qs : List (List ℕ)) (n : ℕ) → length qs ≤ n → word_of t qs < 2 ^ n
word_small t [] n l = (let h = one-le-pow n 2 (omega arith) in omega (arith, h))
word_small t (q ∷ qs) zero l = absurd (omega (arith, l))
word_small t (q ∷ qs) (suc n) l =
    let h = word_small t qs n (omega (arith, l)) in
    let e = pow-suc 2 n in
    let o = one_most (t q) in
    omega (arith, h, e, o)

take_cond : {A : Type 0} (n : ℕ) (xs : List A) (c : Bool) → ltb (length xs) 64 ≡ c → n ≡ cond c (length xs) 64
    → take n xs ≡ take 64 xs
take_cond n xs true e h = (let l = ltb-true _ _ e in
    take_all n xs (omega (arith, h)) ∙ sym (take_all 64 xs (omega (arith, l))))
take_cond n xs false e h = ap (λ k. take k xs) h

-- up to 64 paths from a word's first on are the paths of the word
pub chunk_from : (ps : List (List ℕ)) (word from left count : ℕ) → from ≡ word * 64 → count ≡ length ps
    → left ≡ cond (ltb (count - from) 64) (count - from) 64
    → take (from + left - from) (drop from ps) ≡ chunk ps word
chunk_from ps word from left count f n l =
    ap (λ k. take k (drop from ps)) back
    ∙ take_cond left (drop from ps) (ltb (length (drop from ps)) 64) refl
    (l ∙ ap (λ k. cond (ltb k 64) k 64) (ap (λ k. k - from) n ∙ sym (length-drop from ps)))
    ∙ ap (λ k. take 64 (drop k ps)) (f ∙ turned)
  where
    back : from + left - from ≡ left
    back = omega arith

    turned : word * 64 ≡ 64 * word
    turned = omega arith

take_first : (ps : List (List ℕ)) (k to : ℕ) (d : List ℕ) → k < to → k < length ps
    → take (to - k) (drop k ps) ≡ get_or ps k d ∷ take (to - (k + 1)) (drop (k + 1) ps)
take_first ps k to d l m = ap₂ (λ n (r : List (List ℕ)). take n r) more (drop_more ps k d m)
  where
    more : to - k ≡ suc (to - (k + 1))
    more = omega (arith, l)

take_zero : {A : Type 0} (n : ℕ) (xs : List A) → n ≡ 0 → take n xs ≡ []
take_zero zero xs e = refl
take_zero (suc n) xs e = absurd (omega (arith, e))

-- ---- whether some path passes

pub any_step : (t : List ℕ → Bool) (ps : List (List ℕ)) (k to : ℕ) (d p : List ℕ) (c whole : Bool) → k < to
    → to ≤ length ps
    → p ≡ get_or ps k d → c ≡ t p → c ≡ false → list_any t (take (to - k) (drop k ps)) ≡ whole
    → list_any t (take (to - (k + 1)) (drop (k + 1) ps)) ≡ whole
any_step t ps k to d p c whole l m e f z h =
    sym (ap (λ b. b || list_any t (take (to - (k + 1)) (drop (k + 1) ps))) (ap t (sym e) ∙ sym f ∙ z))
    ∙ sym (ap (λ (qs : List (List ℕ)). list_any t qs) (take_first ps k to d l (omega (arith, l, m)))) ∙ h

pub any_found : (t : List ℕ → Bool) (ps : List (List ℕ)) (k to : ℕ) (d p : List ℕ) (c whole : Bool) → k < to
    → to ≤ length ps
    → p ≡ get_or ps k d → c ≡ t p → c ≡ true → list_any t (take (to - k) (drop k ps)) ≡ whole → true ≡ whole
any_found t ps k to d p c whole l m e f z h =
    sym (ap (λ b. b || list_any t (take (to - (k + 1)) (drop (k + 1) ps))) (ap t (sym e) ∙ sym f ∙ z))
    ∙ sym (ap (λ (qs : List (List ℕ)). list_any t qs) (take_first ps k to d l (omega (arith, l, m)))) ∙ h

pub any_end : (t : List ℕ → Bool) (ps : List (List ℕ)) (k to : ℕ) (whole : Bool) → to ≤ k
    → list_any t (take (to - k) (drop k ps)) ≡ whole → false ≡ whole
any_end t ps k to whole l h = sym (ap (λ (qs : List (List ℕ)). list_any t qs)
    (take_zero (to - k) (drop k ps) (omega (arith, l)))) ∙ h

-- ---- the word, from the last path to the first

twice : (c w : ℕ) → w * 2 + c ≡ c + 2 * w
twice c w = omega arith

pub word_step : (t : List ℕ → Bool) (ps : List (List ℕ)) (k to : ℕ) (d p : List ℕ) (w c : ℕ) (b : Bool) → 0 < k → k ≤ to
    → to ≤ length ps
    → p ≡ get_or ps (k - 1) d → b ≡ t p → c ≡ one_if b → w ≡ word_of t (take (to - k) (drop k ps))
    → w * 2 + c ≡ word_of t (take (to - (k - 1)) (drop (k - 1) ps))
word_step t ps k to d p w c b some l m e f g h =
    twice c w ∙ ap₂ (λ x y. x + 2 * y) (g ∙ ap one_if (f ∙ ap t e))
    (h ∙ ap (λ n. word_of t (take (to - n) (drop n ps))) back)
    ∙ sym (ap (λ (qs : List (List ℕ)). word_of t qs)
    (take_first ps (k - 1) to d (omega (arith, some, l)) (omega (arith, some, l, m))))
  where
    back : k ≡ k - 1 + 1
    back = omega (arith, some)

pub word_first : (t : List ℕ → Bool) (ps : List (List ℕ)) (to : ℕ) → 0 ≡ word_of t (take (to - to) (drop to ps))
word_first t ps to = sym (ap (λ (qs : List (List ℕ)). word_of t qs) (take_zero (to - to) (drop to ps) none))
  where
    none : to - to ≡ 0
    none = omega arith

-- a word of at most 63 paths has room for a bit more
pub word_room : (t : List ℕ → Bool) (ps : List (List ℕ)) (k to w : ℕ) → to - k ≤ 63 → to ≤ length ps
    → w ≡ word_of t (take (to - k) (drop k ps))
    → w * 2 + 1 < 18446744073709551616
word_room t ps k to w l m h =
    let few : length (take (to - k) (drop k ps)) ≤ 63 = short (to - k) (drop k ps) l in
    let small : word_of t (take (to - k) (drop k ps)) < 9223372036854775808 =
    word_small t (take (to - k) (drop k ps)) 63 few in
    omega (arith, small, h)
  where
    short : {A : Type 0} (n : ℕ) (xs : List A) → n ≤ 63 → length (take n xs) ≤ 63
    short n xs l = below n xs 63 l
      where
        below : {A : Type 0} (n : ℕ) (xs : List A) (m : ℕ) → n ≤ m → length (take n xs) ≤ m
        below zero xs m l = omega arith
        below (suc n) [] m l = omega arith
        below (suc n) (x ∷ xs) zero l = absurd (omega (arith, l))
        below (suc n) (x ∷ xs) (suc m) l = (let h = below n xs m (omega (arith, l)) in omega (arith, h))
