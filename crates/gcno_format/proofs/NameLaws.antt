-- The bytes of names, and strings that hold one.
use Rattle.std.proofs.Common.{◌≡◌, ◌≢◌, ◌≤◌, ◌<◌, ◌+◌, ◌-◌, refl, sym, ap, ◌∙◌, ℕ, suc, true}
use Rattle.std.proofs.Common.{◌||◌, ◌==◌, leb, List, [], ◌∷◌, ◌++◌, length, take, get_or, eqb-true, eq-eqb, not}
use Rattle.std.proofs.Common.{inl, inr, arith}
use Rattle.std.specs.List.{All, list_all}
use Rattle.std.specs.Int.{is_in_range}
use Rattle.std.specs.Char.{is_ascii_alphanumeric, is_ascii_digit}
use Rattle.std.proofs.lemmas.Bool.{and_parts, and_from, or_cases, leb-true}
use Rattle.std.proofs.lemmas.List.{length-append}
use Rattle.std.proofs.lemmas.List.Elements.{All-nil, All-cons}
use Rattle.gcov_items.specs.Items.{HasNoNul, word_bytes, string_bytes}
use Rattle.gcno_format.specs.Notes.{is_name_byte, is_name}
use Rattle.gcno_format.specs.Reading.{text_in, is_name_string}

in_range : (lo hi c : ℕ) → is_in_range lo hi c ≡ true → (lo ≤ c) × (c ≤ hi)
in_range lo hi c h =
    let p = and_parts (leb lo c) (leb c hi) h in (leb-true lo c p.0, leb-true c hi p.1)

-- a byte of a name is a byte, and not NUL
name_byte : (b : ℕ) → is_name_byte b ≡ true → (0 < b) × (b < 256)
name_byte b h =
    elim (or_cases (is_ascii_alphanumeric b) (b == 95) h) [
      | inl word ↦
          elim (or_cases (is_in_range 48 57 b || is_in_range 65 90 b) (is_in_range 97 122 b) word) [
            | inl low ↦
                elim (or_cases (is_in_range 48 57 b) (is_in_range 65 90 b) low) [
                  | inl digit ↦ (let p = in_range 48 57 b digit in let l = p.0 in let m = p.1 in (omega (arith, l), omega (arith, m)))
                  | inr upper ↦ (let p = in_range 65 90 b upper in let l = p.0 in let m = p.1 in (omega (arith, l), omega (arith, m)))
                ]
            | inr lower ↦ (let p = in_range 97 122 b lower in let l = p.0 in let m = p.1 in (omega (arith, l), omega (arith, m)))
          ]
      | inr under ↦ (let e = eqb-true b 95 under in (omega (arith, e), omega (arith, e)))
    ]

name_bytes : (bs : List ℕ) → list_all is_name_byte bs ≡ true → HasNoNul bs × All (λ b. b < 256) bs
name_bytes [] h = (All-nil (λ b. b ≢ 0), All-nil (λ b. b < 256))
name_bytes (b ∷ bs) h =
    let p = and_parts (is_name_byte b) (list_all is_name_byte bs) h in
    let here = name_byte b p.0 in
    let rest = name_bytes bs p.1 in (
      All-cons (λ b. b ≢ 0) b bs (λ e. (let l = here.0 in absurd (omega (arith, l, e)))) rest.0,
      All-cons (λ b. b < 256) b bs here.1 rest.1,
    )

-- a name isn't empty, has no NUL, and is made of bytes
pub record IsText (bs : List ℕ) : Type 0 where
  pub some : 0 < length bs
  pub plain : HasNoNul bs
  pub bytes : All (λ b. b < 256) bs

pub name_text : (bs : List ℕ) → is_name bs ≡ true → IsText bs
name_text [] h = absurd cc
name_text (b ∷ bs) h =
    let p = and_parts (not (is_ascii_digit b)) (list_all is_name_byte (b ∷ bs)) h in
    let q = name_bytes (b ∷ bs) p.1 in
    record { some = omega arith; plain = q.0; bytes = q.1 }

-- bytes with something are their front and their last
front_and_last : (bs : List ℕ) (d : ℕ) → 0 < length bs → take (length bs - 1) bs ++ get_or bs (length bs - 1) d ∷ [] ≡ bs
front_and_last [] d lt = absurd (omega (arith, lt))
front_and_last (b ∷ []) d lt = refl
front_and_last (b ∷ c ∷ bs) d lt =
    ap (λ n. take n (b ∷ c ∷ bs) ++ get_or (b ∷ c ∷ bs) n d ∷ []) less
    ∙ ap (λ (l : List ℕ). b ∷ l) (front_and_last (c ∷ bs) d (omega arith))
  where
    less : length (b ∷ c ∷ bs) - 1 ≡ suc (length (c ∷ bs) - 1)
    less = omega arith

-- a string with a name is the name and a NUL
pub nul_behind : (bs : List ℕ) → is_name_string bs ≡ true → (text_in bs ++ 0 ∷ [] ≡ bs) × (is_name (text_in bs) ≡ true)
nul_behind [] h = absurd cc
nul_behind (b ∷ bs) h =
    let p = and_parts (get_or (b ∷ bs) (length (b ∷ bs) - 1) 1 == 0) (is_name (text_in (b ∷ bs))) h in
    let e = eqb-true (get_or (b ∷ bs) (length (b ∷ bs) - 1) 1) 0 p.0 in (
      ap (λ k. text_in (b ∷ bs) ++ k ∷ []) (sym e) ∙ front_and_last (b ∷ bs) 1 (omega arith),
      p.1,
    )

text_before : (name : List ℕ) (n : ℕ) → n ≡ length name → take n (name ++ 0 ∷ []) ≡ name
text_before [] n e = ap (λ k. take k (0 ∷ [])) e
text_before (b ∷ name) n e =
    ap (λ k. take k (b ∷ (name ++ 0 ∷ []))) e ∙ ap (λ (l : List ℕ). b ∷ l) (text_before name (length name) refl)

last_nul : (name : List ℕ) (n : ℕ) → n ≡ length name → get_or (name ++ 0 ∷ []) n 1 ≡ 0
last_nul [] n e = ap (λ k. get_or (0 ∷ []) k 1) e
last_nul (b ∷ name) n e = ap (λ k. get_or (b ∷ (name ++ 0 ∷ [])) k 1) e ∙ last_nul name (length name) refl

pub with_nul : (name : List ℕ) → is_name name ≡ true
    → (is_name_string (name ++ 0 ∷ []) ≡ true) × (text_in (name ++ 0 ∷ []) ≡ name) × (length (name ++ 0 ∷ []) ≡ length name + 1)
with_nul name h =
    let l = length-append name (0 ∷ []) in
    let less : length (name ++ 0 ∷ []) - 1 ≡ length name = omega (arith, l) in
    let text : text_in (name ++ 0 ∷ []) ≡ name = text_before name (length (name ++ 0 ∷ []) - 1) less in (
      and_from _ _ (eq-eqb _ 0 (last_nul name (length (name ++ 0 ∷ []) - 1) less)) (ap is_name text ∙ h),
      text,
      l,
    )

-- the string of a name
pub name_string : (name : List ℕ) → 0 < length name → string_bytes name ≡ word_bytes (length name + 1) ++ (name ++ 0 ∷ [])
name_string [] lt = absurd (omega (arith, lt))
name_string (b ∷ name) lt = refl
