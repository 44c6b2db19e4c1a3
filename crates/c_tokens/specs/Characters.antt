-- Character constants (C17 6.4.4.4).
use Rattle.std.specs.Prelude.{
  ◌≡◌,
  ℕ,
  ◌-◌,
  ◌<◌,
  ◌≤◌,
  ◌==◌,
  ◌&&◌,
  not,
  nat_lt,
  nat_le,
  Bool,
  true,
  cond,
  List,
  [],
  ◌∷◌,
  ◌++◌,
  length,
  Option,
  Some,
  None,
  ℤ,
  pos,
  negsuc,
}
use Rattle.std.specs.List.{list_all}
use Rattle.c_tokens.specs.declared.bytes.ByteClass.TheVariants as class
use Rattle.c_tokens.specs.Bytes.{is_in}
use Rattle.c_tokens.specs.Literals.{number_from}

-- the bytes that stand for themselves: those from 32 to 126 but for ' and \ (C17 6.4.4.4 paragraph 2)
abbrev pub is_plain : ℕ → Bool
is_plain b = nat_le 32 b && nat_le b 126 && not (b == 39) && not (b == 92)

-- the byte that `\n`, `\t`, `\r`, `\a`, `\b`, `\f`, `\v`, `\\`, `\'`, `\"` or `\?` means (C17 5.2.2, 6.4.4.4 paragraph
-- 3)
abbrev pub escaped : ℕ → Option ℕ
escaped b =
    cond (b == 110) (Some 10) (cond (b == 116) (Some 9) (cond (b == 114) (Some 13) (cond (b == 97) (Some 7)
    (cond (b == 98) (Some 8) (cond (b == 102) (Some 12) (cond (b == 118) (Some 11) (cond (b == 92) (Some 92)
    (cond (b == 39) (Some 39) (cond (b == 34) (Some 34) (cond (b == 63) (Some 63) None))))))))))

-- What stands between the quotes, and the byte that it means: a byte for itself, an escape by a letter or mark, an
-- octal escape of one
-- to three digits, a hexadecimal one of one or two (C17 6.4.4.4; that two hexadecimal digits are the most is own).
pub data Means : List ℕ → ℕ → Type 0 where
  plain : {b : ℕ} → is_plain b ≡ true → Means (b ∷ []) b
  simple : {b value : ℕ} → escaped b ≡ Some value → Means (92 ∷ b ∷ []) value
  octal : {digits : List ℕ} {value : ℕ} → list_all (is_in class.Octal) digits ≡ true → 0 < length digits → length
      digits ≤ 3
      → value ≡ number_from 8 0 digits → value ≤ 255 → Means (92 ∷ digits) value
  hexadecimal : {digits : List ℕ} {value : ℕ} → list_all (is_in class.Hexadecimal) digits ≡ true → 0 < length digits →
      length digits ≤ 2
      → value ≡ number_from 16 0 digits → Means (92 ∷ 120 ∷ digits) value

-- the bytes are a character constant that means this byte (C17 6.4.4.4 paragraph 1)
pub record IsCharacter (bytes : List ℕ) (value : ℕ) : Type 0 where
  pub inside : List ℕ
  pub quoted : bytes ≡ 39 ∷ (inside ++ 39 ∷ [])
  pub means : Means inside value

-- the bytes are the front of a character constant, or a whole one (own)
pub record Fits (bytes : List ℕ) : Type 0 where
  pub rest : List ℕ
  pub value : ℕ
  pub whole : IsCharacter (bytes ++ rest) value

-- A text has this front, which is no whole character constant; the byte behind it, if there is one, is the first that
-- fits into none (own).
pub record StopsFitting (text front : List ℕ) : Type 0 where
  pub rest : List ℕ
  pub parts : text ≡ front ++ rest
  pub fits : Fits front
  pub unfinished : (value : ℕ) → IsCharacter front value → ⊥
  pub next : (b : ℕ) (more : List ℕ) → rest ≡ b ∷ more → Fits (front ++ b ∷ []) → ⊥

-- a byte as a signed char (C17 6.4.4.4 paragraph 10; that char is signed is own)
abbrev pub signed_char : ℕ → ℤ
signed_char b = cond (nat_lt b 128) (pos b) (negsuc (255 - b))
