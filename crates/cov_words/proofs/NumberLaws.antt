-- What parsing a text of digits says of the number that it writes.
use Rattle.std.proofs.Common.{
  ◌≡◌,
  refl,
  sym,
  ap,
  subst,
  ◌∙◌,
  ℕ,
  ◌≤◌,
  ◌<◌,
  ◌^◌,
  ◌&&◌,
  ◌==◌,
  not,
  eq-eqb,
  cond,
  List,
  length,
  Bool,
  true,
  false,
  Option,
  Some,
  None,
  Result,
  Ok,
  Err,
  ◌⊎◌,
  inl,
  inr,
  arith,
  leb,
  ltb,
  rules,
}
use Rattle.std.specs.List.{list_all}
use Rattle.std.specs.Char.{is_ascii_digit}
use Rattle.std.specs.Result.{OkIff}
use Rattle.std.specs.Str.Parse.{digits_value, ParsesUnsigned}
use Rattle.std.proofs.lemmas.Bool.{and_parts, both_ways, le-leb, lt-leb, cases_eq, cases_lt}
use Rattle.std.proofs.lemmas.Str.Parse.{IsNumeralModel, numerals_by_value, parse_digits}
use Rattle.cov_words.specs.Numbers.{is_number, number_in}

abbrev IsDigits : List ℕ → Type 0
IsDigits text = list_all is_ascii_digit text ≡ true

own : IsNumeralModel IsDigits (digits_value 10)
own = numerals_by_value IsDigits (search rules)

-- a text of digits is parsed where it isn't empty and its number fits
pub parsed : {E : Type 0} (text : List ℕ) (r : Result ℕ E) → ParsesUnsigned 64 10 text r → is_number text ≡ true
    → OkIff r ((0 < length text) × (digits_value 10 text < 2 ^ 64)) (digits_value 10 text)
parsed text r h e = parse_digits own 64 text r h (and_parts _ _ e).1

some_length : (n : ℕ) → not (n == 0) ≡ true → 0 < n
some_length n e = elim (cases_eq n 0) [
  | inl z ↦ absurd (both_ways (not (n == 0)) (ap not (eq-eqb n 0 z)) e)
  | inr o ↦ omega (arith, o)
]

-- what number the text writes, by the tests of its range
by_range : (least most : ℕ) (text : List ℕ) (low high : Bool) → is_number text ≡ true → leb least (digits_value 10 text) ≡ low
    → leb (digits_value 10 text) most ≡ high → number_in least most text ≡ cond (low && high) (Some (digits_value 10 text)) None
by_range least most text low high e l h =
    ap (λ c. cond (c && (leb least (digits_value 10 text) && leb (digits_value 10 text) most)) (Some (digits_value 10 text)) None) e
    ∙ ap (λ c. cond (c && leb (digits_value 10 text) most) (Some (digits_value 10 text)) None) l
    ∙ ap (λ c. cond (low && c) (Some (digits_value 10 text)) None) h

pub no_number : (least most : ℕ) (text : List ℕ) → is_number text ≡ false → number_in least most text ≡ None
no_number least most text e =
    ap (λ c. cond (c && (leb least (digits_value 10 text) && leb (digits_value 10 text) most)) (Some (digits_value 10 text)) None) e

never : (c : Bool) (x : ℕ) → cond (c && false) (Some x) None ≡ None
never true x = refl
never false x = refl

-- a number that isn't parsed is above each that is
pub too_long : {E : Type 0} (least most : ℕ) (text : List ℕ) (e : E) → most < 2 ^ 64 → is_number text ≡ true
    → ParsesUnsigned 64 10 text (Err e) → number_in least most text ≡ None
too_long {E} least most text e small digits h =
    by_range least most text (leb least (digits_value 10 text)) false digits refl (lt-leb _ _ (above (cases_lt (digits_value 10 text) (2 ^ 64))))
    ∙ never (leb least (digits_value 10 text)) (digits_value 10 text)
  where
    above : (digits_value 10 text < 2 ^ 64) ⊎ (2 ^ 64 ≤ digits_value 10 text) → most < digits_value 10 text
    above (inl l) = absurd (parsed text (Err e) h digits (some_length (length text) (and_parts _ _ digits).0, l))
    above (inr l) = omega (arith, l, small)
