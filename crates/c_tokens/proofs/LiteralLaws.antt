-- What more digits do to a number, and which numbers have no type.
use Rattle.std.proofs.Common.{cond, true, ap, ◌∙◌, ◌&&◌, pos, ◌≡◌, ℕ, suc, zero, ◌+◌, ◌*◌, ◌^◌, ◌<◌, ◌≤◌, nat_le, false, List, [], ◌∷◌, Some, None, refl, arith, eqb, ◌≢◌, take, drop}
use Rattle.std.specs.Prelude.{find}
use Rattle.std.proofs.lemmas.Bool.Decides.{nat_tests}
use Rattle.int_ops.specs.declared.types.IntType.{IntType}
use Rattle.int_ops.specs.declared.types.IntType.TheVariants as type
use Rattle.int_ops.specs.Ranges.{is_in_range}
use Rattle.c_tokens.specs.declared.literals.NumberBase.{NumberBase}
use Rattle.c_tokens.specs.declared.literals.NumberBase.TheVariants as base
use Rattle.c_tokens.specs.declared.literals.Suffix.{Suffix}
use Rattle.c_tokens.specs.declared.literals.Suffix.TheVariants as suffix
use Rattle.std.specs.List.{prefix_len}
use Rattle.c_tokens.specs.declared.literals.Literal.TheVariants as literal
use Rattle.c_tokens.specs.Bytes.{is_in}
use Rattle.c_tokens.specs.Words.{look_up}
use Rattle.c_tokens.specs.Literals.{number_from, digit_value, types_of, digit_class, radix, suffixes, literal_in}

grown : (n r d : ℕ) → 0 < r → n ≤ n * r + d
grown n zero d more = absurd (omega arith)
grown n (suc r) d more = omega arith

pub number_from-least : (r n : ℕ) (digits : List ℕ) → 0 < r → n ≤ number_from r n digits
number_from-least r n [] more = omega arith
number_from-least r n (d ∷ ds) more =
    let step = grown n r (digit_value d) more in
    let rest = number_from-least r (n * r + digit_value d) ds more in
    omega arith

-- no type of the list holds the number
abbrev IsAbove : ℕ → List IntType → Type 0
IsAbove n [] = Unit {0}
IsAbove n (t ∷ ts) = (is_in_range t (pos n) ≡ false) × IsAbove n ts

find-above : (n : ℕ) (ts : List IntType) → IsAbove n ts → find (λ t. is_in_range t (pos n)) ts ≡ None
find-above n [] above = refl
find-above n (t ∷ ts) above =
    ap (λ b. cond b (Some t) (find (λ t. is_in_range t (pos n)) ts)) above.0 ∙ find-above n ts above.1

not_le : (n m : ℕ) → m < n → nat_le n m ≡ false
not_le n m less = grind (arith, nat_tests)

zero_le : (n : ℕ) → nat_le 0 n ≡ true
zero_le n = grind (arith, nat_tests)

-- a number that passes 64 bits is too big for each type
int_short : (n : ℕ) → (n < 2 ^ 64 → ⊥) → is_in_range type.Int (pos n) ≡ false
int_short n big = not_le n 0x7fff_ffff (omega arith)

unsigned_short : (n : ℕ) → (n < 2 ^ 64 → ⊥) → is_in_range type.UnsignedInt (pos n) ≡ false
unsigned_short n big = ap (λ b. b && nat_le n 0xffff_ffff) (zero_le n) ∙ not_le n 0xffff_ffff (omega arith)

long_short : (n : ℕ) → (n < 2 ^ 64 → ⊥) → is_in_range type.Long (pos n) ≡ false
long_short n big = not_le n 0x7fff_ffff_ffff_ffff (omega arith)

unsigned_long_short : (n : ℕ) → (n < 2 ^ 64 → ⊥) → is_in_range type.UnsignedLong (pos n) ≡ false
unsigned_long_short n big =
    ap (λ b. b && nat_le n 0xffff_ffff_ffff_ffff) (zero_le n) ∙ not_le n 0xffff_ffff_ffff_ffff (omega arith)

pub find-too_big : (b : NumberBase) (s : Suffix) (n : ℕ) → (n < 2 ^ 64 → ⊥) → find (λ t. is_in_range t (pos n)) (types_of b s) ≡ None
find-too_big base.Decimal suffix.Plain n big = find-above n (type.Int ∷ type.Long ∷ []) (int_short n big, (long_short n big, tt))
find-too_big base.Octal suffix.Plain n big = find-above n (type.Int ∷ type.UnsignedInt ∷ type.Long ∷ type.UnsignedLong ∷ []) (int_short n big, (unsigned_short n big, (long_short n big, (unsigned_long_short n big, tt))))
find-too_big base.Hexadecimal suffix.Plain n big = find-above n (type.Int ∷ type.UnsignedInt ∷ type.Long ∷ type.UnsignedLong ∷ []) (int_short n big, (unsigned_short n big, (long_short n big, (unsigned_long_short n big, tt))))
find-too_big base.Decimal suffix.Unsigned n big = find-above n (type.UnsignedInt ∷ type.UnsignedLong ∷ []) (unsigned_short n big, (unsigned_long_short n big, tt))
find-too_big base.Octal suffix.Unsigned n big = find-above n (type.UnsignedInt ∷ type.UnsignedLong ∷ []) (unsigned_short n big, (unsigned_long_short n big, tt))
find-too_big base.Hexadecimal suffix.Unsigned n big = find-above n (type.UnsignedInt ∷ type.UnsignedLong ∷ []) (unsigned_short n big, (unsigned_long_short n big, tt))
find-too_big base.Decimal suffix.Long n big = find-above n (type.Long ∷ []) (long_short n big, tt)
find-too_big base.Octal suffix.Long n big = find-above n (type.Long ∷ type.UnsignedLong ∷ []) (long_short n big, (unsigned_long_short n big, tt))
find-too_big base.Hexadecimal suffix.Long n big = find-above n (type.Long ∷ type.UnsignedLong ∷ []) (long_short n big, (unsigned_long_short n big, tt))
find-too_big base.Decimal suffix.UnsignedLong n big = find-above n (type.UnsignedLong ∷ []) (unsigned_long_short n big, tt)
find-too_big base.Octal suffix.UnsignedLong n big = find-above n (type.UnsignedLong ∷ []) (unsigned_long_short n big, tt)
find-too_big base.Hexadecimal suffix.UnsignedLong n big = find-above n (type.UnsignedLong ∷ []) (unsigned_long_short n big, tt)

-- digits that pass 64 bits are passed by no digits behind them
pub number_from-too_big : (r n d total : ℕ) (digits : List ℕ) → 0 < r → (n * r + digit_value d < 2 ^ 64 → ⊥)
    → number_from r n (d ∷ digits) ≡ total → total < 2 ^ 64 → ⊥
number_from-too_big r n d total digits more big is less =
    big (let least = number_from-least r (n * r + digit_value d) digits more in omega arith)

pub literal_in-too_big : (b : NumberBase) (body : List ℕ) (s : Suffix) → prefix_len (is_in (digit_class b)) body ≢ 0
    → look_up suffixes (drop (prefix_len (is_in (digit_class b)) body) body) ≡ Some s
    → (number_from (radix b) 0 (take (prefix_len (is_in (digit_class b)) body) body) < 2 ^ 64 → ⊥)
    → literal.TooBig ≡ literal_in b body
literal_in-too_big b body s some found big =
    let has : eqb (prefix_len (is_in (digit_class b)) body) 0 ≡ false = grind (arith, nat_tests) in
    rw (has, found, find-too_big b s _ big)
