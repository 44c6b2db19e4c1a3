-- Numbers: their form, their value and their type (C17 6.4.4.1, whose paragraphs are named below).
use Rattle.std.specs.Prelude.{
  ℕ,
  ◌+◌,
  ◌-◌,
  ◌*◌,
  ◌==◌,
  ◌||◌,
  nat_lt,
  cond,
  List,
  [],
  ◌∷◌,
  take,
  drop,
  slice_index,
  find,
  Option,
  Some,
  None,
  pos,
  codes,
}
use Rattle.std.specs.Char.{is_ascii_digit}
use Rattle.std.specs.List.{prefix_len}
use Rattle.int_ops.specs.declared.types.IntType.{IntType}
use Rattle.int_ops.specs.declared.types.IntType.TheVariants as type
use Rattle.int_ops.specs.Ranges.{is_in_range}
use Rattle.c_tokens.specs.declared.bytes.ByteClass.{ByteClass}
use Rattle.c_tokens.specs.declared.bytes.ByteClass.TheVariants as class
use Rattle.c_tokens.specs.declared.literals.NumberBase.{NumberBase}
use Rattle.c_tokens.specs.declared.literals.NumberBase.TheVariants as base
use Rattle.c_tokens.specs.declared.literals.Suffix.{Suffix}
use Rattle.c_tokens.specs.declared.literals.Suffix.TheVariants as suffix
use Rattle.c_tokens.specs.declared.literals.Literal.{Literal}
use Rattle.c_tokens.specs.declared.literals.Literal.TheVariants as literal
use Rattle.c_tokens.specs.Bytes.{is_in}
use Rattle.c_tokens.specs.Words.{look_up}

-- `0x` and `0X` begin a hexadecimal number, any other 0 an octal one, and another digit a decimal one (paragraph 3)
abbrev pub base_of : List ℕ → NumberBase
base_of run =
    cond (slice_index run 0 == 48) (cond (slice_index run 1 == 120 || slice_index run 1 == 88) base.Hexadecimal
    base.Octal) base.Decimal

-- how many bytes stand before the digits (paragraph 1)
abbrev pub digits_start : NumberBase → ℕ
digits_start base.Hexadecimal = 2
digits_start b = 0

-- the digits of a base (paragraph 1)
abbrev pub digit_class : NumberBase → ByteClass
digit_class base.Octal = class.Octal
digit_class base.Decimal = class.Decimal
digit_class base.Hexadecimal = class.Hexadecimal

-- how many digits a base has (paragraph 4)
abbrev pub radix : NumberBase → ℕ
radix base.Octal = 8
radix base.Decimal = 10
radix base.Hexadecimal = 16

-- the number that a digit stands for (paragraph 3)
abbrev pub digit_value : ℕ → ℕ
digit_value b = cond (is_ascii_digit b) (b - 48) (cond (nat_lt b 97) (b - 55) (b - 87))

-- the number that digits spell behind the digits of another number (paragraph 4)
abbrev pub number_from : ℕ → ℕ → List ℕ → ℕ
number_from r n [] = n
number_from r n (d ∷ ds) = number_from r (n * r + digit_value d) ds

-- the suffixes, each letter small or large (paragraph 1, without `ll`)
unfoldable pub suffixes : List (List ℕ × Suffix)
suffixes =
    (codes "", suffix.Plain) ∷
    (codes "u", suffix.Unsigned) ∷
    (codes "U", suffix.Unsigned) ∷
    (codes "l", suffix.Long) ∷
    (codes "L", suffix.Long) ∷
    (codes "ul", suffix.UnsignedLong) ∷
    (codes "uL", suffix.UnsignedLong) ∷
    (codes "Ul", suffix.UnsignedLong) ∷
    (codes "UL", suffix.UnsignedLong) ∷
    (codes "lu", suffix.UnsignedLong) ∷
    (codes "lU", suffix.UnsignedLong) ∷
    (codes "Lu", suffix.UnsignedLong) ∷
    (codes "LU", suffix.UnsignedLong) ∷
    []

-- the types that a number may have, in the order in which they are tried (paragraph 5)
abbrev pub types_of : NumberBase → Suffix → List IntType
types_of base.Decimal suffix.Plain = type.Int ∷ type.Long ∷ []
types_of b suffix.Plain = type.Int ∷ type.UnsignedInt ∷ type.Long ∷ type.UnsignedLong ∷ []
types_of b suffix.Unsigned = type.UnsignedInt ∷ type.UnsignedLong ∷ []
types_of base.Decimal suffix.Long = type.Long ∷ []
types_of b suffix.Long = type.Long ∷ type.UnsignedLong ∷ []
types_of b suffix.UnsignedLong = type.UnsignedLong ∷ []

-- a number with the first type that holds it, if there is one (paragraph 5)
abbrev pub typed : Option IntType → ℕ → Literal
typed None n = literal.TooBig
typed (Some t) n = literal.Number n t

-- a number with the first type of its suffix that holds it (paragraph 5)
abbrev pub suffixed : Option Suffix → NumberBase → ℕ → Literal
suffixed None b n = literal.OutOfForm
suffixed (Some s) b n = typed (find (λ t. is_in_range t (pos n)) (types_of b s)) n

-- digits, at least one, and a suffix: what they spell in a base (paragraphs 1 and 4)
abbrev pub literal_in : NumberBase → List ℕ → Literal
literal_in b body =
    let count = prefix_len (is_in (digit_class b)) body in
    cond (count == 0) literal.OutOfForm (suffixed (look_up suffixes (drop count body)) b
    (number_from (radix b) 0 (take count body)))

-- what a run of letters, digits, `_` and `.` that begins with a digit is (paragraph 1; C17 6.4.8)
abbrev pub literal_of : List ℕ → Literal
literal_of run = literal_in (base_of run) (drop (digits_start (base_of run)) run)
