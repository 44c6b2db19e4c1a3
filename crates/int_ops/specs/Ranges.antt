-- What an integer type holds: its width, its sign, its rank, and its least and greatest number.
use Rattle.std.specs.Prelude.{ℕ, ◌-◌, ◌^◌, Bool, true, false, cond, ◌&&◌, ℤ, pos, neg_ℤ, ◌≤ℤ◌, int_le}
use Rattle.int_ops.specs.declared.types.IntType.{IntType}
use Rattle.int_ops.specs.declared.types.IntType.TheVariants as type

-- how many bits a number of the type takes (C17 6.2.6.2 paragraph 6; the widths are those of LP64)
abbrev pub width : IntType → ℕ
width type.Bool = 1
width type.Char = 8
width type.SignedChar = 8
width type.UnsignedChar = 8
width type.Short = 16
width type.UnsignedShort = 16
width type.Int = 32
width type.UnsignedInt = 32
width type.Long = 64
width type.UnsignedLong = 64

-- the type is one of the signed ones; plain char is (C17 6.2.5 paragraphs 4, 6 and 15)
abbrev pub is_signed : IntType → Bool
is_signed type.Bool = false
is_signed type.Char = true
is_signed type.SignedChar = true
is_signed type.UnsignedChar = false
is_signed type.Short = true
is_signed type.UnsignedShort = false
is_signed type.Int = true
is_signed type.UnsignedInt = false
is_signed type.Long = true
is_signed type.UnsignedLong = false

-- the conversion rank: more bits rank higher, and a type ranks as its signed or unsigned counterpart (C17 6.3.1.1
-- paragraph 1)
abbrev pub rank : IntType → ℕ
rank type.Bool = 0
rank type.Char = 1
rank type.SignedChar = 1
rank type.UnsignedChar = 1
rank type.Short = 2
rank type.UnsignedShort = 2
rank type.Int = 3
rank type.UnsignedInt = 3
rank type.Long = 4
rank type.UnsignedLong = 4

-- the least number of so many bits, in two's complement where there is a sign (C17 6.2.6.2 paragraphs 1 and 2)
abbrev pub least_at : ℕ → Bool → ℤ
least_at bits signed = cond signed (neg_ℤ (pos (2 ^ (bits - 1)))) (pos 0)

-- the greatest number of so many bits
abbrev pub greatest_at : ℕ → Bool → ℤ
greatest_at bits signed = cond signed (pos (2 ^ (bits - 1) - 1)) (pos (2 ^ bits - 1))

-- the least number of a type
abbrev pub least : IntType → ℤ
least t = least_at (width t) (is_signed t)

-- the greatest number of a type
abbrev pub greatest : IntType → ℤ
greatest t = greatest_at (width t) (is_signed t)

-- the number is one of so many bits
abbrev pub RangeAt : ℕ → Bool → ℤ → Type 0
RangeAt bits signed n = (least_at bits signed ≤ℤ n) × (n ≤ℤ greatest_at bits signed)

-- the number is one of the type
abbrev pub Range : IntType → ℤ → Type 0
Range t n = RangeAt (width t) (is_signed t) n

-- the test of it
abbrev pub is_in_range : IntType → ℤ → Bool
is_in_range t n = int_le (least t) n && int_le n (greatest t)

-- the number lies from -2^63 to 2^64 - 1, so some type has it
abbrev pub IsNumber : ℤ → Type 0
IsNumber n = (least type.Long ≤ℤ n) × (n ≤ℤ greatest type.UnsignedLong)
