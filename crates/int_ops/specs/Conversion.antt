-- What a number becomes in another type.
use Rattle.std.specs.Prelude.{◌≡◌, ◌≢◌, ℕ, ◌^◌, min, Bool, ℤ, pos, negsuc, ◌+ℤ◌, ◌-ℤ◌, ◌*ℤ◌}
use Rattle.std.specs.Int.{int_rem_euclid}
use Rattle.int_ops.specs.declared.types.IntType.{IntType}
use Rattle.int_ops.specs.declared.types.IntType.TheVariants as type
use Rattle.int_ops.specs.Ranges.{width, is_signed, least_at, RangeAt}

-- r is in the range of so many bits, and n differs from it by a multiple of 2 to the width (C17 6.3.1.3)
pub record ConvAt (bits : ℕ) (signed : Bool) (n r : ℤ) : Type 0 where
  pub range : RangeAt bits signed r
  pub times : ℤ
  pub differs : n ≡ r +ℤ (times *ℤ pos (2 ^ bits))

-- r is 0 for 0, and otherwise 1 (C17 6.3.1.2)
pub record ConvBool (n r : ℤ) : Type 0 where
  pub zero : n ≡ pos 0 → r ≡ pos 0
  pub other : n ≢ pos 0 → r ≡ pos 1

-- r is what n becomes in the type
abbrev pub Conv : IntType → ℤ → ℤ → Type 0
Conv type.Bool n r = ConvBool n r
Conv t n r = ConvAt (width t) (is_signed t) n r

-- the only number that meets it: the least number of the range, and above it the remainder by 2 to the width
abbrev pub conv_at : ℕ → Bool → ℤ → ℤ
conv_at bits signed n = least_at bits signed +ℤ int_rem_euclid (n -ℤ least_at bits signed) (pos (2 ^ bits))

-- what a number becomes in `_Bool`: 0 for 0, and otherwise 1 (C17 6.3.1.2)
abbrev pub conv_bool : ℤ → ℤ
conv_bool (pos n) = pos (min n 1)
conv_bool (negsuc n) = pos 1

-- what a number becomes in a type (C17 6.3.1.2, 6.3.1.3)
abbrev pub convert : IntType → ℤ → ℤ
convert type.Bool n = conv_bool n
convert t n = conv_at (width t) (is_signed t) n
