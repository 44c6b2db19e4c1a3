-- Numbers in words.
use Rattle.std.specs.Prelude.{ℕ, Bool, not, ◌&&◌, ◌==◌, if◌then◌else◌, nat_le, List, length, Option, Some, None}
use Rattle.std.specs.List.{list_all}
use Rattle.std.specs.Char.{is_ascii_digit}
use Rattle.std.specs.Str.Parse.{digits_value}

-- one or more decimal digits, without a sign
abbrev pub is_number : List ℕ → Bool
is_number text = not (length text == 0) && list_all is_ascii_digit text

-- the number that the text writes, if it does and the number is one from `least` to `most`; zeros may stand before it
abbrev pub number_in : ℕ → ℕ → List ℕ → Option ℕ
number_in least most text =
    if is_number text && (nat_le least (digits_value 10 text) && nat_le (digits_value 10 text) most)
    then Some (digits_value 10 text) else None
