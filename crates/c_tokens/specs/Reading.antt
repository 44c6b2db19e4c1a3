-- How a character is read byte by byte (own). It is proved to be the relation of `Characters`.
use Rattle.std.specs.Prelude.{ℕ, ◌+◌, ◌*◌, ◌==◌, ◌&&◌, nat_lt, cond, List, [], ◌∷◌, Option, Some, None, Result, Ok, Err}
use Rattle.c_tokens.specs.declared.bytes.ByteClass.TheVariants as class
use Rattle.c_tokens.specs.declared.quoted.Reading.{Reading}
use Rattle.c_tokens.specs.declared.quoted.Reading.TheVariants as reading
use Rattle.c_tokens.specs.declared.quoted.Step.{Step}
use Rattle.c_tokens.specs.declared.quoted.Step.TheVariants as step
use Rattle.c_tokens.specs.Bytes.{is_in}
use Rattle.c_tokens.specs.Characters.{is_plain, escaped}
use Rattle.c_tokens.specs.Literals.{digit_value}

-- the last quote
abbrev pub close : ℕ → ℕ → Step
close value b = cond (b == 39) (step.Ends value) step.Misfit

-- behind the first quote
abbrev pub inside : ℕ → Step
inside b = cond (b == 92) (step.Goes reading.Escape) (cond (is_plain b) (step.Goes (reading.Close b)) step.Misfit)

-- the reading goes on to the last quote where there is a value
abbrev pub closing : Option ℕ → Step
closing None = step.Misfit
closing (Some value) = step.Goes (reading.Close value)

-- behind `\`
abbrev pub escape : ℕ → Step
escape b =
    cond (is_in class.Octal b) (step.Goes (reading.OctalDigit (digit_value b)))
    (cond (b == 120) (step.Goes reading.Hexadecimal) (closing (escaped b)))

-- behind an octal digit
abbrev pub second_octal : ℕ → ℕ → Step
second_octal value b =
    cond (nat_lt value 8 && is_in class.Octal b) (step.Goes (reading.OctalDigits (8 * value + digit_value b)))
    (close value b)

-- behind two octal digits
abbrev pub third_octal : ℕ → ℕ → Step
third_octal value b =
    cond (nat_lt value 32 && is_in class.Octal b) (step.Goes (reading.Close (8 * value + digit_value b)))
    (close value b)

-- behind `\x`
abbrev pub first_hexadecimal : ℕ → Step
first_hexadecimal b =
    cond (is_in class.Hexadecimal b) (step.Goes (reading.HexadecimalDigit (digit_value b))) step.Misfit

-- behind a hexadecimal digit
abbrev pub second_hexadecimal : ℕ → ℕ → Step
second_hexadecimal value b =
    cond (nat_lt value 16 && is_in class.Hexadecimal b) (step.Goes (reading.Close (16 * value + digit_value b)))
    (close value b)

-- what the next byte does to a character
unfoldable pub next_step : Reading → ℕ → Step
next_step reading.Quote b = cond (b == 39) (step.Goes reading.Inside) step.Misfit
next_step reading.Inside b = inside b
next_step reading.Escape b = escape b
next_step (reading.OctalDigit value) b = second_octal value b
next_step (reading.OctalDigits value) b = third_octal value b
next_step reading.Hexadecimal b = first_hexadecimal b
next_step (reading.HexadecimalDigit value) b = second_hexadecimal value b
next_step (reading.Close value) b = close value b

-- the value and length of a character, or the place of the first byte that does not fit, after a step at a place
abbrev pub after_step : Step → ℕ → (Reading → Result (ℕ × ℕ) ℕ) → Result (ℕ × ℕ) ℕ
after_step step.Misfit place go = Err place
after_step (step.Ends value) place go = Ok (value, place + 1)
after_step (step.Goes next) place go = go next

-- the same of the text that is left at a place
abbrev pub character_at : Reading → ℕ → List ℕ → Result (ℕ × ℕ) ℕ
character_at r place [] = Err place
character_at r place (b ∷ text) = after_step (next_step r b) place (λ next. character_at next (place + 1) text)
