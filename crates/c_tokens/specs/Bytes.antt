-- Classes of bytes (C17 5.2.1).
use Rattle.std.specs.Prelude.{ℕ, Bool, not, ◌&&◌, ◌||◌, ◌==◌, nat_le}
use Rattle.std.specs.Char.{is_ascii_digit, is_ascii_hexdigit, is_ascii_alphanumeric}
use Rattle.c_tokens.specs.declared.bytes.ByteClass.{ByteClass}
use Rattle.c_tokens.specs.declared.bytes.ByteClass.TheVariants as class

-- Blanks are space, tab, newline, vertical tab, form feed and carriage return (C17 6.4 paragraph 3). A line lasts up to
-- a newline
-- (C17 5.1.1.2). Words are made of letters, digits and `_` (C17 6.4.2.1), numbers of these and `.` (C17 6.4.8). Digits
-- are octal,
-- decimal or hexadecimal (C17 6.4.4.1).
abbrev pub is_in : ByteClass → ℕ → Bool
is_in class.Blank b = b == 32 || (nat_le 9 b && nat_le b 13)
is_in class.Line b = not (b == 10)
is_in class.Word b = is_ascii_alphanumeric b || b == 95
is_in class.Number b = is_ascii_alphanumeric b || b == 95 || b == 46
is_in class.Octal b = nat_le 48 b && nat_le b 55
is_in class.Decimal b = is_ascii_digit b
is_in class.Hexadecimal b = is_ascii_hexdigit b
