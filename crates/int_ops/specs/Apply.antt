-- What an operator gives, on whole numbers without width: a number or a trap.
use Rattle.std.specs.Prelude.{
  ℕ,
  ◌-◌,
  ◌^◌,
  Bool,
  true,
  false,
  not,
  cond,
  ◌||◌,
  ℤ,
  pos,
  negsuc,
  neg_ℤ,
  ◌+ℤ◌,
  ◌-ℤ◌,
  ◌*ℤ◌,
  int_le,
  int_lt,
  int_div,
  int_rem,
  bit_and,
  bit_or,
  bit_xor,
  Result,
  Ok,
  Err,
}
use Rattle.std.specs.Int.{int_div_euclid}
use Rattle.std.specs.Ordering.{int_eq}
use Rattle.int_ops.specs.declared.types.IntType.{IntType}
use Rattle.int_ops.specs.declared.operators.BinOp.{BinOp}
use Rattle.int_ops.specs.declared.operators.BinOp.TheVariants as op
use Rattle.int_ops.specs.declared.operators.UnOp.{UnOp}
use Rattle.int_ops.specs.declared.operators.UnOp.TheVariants as sign
use Rattle.int_ops.specs.declared.operators.ArithTrap.{ArithTrap}
use Rattle.int_ops.specs.declared.operators.ArithTrap.TheVariants as trap
use Rattle.int_ops.specs.Ranges.{width, is_signed, is_in_range}
use Rattle.int_ops.specs.Conversion.{convert}

-- a number or a trap
abbrev pub Answer : Type 0
Answer = Result ℤ ArithTrap

-- 1 where the test holds, and otherwise 0 (C17 6.5.8 paragraph 6, 6.5.9 paragraph 3)
abbrev pub truth : Bool → ℤ
truth true = pos 1
truth false = pos 0

-- An exact result: one of a signed type that is outside its range is Overflow (C17 6.5 paragraph 5); one of an unsigned
-- type or of _Bool is converted (C17 6.2.5 paragraph 9).
abbrev pub settled : IntType → ℤ → Answer
settled t n = cond (is_signed t) (cond (is_in_range t n) (Ok n) (Err trap.Overflow)) (Ok (convert t n))

-- the quotient toward zero (C17 6.5.5 paragraphs 5 and 6)
abbrev pub quotient : IntType → ℤ → ℤ → Answer
quotient t a b = cond (int_eq b (pos 0)) (Err trap.DivideByZero) (settled t (int_div a b))

-- what that quotient leaves, where the quotient is in the range (C17 6.5.5 paragraph 6)
abbrev pub remainder : IntType → ℤ → ℤ → Answer
remainder t a b =
    cond (int_eq b (pos 0)) (Err trap.DivideByZero)
    (cond (is_in_range t (int_div a b)) (settled t (int_rem a b)) (Err trap.Overflow))

-- a shift count is negative, or at least the width (C17 6.5.7 paragraph 3)
abbrev pub is_past : IntType → ℤ → Bool
is_past t n = int_lt n (pos 0) || int_le (pos (width t)) n

-- 2 to the power of a shift count
abbrev pub power : ℤ → ℤ
power (pos n) = pos (2 ^ n)
power (negsuc n) = pos 0

-- the first number times 2 to the second; a negative number is not shifted in a signed type (C17 6.5.7 paragraph 4)
abbrev pub shifted_left : IntType → ℤ → ℤ → Answer
shifted_left t a b =
    cond (is_past t b) (Err trap.ShiftRange)
    (cond (int_lt a (pos 0)) (Err trap.Overflow) (settled t (a *ℤ power b)))

-- the first number divided by 2 to the second, rounded down (C17 6.5.7 paragraph 5)
abbrev pub shifted_right : IntType → ℤ → ℤ → Answer
shifted_right t a b = cond (is_past t b) (Err trap.ShiftRange) (settled t (int_div_euclid a (power b)))

-- The bits of a number below 0 are those of -n - 1 turned over (C17 6.2.6.2 paragraph 2, two's complement). So n and
-- not m has the bits of n that m lacks.
abbrev pub and_not : ℕ → ℕ → ℕ
and_not n m = n - bit_and n m

-- the bits that both numbers have (C17 6.5.10)
abbrev pub both : ℤ → ℤ → ℤ
both (pos a) (pos b) = pos (bit_and a b)
both (pos a) (negsuc b) = pos (and_not a b)
both (negsuc a) (pos b) = pos (and_not b a)
both (negsuc a) (negsuc b) = negsuc (bit_or a b)

-- the bits of one number and not of the other (C17 6.5.11)
abbrev pub one_alone : ℤ → ℤ → ℤ
one_alone (pos a) (pos b) = pos (bit_xor a b)
one_alone (pos a) (negsuc b) = negsuc (bit_xor a b)
one_alone (negsuc a) (pos b) = negsuc (bit_xor a b)
one_alone (negsuc a) (negsuc b) = pos (bit_xor a b)

-- the bits of at least one number (C17 6.5.12)
abbrev pub any : ℤ → ℤ → ℤ
any (pos a) (pos b) = pos (bit_or a b)
any (pos a) (negsuc b) = negsuc (and_not b a)
any (negsuc a) (pos b) = negsuc (and_not a b)
any (negsuc a) (negsuc b) = negsuc (bit_and a b)

-- every bit turned over (C17 6.5.3.3 paragraph 4)
abbrev pub turned : ℤ → ℤ
turned (pos n) = negsuc n
turned (negsuc n) = pos n

-- an operator on operands that are of the type; a shift's count is taken as it is
abbrev pub applied : BinOp → IntType → ℤ → ℤ → ℤ → Answer
applied op.Mul t a b count = settled t (a *ℤ b)
applied op.Div t a b count = quotient t a b
applied op.Rem t a b count = remainder t a b
applied op.Add t a b count = settled t (a +ℤ b)
applied op.Sub t a b count = settled t (a -ℤ b)
applied op.Shl t a b count = shifted_left t a count
applied op.Shr t a b count = shifted_right t a count
applied op.Less t a b count = Ok (truth (int_lt a b))
applied op.Greater t a b count = Ok (truth (int_lt b a))
applied op.LessEqual t a b count = Ok (truth (int_le a b))
applied op.GreaterEqual t a b count = Ok (truth (int_le b a))
applied op.Equal t a b count = Ok (truth (int_eq a b))
applied op.NotEqual t a b count = Ok (truth (not (int_eq a b)))
applied op.And t a b count = settled t (both a b)
applied op.Xor t a b count = settled t (one_alone a b)
applied op.Or t a b count = settled t (any a b)

-- What an operator gives at a type: the operands are converted to the type first, but for a shift's count.
abbrev pub binary : BinOp → IntType → ℤ → ℤ → Answer
binary o t a b = applied o t (convert t a) (convert t b) b

-- the same of an operator with one operand (C17 6.5.3.3 paragraphs 3 and 4)
abbrev pub unary : UnOp → IntType → ℤ → Answer
unary sign.Minus t a = settled t (neg_ℤ (convert t a))
unary sign.Complement t a = settled t (turned (convert t a))
