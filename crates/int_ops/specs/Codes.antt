-- The numbers by which types and operators are written in files.
use Rattle.std.specs.Prelude.{ℕ}
use Rattle.int_ops.specs.declared.types.IntType.{IntType}
use Rattle.int_ops.specs.declared.types.IntType.TheVariants as type
use Rattle.int_ops.specs.declared.operators.BinOp.{BinOp}
use Rattle.int_ops.specs.declared.operators.BinOp.TheVariants as op
use Rattle.int_ops.specs.declared.operators.UnOp.{UnOp}
use Rattle.int_ops.specs.declared.operators.UnOp.TheVariants as sign
use Rattle.int_ops.specs.declared.operators.ArithTrap.{ArithTrap}
use Rattle.int_ops.specs.declared.operators.ArithTrap.TheVariants as trap

-- the code of a type
abbrev pub type_code : IntType → ℕ
type_code type.Bool = 0
type_code type.Char = 1
type_code type.SignedChar = 2
type_code type.UnsignedChar = 3
type_code type.Short = 4
type_code type.UnsignedShort = 5
type_code type.Int = 6
type_code type.UnsignedInt = 7
type_code type.Long = 8
type_code type.UnsignedLong = 9

-- the code of an operator with two operands
abbrev pub operator_code : BinOp → ℕ
operator_code op.Mul = 0
operator_code op.Div = 1
operator_code op.Rem = 2
operator_code op.Add = 3
operator_code op.Sub = 4
operator_code op.Shl = 5
operator_code op.Shr = 6
operator_code op.Less = 7
operator_code op.Greater = 8
operator_code op.LessEqual = 9
operator_code op.GreaterEqual = 10
operator_code op.Equal = 11
operator_code op.NotEqual = 12
operator_code op.And = 13
operator_code op.Xor = 14
operator_code op.Or = 15

-- the code of an operator with one operand
abbrev pub sign_code : UnOp → ℕ
sign_code sign.Minus = 0
sign_code sign.Complement = 1

-- the code of a trap
abbrev pub trap_code : ArithTrap → ℕ
trap_code trap.Overflow = 0
trap_code trap.DivideByZero = 1
trap_code trap.ShiftRange = 2
