-- What is said of the parts of typed trees, whether they are sound or not.
use Rattle.std.specs.Prelude.{ℕ, Option, Some, None}
use Rattle.int_ops.specs.declared.operators.BinOp.{BinOp}
use Rattle.int_ops.specs.declared.operators.BinOp.TheVariants as op
use Rattle.c_tree.specs.declared.expr.Base.{Base}
use Rattle.c_tree.specs.TypedExpr.{TypedExpr}
use Rattle.c_tree.specs.TypedStmt.{TypedVar}

-- the type of an expression
abbrev pub base_of : TypedExpr → Base
base_of (TypedExpr.At kind base place line) = base

-- the place in the text of its operator, or of its only token
abbrev pub place_of : TypedExpr → ℕ
place_of (TypedExpr.At kind base place line) = place

-- the line on which that stands
abbrev pub line_of : TypedExpr → ℕ
line_of (TypedExpr.At kind base place line) = line

-- An operator with two operands compares (C17 6.5.8, 6.5.9), shifts (6.5.7), or computes in one type for operands and
-- result (6.5.5, 6.5.6, 6.5.10 to 6.5.12).
pub data Class : Type 0 where
  compares : Class
  shifts : Class
  computes : Class

-- the class of an operator
abbrev pub class : BinOp → Class
class op.Less = compares
class op.Greater = compares
class op.LessEqual = compares
class op.GreaterEqual = compares
class op.Equal = compares
class op.NotEqual = compares
class op.Shl = shifts
class op.Shr = shifts
class op.Mul = computes
class op.Div = computes
class op.Rem = computes
class op.Add = computes
class op.Sub = computes
class op.And = computes
class op.Xor = computes
class op.Or = computes

-- how many cells a variable takes: an array as many as its length
abbrev pub cells_of : Option ℕ → ℕ
cells_of None = 1
cells_of (Some n) = n

-- how many cells a local variable takes
abbrev pub size : TypedVar → ℕ
size v = cells_of v.length
