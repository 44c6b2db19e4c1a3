-- The types in which operands are taken, for the meaning and for the graphs.
use Rattle.std.specs.Prelude.{◌==◌, cond, ℤ}
use Rattle.int_ops.specs.declared.types.IntType.{IntType}
use Rattle.int_ops.specs.declared.types.IntType.TheVariants as type
use Rattle.int_ops.specs.Codes.{type_code}
use Rattle.int_ops.specs.Common.{promoted}
use Rattle.int_ops.specs.Conversion.{convert}
use Rattle.c_tree.specs.declared.expr.Base.{Base}
use Rattle.c_tree.specs.declared.expr.Base.TheVariants as base
use Rattle.c_tree.specs.TypedParts.{Class, shifts}

-- the type of a value; where there is none it doesn't matter
abbrev pub type_in : Base → IntType
type_in (base.Int t) = t
type_in base.Void = type.Int

-- The type in which an operator changes a variable of the first type by a value of the second: a shift takes the
-- variable promoted, the others take it in the value's type, which is the common one.
abbrev pub changing : Class → IntType → IntType → IntType
changing shifts t u = promoted t
changing c t u = u

-- A number of the first type becomes one of the second: in its own type it stays as it is (C17 6.3 paragraph 2).
abbrev pub conv_from : IntType → IntType → ℤ → ℤ
conv_from from to n = cond (type_code from == type_code to) n (convert to n)
