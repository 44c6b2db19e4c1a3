-- Numbers of int.
use Rattle.std.specs.Prelude.{ℤ}
use Rattle.int_ops.specs.declared.types.IntType.TheVariants as type
use Rattle.int_ops.specs.Ranges.{Range}

-- the number is one of int
abbrev pub IsInt : ℤ → Type 0
IsInt n = Range type.Int n
