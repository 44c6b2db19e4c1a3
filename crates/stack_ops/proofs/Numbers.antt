-- Numbers of the machine at the width in which they are held.
use Rattle.std.proofs.Common.{ℤ, to_z, of_z, arith}
use Rattle.std.specs.Int.{w128}
use Rattle.std.proofs.lemmas.Int.{ints}
use Rattle.int_ops.specs.Ranges.{IsNumber}

-- a number that is held at 128 bits is one still
pub IsNumber-held : (n : ℤ) → IsNumber n → IsNumber (to_z w128 (of_z w128 n))
IsNumber-held n h = (omega (arith, ints), omega (arith, ints))
