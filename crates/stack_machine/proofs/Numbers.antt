-- Numbers of a machine at the width in which they are held.
use Rattle.std.proofs.Common.{SFits, ℤ, arith}
use Rattle.std.specs.Int.{w128}
use Rattle.std.proofs.lemmas.Int.{ints, fits_signed_from_abs}
use Rattle.int_ops.specs.Ranges.{IsNumber}

-- a number of a machine fits 128 bits
pub number-fits : (n : ℤ) → IsNumber n → SFits w128 n
number-fits n h = fits_signed_from_abs w128 n (omega (arith, ints, h))
