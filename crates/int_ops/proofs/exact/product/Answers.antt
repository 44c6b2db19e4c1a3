use Rattle.std.proofs.Common.{rules, ◌^◌, ◌*ℤ◌, lit<}
use Rattle.std.specs.Int.{w128}
use Rattle.std.proofs.lemmas.Int.{to_z-of_z, fits_signed_mul}
use Rattle.int_ops.proofs.exact.product.Goals as goal

pub returns : goal.returns
returns c =
    rw (to_z-of_z w128 c.args.a (search rules), to_z-of_z w128 c.args.b (search rules))
    (to_z-of_z w128 (c.args.a *ℤ c.args.b) (fits_signed_mul w128 c.args.a c.args.b (2 ^ 63) (2 ^ 63) c.requires.left c.requires.right (lit< tt)))
