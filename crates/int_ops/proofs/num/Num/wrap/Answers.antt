use Rattle.std.proofs.Common.{rules, subst, sym, ◌∙◌, ◌==◌}
use Rattle.std.specs.Int.{w128}
use Rattle.std.proofs.lemmas.Int.{to_z-of_z}
use Rattle.int_ops.specs.Conversion.{ConvAt}
use Rattle.int_ops.proofs.Conversions.{some_bits, only}
use Rattle.int_ops.proofs.num.Num.wrap.Goals as goal

pub returns-clause-number : goal.returns-clause-number
returns-clause-number g c =
    to_z-of_z w128 c.wrapped.result (search rules) ∙ only g.row.BITS (g.row.SIGNED == 1) c.args.n c.wrapped.result (some_bits _ c.requires.bits)
    (subst (λ n. ConvAt g.row.BITS (g.row.SIGNED == 1) n c.wrapped.result) (to_z-of_z w128 c.args.n (search rules)) c.wrapped.ensures)

pub returns-clause-only : goal.returns-clause-only
returns-clause-only g c r is =
    only g.row.BITS (g.row.SIGNED == 1) c.args.n r (some_bits _ c.requires.bits) is ∙ sym (returns-clause-number g c)
