use Rattle.std.proofs.Common.{rules, subst, ℤ, OnOk, ◌∷◌}
use Rattle.std.specs.Int.{w128}
use Rattle.std.proofs.lemmas.Int.{to_z-of_z}
use Rattle.stack_ops.specs.declared.operation.Op.TheVariants as op
use Rattle.c_lower.specs.Items.{Item}
use Rattle.c_lower.specs.Building.{Puts}
use Rattle.c_lower.proofs.pieces.push.Goals as goal

pub returns : goal.returns
returns c =
    subst (λ (n : ℤ). OnOk c.put.result (Puts c.args.out.now c.put.new.self
    (λ rest. Item.Do (op.Push n) c.args.line ∷ rest)))
    (to_z-of_z w128 c.args.number (search rules)) c.put.ensures
