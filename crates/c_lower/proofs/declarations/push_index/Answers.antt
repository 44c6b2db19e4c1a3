use Rattle.std.proofs.Common.{rules, subst, ℤ, OnOk, ◌∙◌}
use Rattle.std.specs.Int.{w128}
use Rattle.std.proofs.lemmas.Int.{to_z-of_z}
use Rattle.stack_ops.specs.declared.operation.Op.TheVariants as op
use Rattle.c_lower.specs.Items.{plainly}
use Rattle.c_lower.specs.Building.{Puts}
use Rattle.c_lower.proofs.declarations.push_index.Goals as goal

pub returns : goal.returns
returns c =
    subst (λ (n : ℤ). OnOk c.push.result (Puts c.args.out.now c.push.new.out (λ rest. plainly (op.Push n) rest)))
    (to_z-of_z w128 c.from.result (search rules) ∙ c.from.ensures) c.push.ensures
