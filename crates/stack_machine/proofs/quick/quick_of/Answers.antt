use Rattle.std.specs.Int.{w128}
use Rattle.std.proofs.lemmas.Int.{to_z-of_z}
use Rattle.stack_machine.proofs.QuickLaws.{told_so}
use Rattle.stack_machine.proofs.quick.quick_of.Goals as goal

pub returns : goal.returns
returns c =
    told_so c.quick.result c.args.op c.args.t c.args.a c.args.b _ _ _ _ c.in-Int.is (to_z-of_z w128 c.args.a c.ranges.a) (to_z-of_z w128 c.args.b c.ranges.b)
    c.in-Ok.ensures c.in-Ok-try_from.ensures c.quick.ensures
