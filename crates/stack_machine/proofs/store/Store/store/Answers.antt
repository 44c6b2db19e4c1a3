use Rattle.std.specs.Int.{w128}
use Rattle.std.proofs.lemmas.Int.{to_z-of_z}
use Rattle.stack_machine.proofs.StoreLaws.{seen-stored}
use Rattle.stack_machine.proofs.store.Store.store.Goals as goal

pub returns : goal.returns
returns c =
    seen-stored c.self.inside.numbers.items c.self.inside.base c.self.inside.floor c.self.inside.room c.args.w c.args.n _ c.args.self.now
    c.self.view_is c.requires.cell (to_z-of_z w128 c.args.n c.ranges.n)
