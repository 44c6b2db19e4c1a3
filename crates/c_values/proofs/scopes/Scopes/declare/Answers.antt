use Rattle.std.proofs.Common.{map, reverse}
use Rattle.c_values.proofs.NameLaws.{declared_here}
use Rattle.c_values.proofs.scopes.Scopes.declare.Goals as goal

pub returns : goal.returns
returns c =
    declared_here c.self.inside.inner.entries c.insert.new.self.entries (map (λ m. m.entries) (reverse c.self.inside.outer.items)) c.self.inside.next
    c.args.self.now c.args.name c.args.meaning c.self.view_is c.requires c.in_ok-insert.ensures.entries
