use Rattle.std.proofs.Common.{◌<◌, sym, subst, true, ap, length, arith}
use Rattle.std.specs.Prelude.{slice_set}
use Rattle.span_tree.specs.Arriving.{IsArriving}
use Rattle.span_tree.proofs.Marks.{arriving_more}
use Rattle.span_tree.proofs.arriving.Arriving.come.Goals as goal

pub invariant_of-self-2 : goal.invariant_of-self-2
invariant_of-self-2 c =
    let room = ap (λ v. v.room) c.self.view_is in
    let h = c.requires in
    let within : c.args.block < length c.self.inside.marks.items = omega (arith, room, h) in
    subst (λ l. IsArriving (slice_set c.self.inside.marks.items c.args.block true) l) (sym c.in_ok-push.ensures.items)
    (arriving_more c.self.inside.marks.items c.self.inside.there.items
    (record { block = c.args.block; link = c.args.link }) within c.self.invariant)
