use Rattle.std.proofs.Common.{sym, ap, subst, ◌<◌, ◌∙◌}
use Rattle.prime_paths.specs.Paths.{among}
use Rattle.prime_paths.specs.Trail.{TrailValue, IsTrail}
use Rattle.prime_paths.proofs.TrailLaws.{trail_more}
use Rattle.std.proofs.Common.{set, true}
use Rattle.prime_paths.proofs.trail.Trail.push.Goals as goal

pub invariant_of-self-2 : goal.invariant_of-self-2
invariant_of-self-2 c =
    subst (λ p. IsTrail (set c.self.inside.marks.items c.args.block true) p) (sym c.in_ok-push.ensures.items)
    (trail_more c.self.inside.marks.items c.self.inside.blocks.items c.args.block c.self.invariant
    (subst (λ (t : TrailValue). c.args.block < t.room) (sym c.self.view_is) c.requires.within)
    (ap (λ (t : TrailValue). among c.args.block t.blocks) c.self.view_is ∙ c.requires.other))
