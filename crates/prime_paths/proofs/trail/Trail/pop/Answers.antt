use Rattle.std.proofs.Common.{sym, ap, subst, ◌∙◌}
use Rattle.prime_paths.specs.Paths.{front_of}
use Rattle.prime_paths.specs.Trail.{TrailValue, IsTrail}
use Rattle.prime_paths.proofs.TrailLaws.{front_snoc, trail_less}
use Rattle.prime_paths.proofs.trail.Trail.pop.Goals as goal

pub invariant_of-self : goal.invariant_of-self
invariant_of-self c = trail_less c.self.inside.marks.items c.pop.new.self.items c.in-Some.block
    (subst (λ p. IsTrail c.self.inside.marks.items p) c.in-Some.ensures.items c.self.invariant)

pub returns-in-Some-clause-blocks : goal.returns-in-Some-clause-blocks
returns-in-Some-clause-blocks c = sym (front_snoc c.pop.new.self.items c.in-Some.block)
    ∙ ap (λ p. front_of p) (sym c.in-Some.ensures.items)
    ∙ ap (λ (t : TrailValue). front_of t.blocks) c.self.view_is
