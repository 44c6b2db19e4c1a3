use Rattle.std.proofs.Common.{◌≡◌, subst, length, arith}
use Rattle.std.proofs.lemmas.Grind.{common_steps}
use Rattle.cov_base.specs.Reach.{MarksReached, IsFirstUnmarked}
use Rattle.cov_base.proofs.ReachLaws.{IsLeastApart-from_marks}
use Rattle.cov_base.proofs.reach.first_apart.Goals as goal

pub returns-in-Some : goal.returns-in-Some
returns-in-Some c =
    let marks = c.mark_reached.new.marks in
    let same : c.deref.result.now ≡ marks = grind (arith, common_steps) in
    let many : length c.deref_mut.result.now ≡ c.args.blocks = grind (arith, common_steps) in
    IsLeastApart-from_marks c.args.blocks c.args.arcs.now marks c.in-Some.block
    (subst (λ n. MarksReached n c.args.arcs.now marks) many c.mark_reached.ensures)
    (subst (λ m. IsFirstUnmarked m c.in-Some.block) same c.in-Some.ensures)
