use Rattle.std.proofs.Common.{◌≡◌, ◌∙◌, ◌+◌, ◌==◌, sym, ap, subst}
use Rattle.code_runs.specs.Checks.{same_depth}
use Rattle.code_checks.specs.DepthTable.{leds, depths_to}
use Rattle.code_checks.proofs.PassLaws.{depth_at}
use Rattle.code_checks.proofs.depths.same_depth.Goals as goal

pub returns : goal.returns
returns c =
    let t = c.args.table.now in
    subst (λ to. (c.args.depth == c.depth_of.result)
    ≡ same_depth (depths_to (c.args.at + 1) (leds t)) c.args.depth to) (sym c.in-Some.is)
    (ap (λ n. c.args.depth == n) c.depth_of.ensures
    ∙ sym (depth_at t c.args.at c.in-Some.to c.args.depth c.if-to-at.false c.requires))
