use Rattle.std.proofs.Common.{sym, ◌∙◌, map}
use Rattle.cov_base.specs.Net.{NetValue}
use Rattle.cov_base.proofs.NetLaws.{HasShape-from_none}
use Rattle.cov_base.proofs.ReachLaws.{All_inside-from_outside}
use Rattle.cov_base.proofs.faults.first_fault.Goals as goal

pub first_apart-requires-clause-inside : goal.first_apart-requires-clause-inside
first_apart-requires-clause-inside c =
    let net : NetValue = record { blocks = c.args.blocks; arcs = c.args.arcs.now; lines = map (λ v. v.items) c.args.lines.now } in
    All_inside-from_outside c.args.blocks c.args.arcs.now (HasShape-from_none net (sym c.shape_fault.ensures ∙ c.in_default.is)).inside
