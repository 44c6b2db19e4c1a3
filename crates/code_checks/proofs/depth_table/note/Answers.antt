use Rattle.std.proofs.Common.{◌≡◌, sym, subst}
use Rattle.std.proofs.Math.ListN.{set}
use Rattle.code_checks.specs.DepthTable.{leds, noted}
use Rattle.code_checks.proofs.PassLaws.{note_some}
use Rattle.code_checks.proofs.depth_table.note.Goals as goal

pub returns-in-Some : goal.returns-in-Some
returns-in-Some c =
    let t = c.args.table.now in
    subst (λ to. leds (set t c.in-Some.to c.arrives_too.result) ≡ noted to c.args.depth (leds t)) (sym c.in-Some.is)
    (note_some t c.in-Some.to c.args.depth c.arrives_too.result c.arrives_too.ensures)
