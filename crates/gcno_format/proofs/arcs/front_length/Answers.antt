use Rattle.std.proofs.Common.{sym, ap, ◌∙◌}
use Rattle.std.specs.List.{position}
use Rattle.gcno_format.specs.Marks.{leaves_other}
use Rattle.gcno_format.proofs.ArcLaws.{front_found, front_whole}
use Rattle.gcno_format.proofs.arcs.front_length.Goals as goal

pub returns-in-Some-clause-front : goal.returns-in-Some-clause-front
returns-in-Some-clause-front c =
    (front_found c.args.arcs.now c.in-Some.count c.requires
    (ap (λ b. position (leaves_other b) c.args.arcs.now) (sym c.first_block.ensures) ∙ sym c.in-Some.ensures.value)).front

pub returns-in-None-clause-front : goal.returns-in-None-clause-front
returns-in-None-clause-front c =
    (front_whole c.args.arcs.now c.requires
    (ap (λ b. position (leaves_other b) c.args.arcs.now) (sym c.first_block.ensures) ∙ sym c.in-None.ensures.value)).front
