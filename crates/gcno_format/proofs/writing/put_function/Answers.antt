use Rattle.std.proofs.Common.{◌∙◌}
use Rattle.gcno_format.proofs.ChainLaws.{marks_few}
use Rattle.gcno_format.proofs.writing.put_function.Goals as goal

pub put_arcs-requires : goal.put_arcs-requires
put_arcs-requires c =
    marks_few c.function.inside.net c.blocks-2.ensures.net c.deref.result.now
    (c.deref.ensures.value ∙ c.in_ok-arcs.ensures)
