use Rattle.std.proofs.Common.{◌∙◌}
use Rattle.gcno_format.proofs.ChainLaws.{marks_few}
use Rattle.gcno_format.proofs.arcs.checksum_of.Goals as goal

pub sum_of-requires : goal.sum_of-requires
sum_of-requires c =
    marks_few c.args.net.now c.blocks-2.ensures.net c.deref.result.now (c.deref.ensures.value ∙ c.in_ok-arcs.ensures)
