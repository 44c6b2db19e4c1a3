use Rattle.std.proofs.Common.{sym, ◌∙◌, arith}
use Rattle.cov_base.proofs.NetLaws.{HasShape-from_IsNet}
use Rattle.report_parts.proofs.CountLaws.{all_begun_end}
use Rattle.report_parts.proofs.counts.begin_net.Goals as goal

pub returns : goal.returns
returns c =
    let shape = HasShape-from_IsNet c.args.net.now c.blocks-block-end.ensures.net in
    sym (all_begun_end c.args.net.now.lines c.loop-block.block c.loop-block.counts (omega (arith, shape.lists, c.blocks-block-end.ensures.value)))
    ∙ c.loop-block.invariant
