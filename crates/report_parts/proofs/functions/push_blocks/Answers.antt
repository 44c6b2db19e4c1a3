use Rattle.std.proofs.Common.{arith}
use Rattle.report_parts.specs.Functions.{block_line}
use Rattle.report_parts.proofs.NumberLaws.{text_step}
use Rattle.report_parts.proofs.functions.push_blocks.Goals as goal

pub loop-block-preserved : goal.loop-block-preserved
loop-block-preserved c = text_step (block_line c.args.function.now) c.loop-block.block c.args.function.now.net.blocks
    c.loop-block.out.items _ _ (omega (arith, c.loop-block-test.true, c.blocks-block-end.ensures)) c.in_ok-push_block.ensures c.loop-block.invariant
