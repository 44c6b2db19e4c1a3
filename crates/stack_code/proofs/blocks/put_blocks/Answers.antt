use Rattle.std.proofs.Common.{◌+◌, ◌++◌, ◌<◌, sym, ap, subst, ◌∙◌, suc, length, length-append, arith}
use Rattle.stack_code.specs.Laying.{codes, block_code}
use Rattle.stack_code.specs.Modes.{shape_marks}
use Rattle.stack_code.specs.Places.{place_in}
use Rattle.stack_code.proofs.BodyLaws.{codes_room, codes_step}
use Rattle.stack_code.proofs.blocks.put_blocks.Goals as goal

pub put_block-requires-clause-small : goal.put_block-requires-clause-small
put_block-requires-clause-small c =
    let m = shape_marks c.args.marks.now in
    let s = place_in c.args.starts.now.places.items c.args.starts.now.end in
    let n = length-append c.args.ops.now.items (codes m s 2 (length c.args.ops.now.items) c.args.blocks.now) in
    let room = codes_room m s c.args.blocks.now c.block-item.result c.loop-block.block-index c.loop-block.number
    c.loop-block.ops.items _ c.loop-block-test.true c.loop-block.invariant.ops in
    let small = c.requires.small in
    subst (λ b. length c.loop-block.ops.items
    + length (block_code (m c.loop-block.number) (suc c.loop-block.number) s (length c.loop-block.ops.items) b)
    < 4294967296) (sym c.block-item.is) (omega (arith, n, room, small))

pub loop-block-preserved : goal.loop-block-preserved
loop-block-preserved c =
    let m = shape_marks c.args.marks.now in
    let s = place_in c.args.starts.now.places.items c.args.starts.now.end in
    let n = c.loop-block.invariant.number in
    record {
      number = omega (arith, n);
      ops = codes_step m s c.args.blocks.now c.block-item.result c.loop-block.block-index c.loop-block.number
          (c.loop-block.number + 1) c.loop-block.ops.items c.put_block.new.ops.items _ c.loop-block-test.true
          (omega arith)
          (c.in_ok-put_block.ensures
          ∙ ap (λ b. c.loop-block.ops.items
          ++ block_code (m c.loop-block.number) (suc c.loop-block.number) s (length c.loop-block.ops.items) b)
          c.block-item.is)
          c.loop-block.invariant.ops;
    }
