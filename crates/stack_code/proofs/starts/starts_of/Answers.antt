use Rattle.std.proofs.Common.{◌≡◌, ◌<◌, sym, ap, subst, ◌∙◌, suc, length, arith, rules}
use Rattle.stack_code.specs.Modes.{shape_marks}
use Rattle.stack_code.specs.Laying.{block_size}
use Rattle.stack_code.proofs.StartLaws.{end_room, end_found, places_found, starts_end, end_end}
use Rattle.stack_code.proofs.starts.starts_of.Goals as goal

pub size_of_block-requires-clause-low : goal.size_of_block-requires-clause-low
size_of_block-requires-clause-low c =
    let few = c.requires.few in let n = c.loop-block.invariant.number in let lt = c.loop-block-test.true in
    omega (arith, few, n, lt)

pub size_of_block-requires-clause-small : goal.size_of_block-requires-clause-small
size_of_block-requires-clause-small c =
    let m = shape_marks c.args.marks.now in
    let room = end_room m c.args.blocks.now c.block-item.result c.loop-block.block-index c.loop-block.number
    c.loop-block.end _ c.loop-block-test.true c.loop-block.invariant.ends in
    let small = c.requires.small in
    let e = end_found m (length (m 0 2)) c.args.blocks.now in
    subst (λ b. block_size (m c.loop-block.number) (suc c.loop-block.number) b < 4294967296) (sym c.block-item.is)
    (omega (arith, room, small, e))

pub returns : goal.returns
returns c x =
    let m = shape_marks c.args.marks.now in
    places_found m (length (m 0 2)) c.args.blocks.now c.loop-block.places.items c.loop-block.end x
    (starts_end m c.args.blocks.now c.loop-block.block-index c.loop-block.number c.loop-block.end
    c.loop-block.places.items _ c.loop-block-test.false c.loop-block.invariant.places)
    (end_end m c.args.blocks.now c.loop-block.block-index c.loop-block.number c.loop-block.end _
    c.loop-block-test.false c.loop-block.invariant.ends)

pub overflow_add-end : goal.overflow_add-end
overflow_add-end c =
    let m = shape_marks c.args.marks.now in
    let room = end_room m c.args.blocks.now c.block-item.result c.loop-block.block-index c.loop-block.number
    c.loop-block.end _ c.loop-block-test.true c.loop-block.invariant.ends in
    let small = c.requires.small in
    let e = end_found m (length (m 0 2)) c.args.blocks.now in
    let own : c.in_ok-end.field-0 ≡ block_size (m c.loop-block.number) (suc c.loop-block.number) c.block-item.result =
    search rules in
    let size = own ∙ ap (block_size (m c.loop-block.number) (suc c.loop-block.number)) c.block-item.is in
    omega (arith, room, small, e, size)
