use Rattle.std.proofs.Common.{◌≡◌, ◌+◌, ◌<◌, sym, subst, suc, length, arith, rules}
use Rattle.stack_code.specs.Modes.{shape_marks}
use Rattle.stack_code.specs.Laying.{block_size}
use Rattle.stack_code.specs.Places.{end_size}
use Rattle.stack_code.proofs.StartLaws.{block_long}
use Rattle.stack_code.proofs.starts.size_of_block.Goals as goal

pub size_of_ending-requires-clause-small : goal.size_of_ending-requires-clause-small
size_of_ending-requires-clause-small c =
    let all = block_long (shape_marks c.args.marks.now c.args.number) (suc c.args.number) c.args.block.now in
    let small = c.requires.small in
    subst (λ b. end_size (shape_marks c.args.marks.now c.args.number) (suc c.args.number) b.end < 4294967296)
    (sym c.block.view_is) (omega (arith, all, small))

pub overflow_add-result : goal.overflow_add-result
overflow_add-result c =
    let all = block_long (shape_marks c.args.marks.now c.args.number) (suc c.args.number) c.args.block.now in
    let small = c.requires.small in
    let e : c.len.result + c.in_ok-ending.ending
    ≡ block_size (shape_marks c.args.marks.now c.args.number) (suc c.args.number) c.args.block.now = search rules in
    omega (arith, e, small)

pub returns : goal.returns
returns c =
    let ops : c.len.result ≡ length c.args.block.now.ops = search rules in
    let end : c.in_ok-ending.ending
    ≡ end_size (shape_marks c.args.marks.now c.args.number) (suc c.args.number) c.args.block.now.end = search rules in
    let all = block_long (shape_marks c.args.marks.now c.args.number) (suc c.args.number) c.args.block.now in
    omega (arith, ops, end, all)
