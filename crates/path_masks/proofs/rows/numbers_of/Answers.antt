use Rattle.path_masks.proofs.NumberLaws.{numbers_end}
use Rattle.path_masks.proofs.rows.numbers_of.Goals as goal

pub returns : goal.returns
returns c =
    numbers_end c.args.spans.now c.loop-span.span-index c.loop-span.next c.loop-span.numbers.items
    c.loop-span-test.false c.loop-span.invariant.numbers
