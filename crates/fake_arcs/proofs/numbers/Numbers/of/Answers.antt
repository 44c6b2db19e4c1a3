use Rattle.std.proofs.Common.{arith, ap}
use Rattle.fake_arcs.specs.Numbers.{number_behind}
use Rattle.fake_arcs.proofs.NewNumbers.{behind_above}
use Rattle.fake_arcs.proofs.numbers.Numbers.of.Goals as goal

pub overflow_add-next : goal.overflow_add-next
overflow_add-next c =
    let above = behind_above c.loop-mark.next c.deref-mark-items.result.now c.loop-mark.mark-index _
    c.loop-mark-test.true c.loop-mark.invariant.behind c.if-mark.true in
    let same = ap (number_behind 2) c.deref-mark-items.ensures.value in
    let r = c.requires in
    omega (arith, above, same, r)
