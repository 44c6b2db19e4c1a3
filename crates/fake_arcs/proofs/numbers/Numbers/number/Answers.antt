use Rattle.std.proofs.Common.{arith, ap, length}
use Rattle.fake_arcs.proofs.NewNumbers.{numbers_long}
use Rattle.fake_arcs.proofs.numbers.Numbers.number.Goals as goal

pub bounds-numbers-place : goal.bounds-numbers-place
bounds-numbers-place c =
    let long = numbers_long 2 c.self.inside.marks.items c.self.inside.numbers.items c.self.invariant.numbers_are in
    let n = ap length c.as_slice-numbers.ensures.value in
    let m = ap length c.as_slice-marks.ensures.value in
    let l = c.if-place-marks.false in
    omega (arith, long, n, m, l)
