use Rattle.std.proofs.Common.{arith, ◌<◌, length}
use Rattle.fake_arcs.specs.Numbers.{number_by}
use Rattle.fake_arcs.proofs.NewNumbers.{kept_step}
use Rattle.fake_arcs.proofs.numbers.Numbers.keep_all.Goals as goal

pub loop-place-preserved : goal.loop-place-preserved
loop-place-preserved c =
    let l = c.loop-place-test.true in
    let long = c.requires in
    let within : c.loop-place.place < length c.args.self.now = omega (arith, l, long) in
    kept_step (number_by c.args.self.now) c.args.self.now c.args.blocks.now c.loop-place.place c.loop-place.kept.items
    c.keep_at.new.kept.items _ within c.requires c.loop-place.invariant c.in_ok-keep_at.ensures
