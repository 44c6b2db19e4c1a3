use Rattle.std.proofs.Common.{arith, refl}
use Rattle.flow_graph.specs.Nets.{blocks_size}
use Rattle.fake_arcs.specs.Counts.{arcs_in}
use Rattle.fake_arcs.specs.Numbers.{number_by}
use Rattle.fake_arcs.proofs.Sums.{arcs_append, size_append, sum_step, sum_end}
use Rattle.fake_arcs.proofs.counts.count.Goals as goal

pub loop-place-preserved : goal.loop-place-preserved
loop-place-preserved c = record {
  arcs = sum_step arcs_in arcs_append (number_by c.args.numbers.now) c.args.numbers.now c.args.blocks.now
      c.loop-place.place
      c.loop-place.arcs c.in_ok-here.here.arcs c.saturating_add-arcs.result _ c.loop-place-test.true c.requires
      c.in_ok-here.ensures.arcs c.saturating_add-arcs.ensures c.loop-place.invariant.arcs;
  size = sum_step blocks_size size_append (number_by c.args.numbers.now) c.args.numbers.now c.args.blocks.now
      c.loop-place.place c.loop-place.size c.in_ok-here.here.size c.saturating_add-size.result _ c.loop-place-test.true
      c.requires
      c.in_ok-here.ensures.size c.saturating_add-size.ensures c.loop-place.invariant.size;
  arcs_small = (let t = c.saturating_add-arcs.ensures in omega (arith, t));
  size_small = (let t = c.saturating_add-size.ensures in omega (arith, t));
}

pub returns-clause-arcs : goal.returns-clause-arcs
returns-clause-arcs c = sum_end arcs_in refl (number_by c.args.numbers.now) c.args.numbers.now c.args.blocks.now
    c.loop-place.place c.loop-place.arcs _ c.loop-place-test.false c.requires c.loop-place.invariant.arcs_small
    c.loop-place.invariant.arcs

pub returns-clause-size : goal.returns-clause-size
returns-clause-size c = sum_end blocks_size refl (number_by c.args.numbers.now) c.args.numbers.now c.args.blocks.now
    c.loop-place.place c.loop-place.size _ c.loop-place-test.false c.requires c.loop-place.invariant.size_small
    c.loop-place.invariant.size
