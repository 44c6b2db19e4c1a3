use Rattle.std.proofs.Common.{refl, ◌+◌, ◌-◌, ap, ap₂, ◌∙◌, arith}
use Rattle.stack_code.proofs.HeightLaws.{most_first, most_step, left_step}
use Rattle.stack_code.proofs.depth.heights_of.Goals as goal

pub loop-op-init : goal.loop-op-init
loop-op-init c = record {
  most = most_first c.args.depth c.args.ops.now;
  rest = refl;
  high = omega arith;
  low = omega arith;
}

pub loop-op-preserved : goal.loop-op-preserved
loop-op-preserved c =
    let e = ap₂ (λ a b. a + b) (c.saturating_sub.ensures ∙ ap (λ t. c.loop-op.left - t) c.takes.ensures)
    c.gives.ensures.value in
    let low = c.loop-op.invariant.low in let few = c.gives.ensures.few in let taken = c.saturating_sub.ensures in
    let most = c.max-most.ensures in
    record {
      most = most_step c.args.ops.now _ c.loop-op.op-index c.loop-op.left
          (c.saturating_sub.result + c.gives.result) c.loop-op.most c.max-most.result _ c.loop-op-test.true e
          most c.loop-op.invariant.high c.loop-op.invariant.most;
      rest = left_step c.args.ops.now _ c.loop-op.op-index c.loop-op.left
          (c.saturating_sub.result + c.gives.result) _ c.loop-op-test.true e c.loop-op.invariant.rest;
      high = omega (arith, most);
      low = omega (arith, low, few, taken);
    }
