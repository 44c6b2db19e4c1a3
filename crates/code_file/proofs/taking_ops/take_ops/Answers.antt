use Rattle.std.proofs.Common.{◌-◌, ◌+◌, [], ◌∷◌, length, ap, length-append, arith}
use Rattle.stack_ops.specs.declared.operation.Op.{Op}
use Rattle.gcov_items.specs.Items.{left}
use Rattle.code_file.specs.Reading.{with_op, with_ops}
use Rattle.code_file.specs.Taking.{with_placed_ops}
use Rattle.code_file.proofs.TakeLaws.{stops}
use Rattle.code_file.proofs.LoopLaws.{ops_behind, ops_so, ops_kept}
use Rattle.code_file.proofs.taking_ops.take_ops.Goals as goal

pub returns-in_err-take_op-clause-value : goal.returns-in_err-take_op-clause-value
returns-in_err-take_op-clause-value c =
    stops _ (λ (o : Op). o) (with_placed_ops c.args.count) with_op
    (λ then. ops_behind (c.args.count - (c.loop.counter + 1)) c.loop.ops.items c.loop.places.items c.loop.reader.at
    (λ os ps. then (os, ps))) c.args.reader.now c.loop.reader
    c.take_op.new.reader c.in_err-take_op.field-0.0 c.from_residual-in_err-take_op.result
    c.from_residual-in_err-take_op.ensures.1
    (λ then. ops_so c.args.count c.loop.counter c.loop.ops.items c.loop.places.items (left c.loop.reader)
    c.loop.reader.at (with_ops c.args.count [] [] (left c.args.reader.now) c.args.reader.now.at)
    c.loop-test.true c.loop.invariant.told (λ os ps. then (os, ps)))
    c.in_err-take_op.ensures

pub loop-preserved : goal.loop-preserved
loop-preserved c =
    let a = ap length c.in_ok-push-2.ensures.items in
    let b = length-append c.loop.ops.items (c.in_ok-take_op.field-0 ∷ []) in
    let d = c.loop.invariant.ops in
    let e = ap length c.in_ok-push.ensures.items in
    let f = length-append c.loop.places.items (c.place.result ∷ []) in
    let g = c.loop.invariant.places in
    record {
      told = ops_kept c.args.count c.loop.counter c.loop.ops.items _ c.loop.places.items _ (left c.loop.reader)
          c.loop.reader.at (with_ops c.args.count [] [] (left c.args.reader.now) c.args.reader.now.at)
          c.in_ok-take_op.field-0 c.place.result (left c.take_op.new.reader) c.take_op.new.reader.at
          c.loop-test.true c.in_ok-push-2.ensures.items c.in_ok-push.ensures.items c.place.ensures
          c.loop.invariant.told c.in_ok-take_op.ensures;
      ops = omega (arith, a, b, d);
      places = omega (arith, e, f, g);
    }
