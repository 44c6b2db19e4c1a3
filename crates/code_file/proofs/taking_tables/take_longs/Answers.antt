use Rattle.std.proofs.Common.{ℕ, ◌-◌, ◌+◌}
use Rattle.gcov_items.specs.Items.{left}
use Rattle.code_file.specs.Reading.{with_long, with_longs}
use Rattle.code_file.proofs.TakeLaws.{stops}
use Rattle.code_file.proofs.LoopLaws.{longs_behind, longs_so, longs_kept}
use Rattle.code_file.proofs.taking_tables.take_longs.Goals as goal

pub returns-in_err-take_long : goal.returns-in_err-take_long
returns-in_err-take_long c =
    stops _ (λ (n : ℕ). n) (with_longs c.args.count c.args.table.now.items) with_long
    (longs_behind (c.args.count - (c.loop.counter + 1)) c.loop.table.items) c.args.reader.now c.loop.reader
    c.take_long.new.reader c.in_err-take_long.field-0.0 c.from_residual.result c.from_residual.ensures.1
    (longs_so c.args.count c.loop.counter c.loop.table.items (left c.loop.reader) c.loop.reader.at
    (with_longs c.args.count c.args.table.now.items (left c.args.reader.now) c.args.reader.now.at)
    c.loop-test.true c.loop.invariant)
    c.in_err-take_long.ensures

pub loop-preserved : goal.loop-preserved
loop-preserved c =
    longs_kept c.args.count c.loop.counter c.loop.table.items _ (left c.loop.reader) c.loop.reader.at
    (with_longs c.args.count c.args.table.now.items (left c.args.reader.now) c.args.reader.now.at)
    c.in_ok-take_long.field-0 (left c.take_long.new.reader) c.take_long.new.reader.at c.loop-test.true
    c.in_ok-push.ensures.items c.loop.invariant c.in_ok-take_long.ensures
