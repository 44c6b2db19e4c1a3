use Rattle.std.proofs.Common.{◌∙◌, ◌-◌, ◌+◌, sym}
use Rattle.gcov_items.specs.Items.{left}
use Rattle.code_file.specs.Reading.{with_row, with_rows}
use Rattle.code_file.proofs.TakeLaws.{stops}
use Rattle.code_file.proofs.LoopLaws.{rows_behind, rows_so}
use Rattle.code_file.proofs.taking_tables.take_rows.Goals as goal

pub returns-in_err-take_row : goal.returns-in_err-take_row
returns-in_err-take_row c =
    stops _ (λ (x : Unit {0}). c.take_row.new.table.items) (with_rows c.args.count c.args.words c.args.table.now.items)
    (with_row 4 c.args.words c.loop.table.items) (rows_behind (c.args.count - (c.loop.counter + 1)) c.args.words)
    c.args.reader.now c.loop.reader c.take_row.new.reader c.in_err-take_row.field-0.0 c.from_residual.result
    c.from_residual.ensures.1
    (rows_so c.args.count c.loop.counter c.args.words c.loop.table.items (left c.loop.reader) c.loop.reader.at
    (with_rows c.args.count c.args.words c.args.table.now.items (left c.args.reader.now) c.args.reader.now.at)
    c.loop-test.true c.loop.invariant)
    c.in_err-take_row.ensures

pub loop-preserved : goal.loop-preserved
loop-preserved c = λ then.
    sym (rows_so c.args.count c.loop.counter c.args.words c.loop.table.items (left c.loop.reader) c.loop.reader.at
    (with_rows c.args.count c.args.words c.args.table.now.items (left c.args.reader.now) c.args.reader.now.at)
    c.loop-test.true c.loop.invariant then
    ∙ c.in_ok-take_row.ensures (rows_behind (c.args.count - (c.loop.counter + 1)) c.args.words then))
