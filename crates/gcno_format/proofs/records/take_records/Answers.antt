use Rattle.std.proofs.Common.{sym, ◌∙◌}
use Rattle.std.proofs.lemmas.Result.{err_from_is_err_and}
use Rattle.gcov_items.specs.Items.{left}
use Rattle.gcno_format.specs.Reading.{records}
use Rattle.gcno_format.proofs.LoopLaws.{goes_on, stops}
use Rattle.gcno_format.proofs.records.take_records.Goals as goal

pub returns-in_err-progress : goal.returns-in_err-progress
returns-in_err-progress c =
    let p = err_from_is_err_and c.from_residual.result c.from_residual.ensures.1 in
    rw (p.1, p.2)
    (stops c.in_err-progress.field-0.0 c.args.most c.loop.counter c.loop.progress c.args.reader.now c.loop.reader
    c.take_record.new.reader c.args.progress c.loop-test.true (sym c.is_over.ensures ∙ c.if-is_over.false)
    c.in_err-progress.ensures c.loop.invariant)

pub loop-preserved : goal.loop-preserved
loop-preserved c =
    goes_on c.args.most c.loop.counter c.loop.progress c.in_ok-progress.progress (left c.loop.reader)
    (left c.take_record.new.reader) c.loop.reader.at c.take_record.new.reader.at
    (records c.args.most c.args.progress (left c.args.reader.now) c.args.reader.now.at) c.loop-test.true
    (sym c.is_over.ensures ∙ c.if-is_over.false) c.in_ok-progress.ensures c.loop.invariant
