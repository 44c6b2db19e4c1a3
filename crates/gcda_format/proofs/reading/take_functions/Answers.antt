use Rattle.std.proofs.Common.{Vec, Global}
use Rattle.std.proofs.lemmas.Result.{err_from_is_err_and}
use Rattle.gcov_items.specs.Items.{left}
use Rattle.gcov_records.specs.Reading.{each}
use Rattle.gcov_records.proofs.Loop.{goes_on, stopped}
use Rattle.gcda_format.specs.Data.{FunctionDataValue}
use Rattle.gcda_format.specs.Reading.{function_at}
use Rattle.gcda_format.specs.declared.counts.FunctionData.{FunctionData}
use Rattle.gcda_format.proofs.reading.take_functions.Goals as goal

pub returns-in_err-take_function : goal.returns-in_err-take_function
returns-in_err-take_function c =
    let p = err_from_is_err_and c.from_residual.result c.from_residual.ensures.1 in
    rw (p.1, p.2)
    (stopped (λ (v : Vec FunctionData Global). v.items) (λ (f : FunctionDataValue). f) c.in_err-take_function.field-0.0
    c.loop-number.functions.items function_at c.args.count c.loop-number.number c.args.reader.now c.loop-number.reader
    c.take_function.new.reader c.loop-number-test.true c.in_err-take_function.ensures c.loop-number.invariant)

pub loop-number-preserved : goal.loop-number-preserved
loop-number-preserved c =
    rw c.in_ok-push.ensures.items
    (goes_on c.loop-number.functions.items function_at c.args.count c.loop-number.number (left c.loop-number.reader)
    c.loop-number.reader.at c.in_ok-take_function.field-0 (left c.take_function.new.reader)
    c.take_function.new.reader.at
    (each 0 c.args.count function_at (left c.args.reader.now) c.args.reader.now.at) c.loop-number-test.true
    c.in_ok-take_function.ensures c.loop-number.invariant)
