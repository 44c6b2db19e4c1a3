use Rattle.std.proofs.Common.{◌-◌, ◌+◌, ◌≤◌, [], subst, sym}
use Rattle.gcov_items.specs.Items.{left}
use Rattle.stack_ops.specs.Code.{FunctionValue}
use Rattle.code_runs.specs.Limits.{number_limit, instruction_limit}
use Rattle.code_file.specs.Reading.{with_function, with_functions}
use Rattle.code_file.specs.Taking.{PlacesValue, placed, all_placed, with_all_functions}
use Rattle.code_file.proofs.TakeLaws.{stops}
use Rattle.code_file.proofs.LoopLaws.{functions_behind, functions_so, functions_kept, have_more}
use Rattle.code_file.proofs.taking_functions.take_functions.Goals as goal

pub returns-in_err-function-clause-value : goal.returns-in_err-function-clause-value
returns-in_err-function-clause-value c =
    stops _ (λ (x : FunctionValue × PlacesValue). placed x.0 x.1) (with_all_functions c.args.count c.args.covered)
    (with_function c.args.covered c.loop.numbers c.loop.start)
    (functions_behind (c.args.count - (c.loop.counter + 1)) c.args.covered c.loop.numbers c.loop.start
    (all_placed c.loop.functions.items c.loop.places.items)) c.args.reader.now c.loop.reader
    c.take_function.new.reader c.in_err-function.field-0.0 c.from_residual.result c.from_residual.ensures.1
    (functions_so c.args.count c.loop.counter c.args.covered c.loop.numbers c.loop.start
    (all_placed c.loop.functions.items c.loop.places.items) (left c.loop.reader) c.loop.reader.at
    (with_functions c.args.count c.args.covered 0 0 [] (left c.args.reader.now) c.args.reader.now.at)
    c.loop-test.true c.loop.invariant.told)
    c.in_err-function.ensures.value

pub loop-preserved : goal.loop-preserved
loop-preserved c = record {
  told = functions_kept c.args.count c.loop.counter c.args.covered c.loop.numbers c.loop.start c.loop.functions.items _
      c.loop.places.items _ c.in_ok-function.function c.in_ok-function.place c.numbers_in-numbers.result c.ops_in-start.result
      (left c.loop.reader) c.loop.reader.at
      (with_functions c.args.count c.args.covered 0 0 [] (left c.args.reader.now) c.args.reader.now.at)
      (left c.take_function.new.reader) c.take_function.new.reader.at c.loop-test.true c.in_ok-push.ensures.items
      c.in_ok-push-2.ensures.items c.numbers_in-numbers.ensures c.ops_in-start.ensures c.loop.invariant.places
      c.loop.invariant.told c.in_ok-function.ensures.value;
  places = have_more c.loop.functions.items _ c.loop.places.items _ c.in_ok-function.function c.in_ok-function.place
      c.in_ok-push.ensures.items c.in_ok-push-2.ensures.items c.in_ok-function.ensures.places c.loop.invariant.places;
  numbers = subst (λ n. c.loop.numbers + n ≤ number_limit) (sym c.numbers_in-numbers.ensures) c.in_ok-function.ensures.numbers;
  start = subst (λ n. c.loop.start + n ≤ instruction_limit) (sym c.ops_in-start.ensures) c.in_ok-function.ensures.start;
}
