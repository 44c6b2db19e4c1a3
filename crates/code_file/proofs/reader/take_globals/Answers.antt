use Rattle.std.proofs.Common.{◌∙◌, ◌-◌, ◌+◌, [], sym}
use Rattle.gcov_items.specs.Items.{left}
use Rattle.code_file.specs.Reading.{with_globals}
use Rattle.code_file.specs.Taking.{with_global, with_first_globals}
use Rattle.code_file.proofs.TakeLaws.{stops}
use Rattle.code_file.proofs.LoopLaws.{globals_on, globals_so}
use Rattle.code_file.proofs.reader.take_globals.Goals as goal

pub returns-in_err-take_global : goal.returns-in_err-take_global
returns-in_err-take_global c =
    stops _ (λ (x : Unit {0}). c.take_global.new.globals.items) (with_first_globals c.args.count)
    (with_global c.loop.globals.items) (globals_on (c.args.count - (c.loop.counter + 1))) c.args.reader.now
    c.loop.reader c.take_global.new.reader c.in_err-take_global.field-0.0 c.from_residual.result
    c.from_residual.ensures.1
    (globals_so c.args.count c.loop.counter c.loop.globals.items (left c.loop.reader) c.loop.reader.at
    (with_globals c.args.count [] (left c.args.reader.now) c.args.reader.now.at)
    c.loop-test.true c.loop.invariant)
    c.in_err-take_global.ensures

pub loop-preserved : goal.loop-preserved
loop-preserved c = λ then.
    sym (globals_so c.args.count c.loop.counter c.loop.globals.items (left c.loop.reader) c.loop.reader.at
    (with_globals c.args.count [] (left c.args.reader.now) c.args.reader.now.at)
    c.loop-test.true c.loop.invariant then
    ∙ c.in_ok-take_global.ensures (globals_on (c.args.count - (c.loop.counter + 1)) then))
