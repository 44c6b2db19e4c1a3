use Rattle.std.proofs.Common.{◌≡◌, ◌++◌, ◌∷◌, [], List, ℕ, Vec, Global}
use Rattle.std.proofs.lemmas.Result.{err_from_is_err_and}
use Rattle.gcov_items.specs.Items.{left}
use Rattle.gcov_records.specs.Reading.{each, limited}
use Rattle.gcov_records.proofs.Loop.{goes_on, stopped}
use Rattle.gcov_records.proofs.taking.take_numbers.Goals as goal

pub returns-in_err-take_number : goal.returns-in_err-take_number
returns-in_err-take_number c =
    let p = err_from_is_err_and c.from_residual.result c.from_residual.ensures.1 in
    rw (p.1, p.2)
    (stopped (λ (v : Vec ℕ Global). v.items) (λ (n : ℕ). n) c.in_err-take_number.field-0.0 c.loop.numbers.items
    (limited c.args.limit) c.args.count
    c.loop.counter c.args.reader.now c.loop.reader c.take_number.new.reader c.loop-test.true
    c.in_err-take_number.ensures c.loop.invariant)

pub loop-preserved : goal.loop-preserved
loop-preserved c =
    rw c.in_ok-push.ensures.items
    (goes_on c.loop.numbers.items (limited c.args.limit) c.args.count c.loop.counter (left c.loop.reader)
    c.loop.reader.at
    c.in_ok-take_number.field-0 (left c.take_number.new.reader) c.take_number.new.reader.at
    (each 0 c.args.count (limited c.args.limit) (left c.args.reader.now) c.args.reader.now.at) c.loop-test.true
    c.in_ok-take_number.ensures c.loop.invariant)
