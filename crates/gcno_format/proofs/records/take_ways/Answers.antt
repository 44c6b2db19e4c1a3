use Rattle.std.proofs.Common.{Vec, Global}
use Rattle.std.proofs.lemmas.Result.{err_from_is_err_and}
use Rattle.gcov_items.specs.Items.{left}
use Rattle.gcov_records.specs.Reading.{each}
use Rattle.gcov_records.proofs.Loop.{goes_on, stopped}
use Rattle.gcno_format.specs.declared.marks.Marked.{Marked}
use Rattle.gcno_format.specs.Reading.{way}
use Rattle.gcno_format.proofs.records.take_ways.Goals as goal

pub returns-in_err-take_way : goal.returns-in_err-take_way
returns-in_err-take_way c =
    let p = err_from_is_err_and c.from_residual.result c.from_residual.ensures.1 in
    rw (p.1, p.2)
    (stopped (λ (v : Vec Marked Global). v.items) (λ (m : Marked). m) c.in_err-take_way.field-0.0 c.loop.arcs.items
    (way c.args.block) c.args.count c.loop.counter c.args.reader.now c.loop.reader c.take_way.new.reader
    c.loop-test.true c.in_err-take_way.ensures c.loop.invariant)

pub loop-preserved : goal.loop-preserved
loop-preserved c =
    rw c.in_ok-push.ensures.items
    (goes_on c.loop.arcs.items (way c.args.block) c.args.count c.loop.counter (left c.loop.reader) c.loop.reader.at
    c.in_ok-take_way.field-0 (left c.take_way.new.reader) c.take_way.new.reader.at
    (each 0 c.args.count (way c.args.block) (left c.args.reader.now) c.args.reader.now.at) c.loop-test.true
    c.in_ok-take_way.ensures c.loop.invariant)
