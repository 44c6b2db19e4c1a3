use Rattle.std.proofs.Common.{ℕ, Vec, Global}
use Rattle.std.proofs.lemmas.Result.{err_from_is_err_and}
use Rattle.gcov_items.specs.Items.{left}
use Rattle.gcov_records.specs.Reading.{each, word}
use Rattle.gcov_records.proofs.Loop.{goes_on, stopped}
use Rattle.gcno_format.proofs.records.take_words.Goals as goal

pub returns-in_err-take_word : goal.returns-in_err-take_word
returns-in_err-take_word c =
    let p = err_from_is_err_and c.from_residual.result c.from_residual.ensures.1 in
    rw (p.1, p.2)
    (stopped (λ (v : Vec ℕ Global). v.items) (λ (n : ℕ). n) c.in_err-take_word.field-0.0 c.loop.words.items (λ i. word)
    c.args.count c.loop.counter c.args.reader.now c.loop.reader c.take_word.new.reader c.loop-test.true
    c.in_err-take_word.ensures c.loop.invariant)

pub loop-preserved : goal.loop-preserved
loop-preserved c =
    rw c.in_ok-push.ensures.items
    (goes_on c.loop.words.items (λ i. word) c.args.count c.loop.counter (left c.loop.reader) c.loop.reader.at
    c.in_ok-take_word.field-0 (left c.take_word.new.reader) c.take_word.new.reader.at
    (each 0 c.args.count (λ i. word) (left c.args.reader.now) c.args.reader.now.at) c.loop-test.true
    c.in_ok-take_word.ensures c.loop.invariant)
