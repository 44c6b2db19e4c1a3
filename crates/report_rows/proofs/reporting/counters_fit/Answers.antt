use Rattle.std.proofs.Common.{◌≤◌, ℕ, subst, arith}
use Rattle.std.specs.List.{All}
use Rattle.std.proofs.lemmas.List.{take_all}
use Rattle.std.proofs.lemmas.List.Elements.{All-more}
use Rattle.gcda_format.specs.Data.{count_limit}
use Rattle.report_rows.proofs.reporting.counters_fit.Goals as goal

pub loop-counter-preserved : goal.loop-counter-preserved
loop-counter-preserved c =
    All-more (λ (n : ℕ). n ≤ count_limit) c.args.counters.now c.loop-counter.counter-index 0 c.loop-counter-test.true
    c.loop-counter.invariant (let small = c.if-counter-gt-COUNT_LIMIT.false in omega (arith, small))

pub returns : goal.returns
returns c e = subst (All (λ (n : ℕ). n ≤ count_limit))
    (take_all c.loop-counter.counter-index c.args.counters.now (let end = c.loop-counter-test.false in omega (arith, end)))
    c.loop-counter.invariant
