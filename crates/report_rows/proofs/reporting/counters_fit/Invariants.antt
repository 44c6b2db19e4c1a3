use Rattle.std.proofs.Common.{◌≤◌, take}
use Rattle.std.specs.List.{All}
use Rattle.gcda_format.specs.Data.{count_limit}
use Rattle.report_rows.proofs.reporting.counters_fit.Given as goal

abbrev pub invariant-loop-counter : goal.invariant-loop-counter
invariant-loop-counter l = All (λ n. n ≤ count_limit) (take l.counter-index l.counters)
