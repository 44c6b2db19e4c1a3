use Rattle.std.proofs.Common.{take}
use Rattle.std.specs.List.{All}
use Rattle.function_tallies.specs.Tallies.{HasCounts}
use Rattle.report_rows.proofs.reporting.counts_fit.Given as goal

abbrev pub invariant-loop-function : goal.invariant-loop-function
invariant-loop-function l = All HasCounts (take l.function-index l.counts.functions)
