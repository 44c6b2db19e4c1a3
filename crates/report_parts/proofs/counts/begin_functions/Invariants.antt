use Rattle.std.proofs.Common.{◌≡◌, drop}
use Rattle.report_parts.specs.CountSteps.{begin_functions}
use Rattle.report_parts.proofs.counts.begin_functions.Given as goal

abbrev pub invariant-loop-function : goal.invariant-loop-function
invariant-loop-function l =
    begin_functions (drop l.function-index l.functions) l.counts ≡ begin_functions l.functions l.initial.counts
