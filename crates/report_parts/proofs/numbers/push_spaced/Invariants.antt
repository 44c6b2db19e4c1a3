use Rattle.std.proofs.Common.{◌≡◌, ◌++◌, drop}
use Rattle.report_parts.specs.Functions.{spaced}
use Rattle.report_parts.proofs.numbers.push_spaced.Given as goal

abbrev pub invariant-loop-number : goal.invariant-loop-number
invariant-loop-number l =
    l.out.items ++ spaced (drop l.number-index l.numbers) ≡ l.initial.out.items ++ spaced l.numbers
