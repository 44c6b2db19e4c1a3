use Rattle.std.proofs.Common.{◌≡◌, ◌++◌, drop, map}
use Rattle.std.specs.Prelude.{unsigned_abs}
use Rattle.path_report.proofs.shown.counts_of.Given as goal

abbrev pub invariant-loop-number : goal.invariant-loop-number
invariant-loop-number l =
    l.counts.items ++ map unsigned_abs (drop l.number-index l.numbers) ≡ map unsigned_abs l.numbers
