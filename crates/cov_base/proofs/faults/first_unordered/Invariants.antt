use Rattle.std.proofs.Common.{◌≡◌, ◌+◌, drop}
use Rattle.cov_base.specs.Net.{unordered_after, first_unordered}
use Rattle.cov_base.proofs.faults.first_unordered.Given as goal

abbrev pub invariant-loop-i : goal.invariant-loop-i
invariant-loop-i l = unordered_after l.before (l.i + 1) (drop l.i l.rest) ≡ first_unordered l.arcs
