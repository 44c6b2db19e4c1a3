use Rattle.std.proofs.Common.{◌≡◌, ◌++◌, ◌-◌, drop, length}
use Rattle.gcno_format.specs.Spelling.{arcs_bytes}
use Rattle.gcno_format.proofs.arcs.put_arcs.Given as goal

abbrev pub invariant-loop-at : goal.invariant-loop-at
invariant-loop-at l = l.out.items ++ arcs_bytes (drop l.at l.arcs) ≡ l.fn.out.items ++ arcs_bytes l.arcs

abbrev pub decreases-loop-at : goal.decreases-loop-at
decreases-loop-at l = length l.arcs - l.at
