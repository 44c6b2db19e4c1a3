use Rattle.std.proofs.Common.{◌≡◌, ◌-◌, suc, ℕ, [], get_or, length}
use Rattle.c_lower.proofs.numbers.Rows.reach.Given as goal

abbrev pub invariant-loop-self : goal.invariant-loop-self
invariant-loop-self l = (n : ℕ) → get_or l.self n [] ≡ get_or l.fn.self n []

abbrev pub decreases-loop-self : goal.decreases-loop-self
decreases-loop-self l = suc l.node - length l.self
