use Rattle.std.proofs.Common.{◌≡◌, ◌≤◌, ◌<◌, ℕ, true}
use Rattle.cov_base.specs.Reach.{is_marked}
use Rattle.cov_base.proofs.reach.first_unmarked.Given as goal

abbrev pub invariant-loop-block : goal.invariant-loop-block
invariant-loop-block l = (before : ℕ) → 2 ≤ before → before < l.block → is_marked l.marks before ≡ true
