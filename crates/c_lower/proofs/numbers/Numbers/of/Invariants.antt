use Rattle.std.proofs.Common.{◌≡◌, ◌+◌, ℕ, drop}
use Rattle.c_lower.specs.Items.{Name}
use Rattle.c_lower.specs.Numbers.{number_at, number_or}
use Rattle.c_lower.proofs.numbers.Numbers.of.Given as goal

abbrev pub invariant-loop-block : goal.invariant-loop-block
invariant-loop-block l = record {
  numbers : (n : Name) (other : ℕ) → number_at l.rows n (number_or l.number (drop l.block-index l.blocks) n other)
      ≡ number_or 2 l.blocks n other;
  number : l.number ≡ 2 + l.block-index;
}
