use Rattle.std.proofs.Common.{◌≡◌, map}
use Rattle.c_lower.specs.Lowered.{block_of}
use Rattle.c_lower.specs.Numbers.{number_at}
use Rattle.c_lower.proofs.numbers.Numbers.blocks.Given as goal

abbrev pub invariant-loop-block : goal.invariant-loop-block
invariant-loop-block l = l.blocks.items ≡ map (block_of (λ n. number_at l.self.rows n l.self.behind)) l.yielded
