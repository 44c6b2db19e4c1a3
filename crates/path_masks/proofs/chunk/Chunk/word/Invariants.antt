use Rattle.std.proofs.Common.{◌≡◌, ◌≤◌, ◌-◌, take, drop}
use Rattle.path_masks.specs.Masks.{word_of}
use Rattle.path_masks.specs.PathTests.{passes}
use Rattle.path_masks.proofs.chunk.Chunk.word.Given as goal

abbrev pub invariant-loop-k : goal.invariant-loop-k
invariant-loop-k l = record {
  low : l.self-inside.from ≤ l.k;
  high : l.k ≤ l.self-inside.to;
  told : l.word ≡ word_of (passes l.test) (take (l.self-inside.to - l.k) (drop l.k l.self-inside.paths.now));
}

abbrev pub decreases-loop-k : goal.decreases-loop-k
decreases-loop-k l = l.k
