use Rattle.std.proofs.Common.{◌≡◌, ◌-◌, take, drop}
use Rattle.std.specs.List.{list_any}
use Rattle.path_masks.specs.PathTests.{passes}
use Rattle.path_masks.proofs.chunk.Chunk.any.Given as goal

abbrev pub invariant-loop-k : goal.invariant-loop-k
invariant-loop-k l = list_any (passes l.test) (take (l.self-inside.to - l.k) (drop l.k l.self-inside.paths.now))
    ≡ list_any (passes l.test) l.self
