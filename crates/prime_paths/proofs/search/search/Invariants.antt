use Rattle.std.proofs.Common.{◌≡◌, ◌+◌, []}
use Rattle.prime_paths.specs.Lister.{simple_paths}
use Rattle.prime_paths.specs.Search.{visits}
use Rattle.prime_paths.proofs.Growing.{started_from}
use Rattle.prime_paths.proofs.search.search.Given as goal

abbrev pub invariant-loop-block : goal.invariant-loop-block
invariant-loop-block g l = record {
  blocks : l.trail.blocks ≡ [];
  room : l.trail.room ≡ l.ways.blocks;
  told : visits l.ways (started_from l.ways l.block) l.found ≡ visits l.ways (simple_paths l.ways) l.fn.found;
  steps : l.steps + l.found.left ≡ l.fn.steps + l.fn.found.left;
}
