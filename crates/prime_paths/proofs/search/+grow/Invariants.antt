use Rattle.std.proofs.Common.{◌≡◌, ◌+◌, ◌-◌, ◌*◌, drop, flat_map}
use Rattle.prime_paths.specs.Lister.{grown_by}
use Rattle.prime_paths.specs.Search.{visits, from_path}
use Rattle.prime_paths.proofs.search.+grow.Given as goal

abbrev pub decreases-grow_by : goal.decreases-grow_by
decreases-grow_by g l = 2 * l.fuel + 1

abbrev pub decreases-grow_from : goal.decreases-grow_from
decreases-grow_from g l = 2 * l.fuel

abbrev pub invariant-grow_from-loop-block : goal.invariant-grow_from-loop-block
invariant-grow_from-loop-block g l = record {
  blocks : l.trail.blocks ≡ l.fn.trail.blocks;
  room : l.trail.room ≡ l.fn.trail.room;
  told : visits l.ways (flat_map (grown_by l.ways (l.fn.fuel - 1) l.fn.trail.blocks) (drop l.block-index l.row)) l.found
      ≡ from_path l.ways l.fn.fuel l.fn.trail.blocks l.fn.found;
  steps : l.steps + l.found.left ≡ l.fn.steps + l.fn.found.left;
}
