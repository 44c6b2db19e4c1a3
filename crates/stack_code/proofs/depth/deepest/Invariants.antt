use Rattle.std.proofs.Common.{◌≡◌, ◌+◌, ◌*◌, drop, length}
use Rattle.std.specs.Prelude.{max}
use Rattle.flow_graph.specs.Nets.{blocks_size}
use Rattle.stack_code.specs.Deepest.{deepest}
use Rattle.stack_code.proofs.HeightLaws.{AreLow}
use Rattle.stack_code.proofs.depth.deepest.Given as goal

abbrev pub invariant-loop-block : goal.invariant-loop-block
invariant-loop-block l = record {
  number : l.number ≡ l.block-index + 2;
  long : length l.table ≡ 2 + length l.blocks;
  most : max l.most (deepest l.graphs l.number l.table (drop l.block-index l.blocks))
      ≡ deepest l.graphs 2 l.fn.table l.blocks;
  low : AreLow (3 * blocks_size (drop l.block-index l.blocks)) (3 * blocks_size l.blocks) l.table;
}
