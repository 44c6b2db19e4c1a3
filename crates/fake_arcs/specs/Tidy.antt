-- Graphs of which nets are made.
use Rattle.std.specs.Prelude.{ℕ, zero, suc, ◌+◌, ◌<◌, ◌≤◌, ◌≡◌, true, List, length, Some, slice_get}
use Rattle.std.specs.List.{All}
use Rattle.cov_base.specs.Limits.{block_limit, arc_limit}
use Rattle.cov_base.specs.Net.{ascends}
use Rattle.flow_graph.specs.Graph.{Block, Graph}
use Rattle.flow_graph.specs.Nets.{targets, among, net_of}

-- so many steps, each from a block to a target of its ending, lead from block 2 to the block
abbrev pub Way : List Block → ℕ → ℕ → Type 0
Way blocks zero b = b ≡ 2
Way blocks (suc n) b = (a k : ℕ) × (block : Block) × Way blocks n a × (a ≡ 2 + k) × (slice_get blocks k ≡ Some block)
    × (among b (targets block.end) ≡ true)

-- each ending goes to blocks behind block 2
abbrev pub AimsBehind : List Block → Type 0
AimsBehind blocks = (k t : ℕ) (b : Block) → slice_get blocks k ≡ Some b → among t (targets b.end) ≡ true
    → (2 < t) × (t < 2 + length blocks)

-- a graph has a block, its endings go to blocks behind block 2, and the lines of each block ascend from above 0
pub record IsWellMade (g : Graph) : Type 0 where
  pub some : 0 < length g.blocks
  pub aims : AimsBehind g.blocks
  pub lines : All (λ b. ascends 0 b.lines ≡ true) g.blocks

-- a graph is well made, within the limits of a net, and block 2 leads to each of its blocks
pub record IsTidy (g : Graph) : Type 0 where
  pub made : IsWellMade g
  pub few : 2 + length g.blocks ≤ block_limit
  pub arcs : length ((net_of g).arcs) ≤ arc_limit
  pub ways : (k : ℕ) → k < length g.blocks → (n : ℕ) × Way g.blocks n (2 + k)
