-- What the layers above cite of operands: so many stand where a block begins.
use Rattle.std.specs.Prelude.{◌≡◌, ℕ, slice_get, Some}
use Rattle.c_tree.specs.Typed.{Typed}
use Rattle.c_tree.specs.Sound.{Sound}
use Rattle.flow_graph.specs.Graph.{Graph, GraphUnit}
use Rattle.flow_graph.specs.Nets.{pruned_graph, pruned}
use Rattle.fake_arcs.specs.Tidy.{IsWellMade}
use Rattle.c_lower.specs.Lowered.{unit_of}
use Rattle.operand_depths.specs.Depths.{Steady}

-- the graph is one of the unit
pub record IsGraphOf (u : GraphUnit) (g : Graph) : Type 0 where
  pub function : ℕ
  pub there : slice_get u.graphs function ≡ Some g

-- So it is in each graph of every sound source.
abbrev pub EachGraphIsSteady : Type 0
EachGraphIsSteady = (source : Typed) → Sound source → (g : Graph) → IsGraphOf (unit_of source) g
    → Steady (unit_of source) g

-- It stays so when graphs are pruned.
abbrev pub PruningKeepsDepths : Type 0
PruningKeepsDepths = (u : GraphUnit) (g : Graph) → IsWellMade g → Steady u g → Steady (pruned u) (pruned_graph g)

-- So it is in each pruned graph of every sound source.
abbrev pub EachPrunedGraphIsSteady : Type 0
EachPrunedGraphIsSteady = (source : Typed) → Sound source → (g : Graph) → IsGraphOf (unit_of source) g
    → Steady (pruned (unit_of source)) (pruned_graph g)
