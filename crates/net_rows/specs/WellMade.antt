-- A test of graphs: whether their pruned graphs have nets.
use Rattle.std.specs.Prelude.{ℕ, ◌+◌, ◌&&◌, nat_lt, Bool, List, length}
use Rattle.std.specs.List.{list_all}
use Rattle.cov_base.specs.Net.{ascends}
use Rattle.flow_graph.specs.Graph.{Block, Graph, GraphUnit}
use Rattle.flow_graph.specs.Nets.{targets}

-- a number is that of a block behind block 2, where a graph has so many blocks beside the entry and the exit
abbrev pub is_later : ℕ → ℕ → Bool
is_later count t = nat_lt 2 t && nat_lt t (2 + count)

-- the ending of a block leads to blocks behind block 2, and its lines ascend from above 0
abbrev pub block_made : ℕ → Block → Bool
block_made count b = list_all (is_later count) (targets b.end) && ascends 0 b.lines

-- a graph has a block, and each of its blocks is made so
abbrev pub graph_made : Graph → Bool
graph_made g = nat_lt 0 (length g.blocks) && list_all (block_made (length g.blocks)) g.blocks

-- each graph of a unit is made so
abbrev pub unit_made : GraphUnit → Bool
unit_made u = list_all graph_made u.graphs
