-- Runs of a pruned unit: those of the unit, but for the numbers of blocks in their walks.
use Rattle.std.specs.Prelude.{◌≡◌, ℕ, List, map, Option, Some, None, slice_get}
use Rattle.std.specs.Option.{option_map}
use Rattle.cov_base.specs.Walks.{Walk}
use Rattle.flow_graph.specs.Graph.{Graph, GraphUnit}
use Rattle.flow_graph.specs.Nets.{reached, new_number}
use Rattle.flow_graph.specs.WalkRun.{Walked, first, goes}

-- the number that a block of a graph has once the graph is pruned
abbrev pub number_of : Option Graph → ℕ → ℕ
number_of None b = b
number_of (Some g) b = new_number (reached g.blocks) b

-- a walk, block for block in the new numbers of its function
abbrev pub renamed_walk : GraphUnit → Walk → Walk
renamed_walk u w = record w { blocks = map (number_of (slice_get u.graphs w.function)) w.blocks }

-- what a run comes to, with its walks in the new numbers
abbrev pub renamed_walked : GraphUnit → Walked → Walked
renamed_walked u w = record w { walks = map (renamed_walk u) w.walks }

-- On each input, with as many turns and in as many blocks, a run of the new unit comes to what one of the old comes to,
-- with its output and ending and its walks in the new numbers; where the one isn't over by then, the other isn't.
abbrev pub KeepsRuns : GraphUnit → GraphUnit → Type 0
KeepsRuns old new = (input : List ℕ) (turns blocks : ℕ)
    → goes blocks new (first new input turns) ≡ option_map (renamed_walked old)
    (goes blocks old (first old input turns))
