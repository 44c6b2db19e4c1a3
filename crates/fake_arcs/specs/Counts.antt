-- Counts of kept blocks, as they are made graph by graph.
use Rattle.std.specs.Prelude.{◌≡◌, ℕ, ◌+◌, ◌*◌, List, [], ◌∷◌, map, length, Some, None, Result, Ok, Err}
use Rattle.cov_base.specs.declared.refusal.Refusal.{Refusal}
use Rattle.cov_base.specs.declared.refusal.Refusal.TheVariants as refusal
use Rattle.flow_graph.specs.Graph.{Ending, Block, Graph}
use Rattle.flow_graph.specs.Nets.{pruned_graph, net_of, blocks_size, graphs_size, arcs_out}
use Rattle.fake_arcs.specs.declared.pruning.SizeFault.{SizeFault}
use Rattle.fake_arcs.specs.Size.{counted, graph_fault, graphs_fault}

-- how many arcs leave a block that ends so
abbrev pub arcs_count : Ending → ℕ
arcs_count e = length (arcs_out 0 e)

-- how many arcs leave these blocks
abbrev pub arcs_in : List Block → ℕ
arcs_in [] = 0
arcs_in (b ∷ bs) = arcs_count b.end + arcs_in bs

-- the size of a pruned graph, or the first fault of the graph
abbrev pub Measures : ℕ → Graph → Result ℕ (Refusal SizeFault) → Type 0
Measures f g (Ok n) = (graph_fault f g ≡ None)
    × (n ≡ counted (blocks_size (pruned_graph g).blocks + 8 * length ((net_of (pruned_graph g)).arcs)))
Measures f g (Err (refusal.Refused found)) = graph_fault f g ≡ Some found
Measures f g (Err refusal.NoMemory) = Unit {0}

-- the size of these graphs once pruned, the first of which has the number f, or their first fault
abbrev pub MeasuresAll : ℕ → List Graph → Result ℕ (Refusal SizeFault) → Type 0
MeasuresAll f gs (Ok n) = (graphs_fault f gs ≡ None) × (n ≡ counted (graphs_size (map pruned_graph gs)))
MeasuresAll f gs (Err (refusal.Refused found)) = graphs_fault f gs ≡ Some found
MeasuresAll f gs (Err refusal.NoMemory) = Unit {0}
