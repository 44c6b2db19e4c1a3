-- What pruning refuses: a pruned unit above a limit.
use Rattle.std.specs.Prelude.{◌≡◌, ℕ, suc, ◌+◌, ◌-◌, ◌^◌, min, nat_lt, cond, List, [], ◌∷◌, length, Option, Some, None}
use Rattle.std.specs.Prelude.{Result, Ok, Err}
use Rattle.std.specs.Option.{option_or}
use Rattle.cov_base.specs.Limits.{block_limit, arc_limit, unit_limit}
use Rattle.cov_base.specs.declared.refusal.Refusal.{Refusal}
use Rattle.cov_base.specs.declared.refusal.Refusal.TheVariants as refusal
use Rattle.flow_graph.specs.Graph.{Graph, GraphUnit}
use Rattle.flow_graph.specs.Nets.{pruned_graph, pruned, net_of, size_of}
use Rattle.fake_arcs.specs.declared.pruning.SizeFault.{SizeFault}
use Rattle.fake_arcs.specs.declared.pruning.SizeFault.TheVariants as fault

-- a count stands still at 2 ^ 64 - 1
abbrev pub counted : ℕ → ℕ
counted n = min n (2 ^ 64 - 1)

-- the fault that tells a number, where it is above a limit
abbrev pub above : ℕ → ℕ → (ℕ → SizeFault) → Option SizeFault
above limit n told = cond (nat_lt limit n) (Some (told (counted n))) None

-- the first fault of the graph with this number: too many blocks, and else too many arcs
abbrev pub graph_fault : ℕ → Graph → Option SizeFault
graph_fault f g =
    option_or (above block_limit (2 + length (pruned_graph g).blocks) (fault.TooManyBlocks f))
    (above arc_limit (length ((net_of (pruned_graph g)).arcs)) (fault.TooManyArcs f))

-- the first fault of these graphs, the first of which has the number f
abbrev pub graphs_fault : ℕ → List Graph → Option SizeFault
graphs_fault f [] = None
graphs_fault f (g ∷ gs) = option_or (graph_fault f g) (graphs_fault (suc f) gs)

-- the first fault of a unit: one of its graphs, and else its size
abbrev pub size_fault : GraphUnit → Option SizeFault
size_fault u = option_or (graphs_fault 0 u.graphs) (above unit_limit (size_of (pruned u)) fault.UnitTooLarge)

-- the pruned unit, where no fault stands, or else the first fault; want of memory says nothing
abbrev pub Prunes : GraphUnit → Result GraphUnit (Refusal SizeFault) → Type 0
Prunes u (Ok new) = (new ≡ pruned u) × (size_fault u ≡ None)
Prunes u (Err (refusal.Refused found)) = size_fault u ≡ Some found
Prunes u (Err refusal.NoMemory) = Unit {0}
