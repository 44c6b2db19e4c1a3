-- Pruned graphs, their nets and their size.
use Rattle.std.specs.Prelude.{
  ℕ,
  zero,
  suc,
  ◌+◌,
  ◌*◌,
  ◌==◌,
  ◌||◌,
  nat_lt,
  Bool,
  false,
  cond,
  List,
  [],
  ◌∷◌,
  ◌++◌,
  length,
  map,
  filter,
}
use Rattle.cov_base.specs.declared.net.ArcKind.TheVariants as arc_kind
use Rattle.cov_base.specs.declared.net.FlowArc.{FlowArc}
use Rattle.cov_base.specs.Net.{NetValue}
use Rattle.flow_graph.specs.Graph.{Ending, Block, Graph, GraphUnit}
use Rattle.flow_graph.specs.Ascending.{inserted}

-- the blocks that a block leads to, one for each, ascending
abbrev pub targets : Ending → List ℕ
targets (Ending.Jump t) = t ∷ []
targets (Ending.Back t) = t ∷ []
targets (Ending.Branch t f) = inserted t (f ∷ [])
targets (Ending.Switch [] default) = default ∷ []
targets (Ending.Switch (c ∷ cases) default) = inserted c.1 (targets (Ending.Switch cases default))
targets (Ending.Call f line next) = next ∷ []
targets Ending.Return = []
targets Ending.Exit = []

-- the number is one of these
abbrev pub among : ℕ → List ℕ → Bool
among n [] = false
among n (m ∷ ms) = (n == m) || among n ms

-- the numbers of so many blocks, where the first has the number n
abbrev pub numbers_from : ℕ → List Block → List ℕ
numbers_from n [] = []
numbers_from n (b ∷ bs) = n ∷ numbers_from (suc n) bs

-- a block is the target of one of those that are kept, where the first has the number n
abbrev pub is_entered : List ℕ → ℕ → List Block → ℕ → Bool
is_entered kept n [] b = false
is_entered kept n (block ∷ blocks) b = cond (among n kept)
    (among b (targets block.end) || is_entered kept (suc n) blocks b) (is_entered kept (suc n) blocks b)

-- those that are kept, and those that they lead to
abbrev pub spread : List Block → List ℕ → List ℕ
spread blocks kept = filter (λ b. among b kept || is_entered kept 2 blocks b) (numbers_from 2 blocks)

-- that, so many times
abbrev pub spread_for : ℕ → List Block → List ℕ → List ℕ
spread_for zero blocks kept = kept
spread_for (suc n) blocks kept = spread_for n blocks (spread blocks kept)

-- the blocks that are reached from block 2, ascending: nothing is added once it was tried as often as there are blocks
abbrev pub reached : List Block → List ℕ
reached blocks = spread_for (length blocks) blocks (2 ∷ [])

-- the number that a kept block has among the kept ones, where the first has the number n
abbrev pub rank_from : ℕ → List ℕ → ℕ → ℕ
rank_from n [] b = n
rank_from n (k ∷ ks) b = cond (k == b) n (rank_from (suc n) ks b)

-- The new number of a block: a kept one has that among the kept ones, from 2 on, and the entry and the exit keep
-- theirs.
abbrev pub new_number : List ℕ → ℕ → ℕ
new_number kept b = cond (nat_lt b 2) b (rank_from 2 kept b)

-- an ending with other numbers of blocks
abbrev pub renamed : (ℕ → ℕ) → Ending → Ending
renamed f (Ending.Jump t) = Ending.Jump (f t)
renamed f (Ending.Back t) = Ending.Back (f t)
renamed f (Ending.Branch t e) = Ending.Branch (f t) (f e)
renamed f (Ending.Switch cases default) = Ending.Switch (map (λ c. (c.0, f c.1)) cases) (f default)
renamed f (Ending.Call g line next) = Ending.Call g line (f next)
renamed f Ending.Return = Ending.Return
renamed f Ending.Exit = Ending.Exit

-- the blocks that are kept, with their new numbers, where the first has the number n
abbrev pub kept_blocks : List ℕ → ℕ → List Block → List Block
kept_blocks kept n [] = []
kept_blocks kept n (b ∷ bs) =
    cond (among n kept) (record b {
      end = renamed (new_number kept) b.end;
    } ∷ kept_blocks kept (suc n) bs) (kept_blocks kept (suc n) bs)

-- A graph without the blocks that block 2 doesn't reach; the others are numbered anew, in order.
abbrev pub pruned_graph : Graph → Graph
pruned_graph g = record g { blocks = kept_blocks (reached g.blocks) 2 g.blocks }

-- a unit whose graphs are pruned
abbrev pub pruned : GraphUnit → GraphUnit
pruned u = record u { graphs = map pruned_graph u.graphs }

-- ---- nets

-- an arc along which control goes from block to block
abbrev pub real : ℕ → ℕ → FlowArc
real from to = record { from = from; to = to; kind = arc_kind.Real }

-- the arc of a call that may end the run: it leads to the exit
abbrev pub call_exit : ℕ → FlowArc
call_exit from = record { from = from; to = 1; kind = arc_kind.CallExit }

-- The arcs out of a block: a call may end the run, so it has a call-exit arc too.
abbrev pub arcs_out : ℕ → Ending → List FlowArc
arcs_out b (Ending.Call f line next) = call_exit b ∷ real b next ∷ []
arcs_out b Ending.Return = real b 1 ∷ []
arcs_out b Ending.Exit = call_exit b ∷ []
arcs_out b end = map (real b) (targets end)

-- the arcs out of blocks, where the first has the number n
abbrev pub arcs_from : ℕ → List Block → List FlowArc
arcs_from n [] = []
arcs_from n (b ∷ bs) = arcs_out n b.end ++ arcs_from (suc n) bs

-- The net of a pruned graph: an arc from the entry to block 2 and those out of its blocks, and the lines of its blocks.
abbrev pub net_of : Graph → NetValue
net_of g = record {
  blocks = 2 + length g.blocks;
  arcs = real 0 2 ∷ arcs_from 2 g.blocks;
  lines = [] ∷ [] ∷ map (λ b. b.lines) g.blocks;
}

-- ---- size

-- the size of an ending: a branch counts 2, a switch 2 and 1 for each case, another ending 1
abbrev pub ending_size : Ending → ℕ
ending_size (Ending.Branch t f) = 2
ending_size (Ending.Switch cases default) = 2 + length cases
ending_size end = 1

-- the size of blocks: their operations and endings
abbrev pub blocks_size : List Block → ℕ
blocks_size [] = 0
blocks_size (b ∷ bs) = length b.ops + ending_size b.end + blocks_size bs

-- the size of graphs: that of their blocks, and 8 for every arc of their nets
abbrev pub graphs_size : List Graph → ℕ
graphs_size [] = 0
graphs_size (g ∷ gs) = blocks_size g.blocks + 8 * length ((net_of g).arcs) + graphs_size gs

-- the size of a pruned unit: its operations, its endings, and 8 for every arc
abbrev pub size_of : GraphUnit → ℕ
size_of u = graphs_size u.graphs
