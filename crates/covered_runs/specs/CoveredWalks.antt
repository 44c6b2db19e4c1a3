-- What covered code counts for walks.
use Rattle.std.specs.Prelude.{◌≡◌, ℕ, suc, ◌==◌, cond, List, [], ◌∷◌, map, filter, Option, Some, None, slice_get}
use Rattle.cov_base.specs.Net.{NetValue}
use Rattle.cov_base.specs.Walks.{Walk, passages}
use Rattle.cov_base.specs.declared.net.FlowArc.{FlowArc}
use Rattle.span_tree.specs.declared.arrival.Arrival.{Arrival}
use Rattle.span_tree.specs.Tree.{arrivals, is_linked}
use Rattle.prime_paths.specs.Paths.{ArePrimes}
use Rattle.path_masks.specs.Masks.{bits_of}
use Rattle.path_masks.specs.Tables.{RowsValue, AreRows}
use Rattle.flow_graph.specs.Graph.{Graph, GraphUnit}
use Rattle.flow_graph.specs.Nets.{net_of}
use Rattle.code_runs.specs.CodeRun.{Tally}
use Rattle.stack_code.specs.Modes.{ShapeValue, IsShape}

-- of these arcs, the first of which has the index i, those by which no block came
abbrev pub arcs_off : List Arrival → ℕ → List FlowArc → List FlowArc
arcs_off came i [] = []
arcs_off came i (arc ∷ arcs) = cond (is_linked came i) (arcs_off came (suc i) arcs) (arc ∷ arcs_off came (suc i) arcs)

-- the arcs off the tree of a net, in order
abbrev pub off_arcs : NetValue → List FlowArc
off_arcs net = arcs_off (arrivals net) 0 net.arcs

-- the counters of function i for these walks: for each arc off the tree of its net, its passages in the walks
abbrev pub counters_of : NetValue → ℕ → List Walk → List ℕ
counters_of net i walks = map (passages walks i) (off_arcs net)

-- the walks of function i, each as its blocks
abbrev pub walks_of : ℕ → List Walk → List (List ℕ)
walks_of i walks = map (λ w. w.blocks) (filter (λ w. w.function == i) walks)

-- path words of function i for these walks: none where it has no rows; where its rows are those of its prime paths, the
-- bits of the prime paths that some walk of it contains
abbrev pub AreWordsOf : NetValue → Option RowsValue → ℕ → List Walk → List ℕ → Type 0
AreWordsOf net None i walks words = words ≡ []
AreWordsOf net (Some rows) i walks words =
    (paths : List (List ℕ)) → ArePrimes net paths → AreRows net.arcs paths rows → words ≡ bits_of paths (walks_of i walks)

-- what has been counted for function i, of this shape, is what these walks passed and contained
pub record IsCounted (shape : ShapeValue) (i : ℕ) (walks : List Walk) (t : Tally) : Type 0 where
  pub counters : slice_get t.counters i ≡ Some (counters_of shape.net i walks)
  pub words : List ℕ
  pub there : slice_get t.words i ≡ Some words
  pub words_are : AreWordsOf shape.net shape.rows i walks words

-- each graph of the unit has a shape, which is one of its net
pub record HasShapes (u : GraphUnit) (shapes : List ShapeValue) : Type 0 where
  pub are : (i : ℕ) (s : ShapeValue) → slice_get shapes i ≡ Some s → IsShape s
  pub nets : (i : ℕ) (g : Graph) → slice_get u.graphs i ≡ Some g
      → (s : ShapeValue) × (slice_get shapes i ≡ Some s) × (s.net ≡ net_of g)

-- the rows of a shape, where it has any, are those of all prime paths of its net
abbrev pub ListsPrimes : ShapeValue → Option RowsValue → Type 0
ListsPrimes s None = Unit {0}
ListsPrimes s (Some rows) = (paths : List (List ℕ)) × ArePrimes s.net paths × AreRows s.net.arcs paths rows
