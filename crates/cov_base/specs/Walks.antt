-- Walks through nets: the arcs that they pass, and the lines that they come to.
use Rattle.std.specs.Prelude.{
  ℕ,
  Bool,
  IsTrue,
  not,
  ◌&&◌,
  ◌==◌,
  if◌then◌else◌,
  nat_lt,
  List,
  [],
  ◌∷◌,
  slice_get,
  slice_index_or,
}
use Rattle.std.specs.Option.{option_map_or}
use Rattle.std.specs.List.{All, list_any, sum_by, count_by}
use Rattle.cov_base.specs.Net.{NetValue, has_arc, joins}
use Rattle.cov_base.specs.declared.net.FlowArc.{FlowArc}

-- the walk of one call: the number of its function, and the blocks that it goes through, in order
pub record Walk : Type 0 where
  pub function : ℕ
  pub blocks : List ℕ

-- the moves of a walk that goes on from a block
abbrev pub moves_from : ℕ → List ℕ → List (ℕ × ℕ)
moves_from block [] = []
moves_from block (next ∷ blocks) = (block, next) ∷ moves_from next blocks

-- the moves of a walk: each block with the one that follows it
abbrev pub moves : List ℕ → List (ℕ × ℕ)
moves [] = []
moves (block ∷ blocks) = moves_from block blocks

-- each move of the walk goes along one of the arcs
abbrev pub GoesAlong : List FlowArc → List ℕ → Type 0
GoesAlong arcs blocks = All (λ move. IsTrue (has_arc arcs move.0 move.1)) (moves blocks)

-- a move goes along the arc
abbrev pub is_along : FlowArc → ℕ × ℕ → Bool
is_along arc move = joins move.0 move.1 arc

-- in how many places of the function's walks the arc's two ends follow each other
abbrev pub passages : List Walk → ℕ → FlowArc → ℕ
passages walks function arc =
    sum_by (λ walk. if walk.function == function then count_by (is_along arc) (moves walk.blocks) else 0) walks

-- a block is one of the line: it is neither the entry nor the exit, and its list holds the line
abbrev pub is_of_line : NetValue → ℕ → ℕ → Bool
is_of_line net line block = nat_lt 1 block && list_any (λ held. held == line) (slice_index_or net.lines block [])

-- a move comes to the line from outside of it
abbrev pub comes_to : NetValue → ℕ → ℕ × ℕ → Bool
comes_to net line move = not (is_of_line net line move.0) && is_of_line net line move.1

-- in how many places of all walks a block of the line follows one that isn't, by the net of the walk's function; a walk
-- of a function
-- that has no net counts 0
abbrev pub line_passages : List NetValue → List Walk → ℕ → ℕ
line_passages nets walks line = sum_by (λ walk. option_map_or (λ net. count_by (comes_to net line) (moves walk.blocks))
    (slice_get nets walk.function) 0) walks
