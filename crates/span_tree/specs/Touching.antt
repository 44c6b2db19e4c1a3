-- The arcs that touch each block of a net.
use Rattle.std.specs.Prelude.{◌≡◌, ℕ, zero, suc, ◌<◌, ◌==◌, ◌||◌, cond, List, [], ◌∷◌, ◌++◌, length, get_or}
use Rattle.cov_base.specs.declared.net.FlowArc.{FlowArc}

-- the indices of the arcs that touch a block, where the first has the index i
abbrev pub touching : ℕ → ℕ → List FlowArc → List ℕ
touching b i [] = []
touching b i (arc ∷ arcs) =
    cond ((arc.from == b) || (arc.to == b)) (i ∷ touching b (suc i) arcs) (touching b (suc i) arcs)

-- the row of a block with one more index
abbrev pub with_index : ℕ → ℕ → List (List ℕ) → List (List ℕ)
with_index b i [] = []
with_index zero i (r ∷ rows) = (r ++ i ∷ []) ∷ rows
with_index (suc b) i (r ∷ rows) = r ∷ with_index b i rows

-- the rows of an arc's two ends with its index
abbrev pub with_ends : ℕ → FlowArc → List (List ℕ) → List (List ℕ)
with_ends i arc rows =
    cond (arc.to == arc.from) (with_index arc.from i rows) (with_index arc.to i (with_index arc.from i rows))

-- each block has a row, and what its row lacks are those of the arcs from the index i on that touch it
pub record AreTouched (blocks i : ℕ) (all rest : List FlowArc) (rows : List (List ℕ)) : Type 0 where
  pub many : length rows ≡ blocks
  pub each : (b : ℕ) → b < blocks → get_or rows b [] ++ touching b i rest ≡ touching b 0 all

-- each block's row holds the arcs that touch it
pub record AreTouching (blocks : ℕ) (arcs : List FlowArc) (rows : List (List ℕ)) : Type 0 where
  pub many : length rows ≡ blocks
  pub each : (b : ℕ) → b < blocks → get_or rows b [] ≡ touching b 0 arcs
