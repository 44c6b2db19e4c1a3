-- The blocks next to each block of a net.
use Rattle.std.specs.Prelude.{◌≡◌, ℕ, ◌<◌, ◌==◌, ◌&&◌, nat_le, Bool, cond, List, [], ◌∷◌, ◌++◌, length, map, filter, get_or, slice_set}
use Rattle.cov_base.specs.Falls.{is_real}
use Rattle.cov_base.specs.Net.{NetValue}
use Rattle.cov_base.specs.declared.net.FlowArc.{FlowArc}
use Rattle.prime_paths.specs.Paths.{leads}
use Rattle.prime_paths.specs.Lister.{inner_blocks}

-- the blocks from 2 up that real arcs lead to from the block, in order
abbrev pub next_blocks : NetValue → ℕ → List ℕ
next_blocks net a = filter (leads net a) (inner_blocks net)

-- the blocks from 2 up from which real arcs lead to the block, in order
abbrev pub prior_blocks : NetValue → ℕ → List ℕ
prior_blocks net b = filter (λ a. leads net a b) (inner_blocks net)

-- an arc is real, has the block at its near end, and a block from 2 up at its far end
abbrev pub is_at : (FlowArc → ℕ) → (FlowArc → ℕ) → ℕ → FlowArc → Bool
is_at near far block arc = is_real arc.kind && ((near arc == block) && nat_le 2 (far arc))

-- the far ends from 2 up of the real arcs that have the block at their near end, in the order of the arcs
abbrev pub far_ends : (FlowArc → ℕ) → (FlowArc → ℕ) → ℕ → List FlowArc → List ℕ
far_ends near far block arcs = map far (filter (is_at near far block) arcs)

-- one number more at the end of a row
abbrev pub with_member : ℕ → ℕ → List (List ℕ) → List (List ℕ)
with_member at member rows = slice_set rows at (get_or rows at [] ++ member ∷ [])

-- the rows with the far end of an arc in that of its near end, if the arc is real and the far end is a block from 2 up
abbrev pub with_end : Bool → ℕ → ℕ → List (List ℕ) → List (List ℕ)
with_end real at member rows = cond (real && nat_le 2 member) (with_member at member rows) rows

-- for each block what has been put into its row so far, and what the arcs that are left will put there, is all
pub record AreFilled (near far : FlowArc → ℕ) (blocks : ℕ) (all left : List FlowArc)
    (rows : List (List ℕ)) : Type 0 where
  pub many : length rows ≡ blocks
  pub each : (b : ℕ) → b < blocks → get_or rows b [] ++ far_ends near far b left ≡ far_ends near far b all

-- the rows hold for each block the blocks next to it, and those prior to it
pub record AreWays (net : NetValue) (nexts priors : List (List ℕ)) : Type 0 where
  pub next_many : length nexts ≡ net.blocks
  pub prior_many : length priors ≡ net.blocks
  pub next : (b : ℕ) → b < net.blocks → get_or nexts b [] ≡ next_blocks net b
  pub prior : (b : ℕ) → b < net.blocks → get_or priors b [] ≡ prior_blocks net b
