-- Marks of the blocks that are reached, spread along arcs.
use Rattle.std.specs.Prelude.{
  ◌≡◌,
  ℕ,
  ◌<◌,
  ◌≤◌,
  Bool,
  true,
  false,
  not,
  ◌&&◌,
  if◌then◌else◌,
  nat_lt,
  List,
  length,
  slice_index_or,
  slice_set,
}
use Rattle.std.specs.List.{list_any}
use Rattle.cov_base.specs.Net.{IsReached}
use Rattle.cov_base.specs.declared.net.FlowArc.{FlowArc}

-- both ends of an arc are blocks
abbrev pub is_inside : ℕ → FlowArc → Bool
is_inside blocks arc = nat_lt arc.from blocks && nat_lt arc.to blocks

-- the block is marked
abbrev pub is_marked : List Bool → ℕ → Bool
is_marked marks block = slice_index_or marks block false

-- an arc leads from a marked block to one that isn't
abbrev pub is_open : List Bool → FlowArc → Bool
is_open marks arc = is_marked marks arc.from && not (is_marked marks arc.to)

-- the block that an open arc enters is marked
abbrev pub spread_along : List Bool → FlowArc → List Bool
spread_along marks arc = if is_open marks arc then slice_set marks arc.to true else marks

-- each marked block is reached
abbrev pub IsSound : List FlowArc → List Bool → Type 0
IsSound arcs marks = (block : ℕ) → is_marked marks block ≡ true → IsReached arcs block

-- each block has a mark or none, just those that are reached are marked from block 2 on, and no arc is open
pub record MarksReached (blocks : ℕ) (arcs : List FlowArc) (marks : List Bool) : Type 0 where
  pub len : length marks ≡ blocks
  pub sound : IsSound arcs marks
  pub start : is_marked marks 2 ≡ true
  pub closed : list_any (is_open marks) arcs ≡ false

-- each block from 2 up is marked
abbrev pub AllMarked : List Bool → Type 0
AllMarked marks = (block : ℕ) → 2 ≤ block → block < length marks → is_marked marks block ≡ true

-- the block is the first from 2 up that isn't marked
pub record IsFirstUnmarked (marks : List Bool) (block : ℕ) : Type 0 where
  pub inner : 2 ≤ block
  pub within : block < length marks
  pub unmarked : is_marked marks block ≡ false
  pub least : (before : ℕ) → 2 ≤ before → before < block → is_marked marks before ≡ true
