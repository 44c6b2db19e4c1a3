-- The paths of a word.
use Rattle.std.specs.Prelude.{ℕ, ◌-◌, ◌≤◌, List, length}

-- the indices stand in order, within the list, and are at most 64 apart
pub record IsChunk (from to : ℕ) (ps : List (List ℕ)) : Type 0 where
  pub order : from ≤ to
  pub within : to ≤ length ps
  pub few : to - from ≤ 64
