-- Laws of the runs of graphs.
use Rattle.std.specs.Prelude.{◌≡◌, ℕ, List, [], ◌∷◌, ◌++◌}
use Rattle.cov_base.specs.Walks.{Walk}
use Rattle.flow_graph.specs.Graph.{GraphUnit}
use Rattle.flow_graph.specs.WalkRun.{Walked, WalkRun, IsClosed}

-- A walk is whole: it begins in the entry and block 2, and ends in the exit.
abbrev pub IsWhole : List ℕ → Type 0
IsWhole blocks = (middle : List ℕ) × (blocks ≡ 0 ∷ 2 ∷ (middle ++ 1 ∷ []))

-- each walk is whole
abbrev pub AllWhole : List Walk → Type 0
AllWhole [] = Unit {0}
AllWhole (w ∷ ws) = IsWhole w.blocks × AllWhole ws

-- Where a run is closed, the walk of each call is whole.
abbrev pub ClosedWalks : Type 0
ClosedWalks =
    (unit : GraphUnit) (input : List ℕ) (turns : ℕ) (walked : Walked) → WalkRun unit input turns walked
    → IsClosed walked.ending → AllWhole walked.walks
