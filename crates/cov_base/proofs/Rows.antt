-- Walks whose passages are told line by line.
use Rattle.std.proofs.Common.{◌≡◌, ℕ, List, [], ◌∷◌, refl, map}
use Rattle.cov_base.specs.Net.{NetValue}
use Rattle.cov_base.specs.Walks.{Walk, passages, line_passages}
use Rattle.cov_base.specs.declared.net.ArcKind.TheVariants.{Real}
use Rattle.cov_base.specs.declared.net.FlowArc.{FlowArc}

abbrev real : ℕ → ℕ → FlowArc
real a b = record { from = a; to = b; kind = Real }

-- a loop of blocks 3 and 4
abbrev loop_arcs : List FlowArc
loop_arcs = real 0 2 ∷ real 2 3 ∷ real 3 4 ∷ real 3 5 ∷ real 4 3 ∷ real 5 1 ∷ []

abbrev loop_on : List (List ℕ) → NetValue
loop_on lines = record { blocks = 6; arcs = loop_arcs; lines = lines }

-- one walk that goes round the loop twice
abbrev rounds : List Walk
rounds = record { function = 0; blocks = 0 ∷ 2 ∷ 3 ∷ 4 ∷ 3 ∷ 4 ∷ 3 ∷ 5 ∷ 1 ∷ [] } ∷ []

-- the loop's blocks on lines of their own
abbrev apart : NetValue
apart = loop_on ([] ∷ [] ∷ (1 ∷ 2 ∷ []) ∷ (3 ∷ []) ∷ (4 ∷ []) ∷ (5 ∷ []) ∷ [])

-- the loop on one line
abbrev together : NetValue
together = loop_on ([] ∷ [] ∷ (1 ∷ 2 ∷ []) ∷ (3 ∷ []) ∷ (3 ∷ []) ∷ (4 ∷ []) ∷ [])

passages-rounds : map (passages rounds 0) loop_arcs ≡ 1 ∷ 1 ∷ 2 ∷ 1 ∷ 2 ∷ 1 ∷ []
passages-rounds = refl

line_passages-apart : map (line_passages (apart ∷ []) rounds) (1 ∷ 2 ∷ 3 ∷ 4 ∷ 5 ∷ 6 ∷ []) ≡ 1 ∷ 1 ∷ 3 ∷ 2 ∷ 1 ∷ 0 ∷ []
line_passages-apart = refl

-- a loop within one line is passed once
line_passages-together : line_passages (together ∷ []) rounds 3 ≡ 1
line_passages-together = refl
