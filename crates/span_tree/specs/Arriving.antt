-- Blocks while they come, with a mark for each that is there.
use Rattle.std.specs.Prelude.{◌≡◌, ℕ, ◌<◌, Bool, false, List, [], ◌∷◌, length, get_or, Option, Some, None, slice_get}
use Rattle.std.specs.List.{All}
use Rattle.cov_base.specs.declared.net.FlowArc.{FlowArc}
use Rattle.span_tree.specs.declared.arrival.Arrival.{Arrival}
use Rattle.span_tree.specs.Tree.{is_there, look}

-- those that are there, and how many blocks the net has
pub record ArrivingValue : Type 0 where
  pub there : List Arrival
  pub room : ℕ

-- exactly the blocks that are there are marked
abbrev pub AreMarked : List Bool → List Arrival → Type 0
AreMarked marks there = (b : ℕ) → b < length marks → get_or marks b false ≡ is_there there b

-- exactly the blocks that are there are marked, and only blocks of the net are there
pub record IsArriving (marks : List Bool) (there : List Arrival) : Type 0 where
  pub marked : AreMarked marks there
  pub within : All (λ a. a.block < length marks) there

-- from a block an arc is looked at, if there is one
abbrev pub looked : ℕ → ℕ → Option FlowArc → List Arrival → List Arrival
looked block i None there = there
looked block i (Some arc) there = look block i arc there

-- from a block the arcs of these indices are looked at in order
abbrev pub looked_at : List FlowArc → ℕ → List ℕ → List Arrival → List Arrival
looked_at arcs block [] there = there
looked_at arcs block (i ∷ is) there = looked_at arcs block is (looked block i (slice_get arcs i) there)
