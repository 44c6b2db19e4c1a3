-- Marks of blocks, spread from block 2 along endings.
use Rattle.std.specs.Prelude.{◌≡◌, ℕ, ◌+◌, ◌-◌, ◌<◌, ◌&&◌, nat_lt, nat_le, not, Bool, true, false, cond, List, [], ◌∷◌}
use Rattle.std.specs.Prelude.{◌++◌, map, length, replicate, get_or, slice_set}
use Rattle.flow_graph.specs.Graph.{Ending, Block}
use Rattle.flow_graph.specs.Nets.{among, reached}

-- a mark for each block, and the places of the marked ones whose targets were not marked yet, the last first to go
pub record MarkingValue : Type 0 where
  pub marks : List Bool
  pub todo : List ℕ

-- the blocks that an ending goes to, as they stand in it
abbrev pub goals_of : Ending → List ℕ
goals_of (Ending.Jump t) = t ∷ []
goals_of (Ending.Back t) = t ∷ []
goals_of (Ending.Branch t f) = t ∷ f ∷ []
goals_of (Ending.Switch cases default) = map (λ c. c.1) cases ++ default ∷ []
goals_of (Ending.Call f line next) = next ∷ []
goals_of Ending.Return = []
goals_of Ending.Exit = []

-- there is a block of this number, and it has no mark
abbrev pub is_new : List Bool → ℕ → Bool
is_new marks t = nat_le 2 t && (nat_lt (t - 2) (length marks) && not (get_or marks (t - 2) false))

-- a block is marked, if there is one without a mark
abbrev pub with_mark : ℕ → MarkingValue → MarkingValue
with_mark t m =
    cond (is_new m.marks t) (record { marks = slice_set m.marks (t - 2) true; todo = m.todo ++ (t - 2) ∷ [] }) m

-- these blocks are marked
abbrev pub with_marks : List ℕ → MarkingValue → MarkingValue
with_marks [] m = m
with_marks (t ∷ ts) m = with_marks ts (with_mark t m)

-- so many blocks, of which block 2 alone is marked
abbrev pub first_marked : ℕ → MarkingValue
first_marked n = with_mark 2 (record { marks = replicate n false; todo = [] })

-- exactly the blocks that block 2 reaches are marked
pub record AreReached (blocks : List Block) (marks : List Bool) : Type 0 where
  pub long : length marks ≡ length blocks
  pub each : (k : ℕ) → k < length blocks → get_or marks k false ≡ among (2 + k) (reached blocks)
