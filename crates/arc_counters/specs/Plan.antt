-- Counters of the arcs off a tree.
use Rattle.std.specs.Prelude.{◌≡◌, ℕ, suc, ◌<◌, ◌^◌, ◌==◌, cond, List, [], ◌∷◌, length, get_or, Option, Some, None}

-- the counter of an arc: its place among the arcs that have one, of which the first has counter k
abbrev pub counter_from : ℕ → List ℕ → ℕ → Option ℕ
counter_from k [] arc = None
counter_from k (other ∷ arcs) arc = cond (other == arc) (Some k) (counter_from (suc k) arcs arc)

-- each arc's counter is in the table, and counters are numbers of 32 bits
pub record IsPlan (off : List ℕ) (counters : List (Option ℕ)) : Type 0 where
  pub counters_are : (arc : ℕ) → get_or counters arc None ≡ counter_from 0 off arc
  pub small : length off < 2 ^ 32
