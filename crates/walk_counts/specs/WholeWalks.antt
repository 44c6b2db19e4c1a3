-- Walks that go through a net from the entry to the exit, and how often they pass its arcs.
use Rattle.std.specs.Prelude.{◌≡◌, ℕ, ℤ, pos, ◌==◌, if◌then◌else◌, List, map}
use Rattle.std.specs.List.{All, sum_by}
use Rattle.cov_base.specs.Net.{NetValue}
use Rattle.cov_base.specs.Walks.{Walk, GoesAlong, passages}
use Rattle.flow_graph.specs.Laws.{IsWhole}
use Rattle.prime_paths.specs.Paths.{Among, Contains}

-- a walk goes through the net: it begins with the entry and block 2, ends with the exit, and goes along arcs of the net
pub record GoesThrough (net : NetValue) (blocks : List ℕ) : Type 0 where
  pub whole : IsWhole blocks
  pub along : GoesAlong net.arcs blocks

-- each walk of function i goes through the net
abbrev pub AllGoThrough : NetValue → ℕ → List Walk → Type 0
AllGoThrough net i walks = All (λ w. w.function ≡ i → GoesThrough net w.blocks) walks

-- for each arc of the net of function i, its passages in the walks
abbrev pub passages_of : NetValue → ℕ → List Walk → List ℤ
passages_of net i walks = map (λ arc. pos (passages walks i arc)) net.arcs

-- how often the walks of function i enter a block: the passages of the arcs that lead to it
abbrev pub times_entered : NetValue → ℕ → List Walk → ℕ → ℕ
times_entered net i walks b = sum_by (λ arc. if arc.to == b then passages walks i arc else 0) net.arcs

-- how often the walks of function i leave a block: the passages of the arcs that lead away from it
abbrev pub times_left : NetValue → ℕ → List Walk → ℕ → ℕ
times_left net i walks b = sum_by (λ arc. if arc.from == b then passages walks i arc else 0) net.arcs

-- some of the walks contains the path
pub record IsToured (walks : List (List ℕ)) (path : List ℕ) : Type 0 where
  pub walk : List ℕ
  pub among : Among walk walks
  pub contains : Contains walk path
