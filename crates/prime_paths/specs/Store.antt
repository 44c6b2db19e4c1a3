-- Lists that are held in one flat store.
use Rattle.std.specs.Prelude.{ℕ, ◌<◌, ◌≤◌, ◌^◌, List, length, map, slice_range}
use Rattle.std.specs.List.{All}
use Rattle.prime_paths.specs.declared.store.Span.{Span}

-- the lists that stand in the store from one place to another each
abbrev pub pieces : List ℕ → List Span → List (List ℕ)
pieces blocks spans = map (λ s. slice_range blocks s.from s.to) spans

-- each list stands within the store
abbrev pub AreWithin : List ℕ → List Span → Type 0
AreWithin blocks spans = All (λ s. (s.from ≤ s.to) × (s.to ≤ length blocks)) spans

-- each list stands within the store, and there are fewer than 2^32
pub record IsStore (blocks : List ℕ) (spans : List Span) : Type 0 where
  pub within : AreWithin blocks spans
  pub few : length spans < 2 ^ 32
