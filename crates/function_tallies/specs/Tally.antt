-- What a report needs of a function.
use Rattle.std.specs.Prelude.{ℕ, ℤ, List}
use Rattle.prime_paths.specs.declared.listing.Listing.{Listing}

-- a number for each arc, the prime paths or that there are too many, and the bits of the covered ones
pub record FunctionTallyValue : Type 0 where
  pub arcs : List ℤ
  pub listing : Listing
  pub bits : List ℕ
