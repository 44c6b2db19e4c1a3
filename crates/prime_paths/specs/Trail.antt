-- A path on which no block stands twice, with marks of its blocks.
use Rattle.std.specs.Prelude.{◌≡◌, ℕ, ◌<◌, Bool, true, false, List, [], ◌∷◌, length, get_or}
use Rattle.std.specs.List.{All}
use Rattle.prime_paths.specs.Paths.{among, distinct}
use Rattle.prime_paths.specs.Lister.{last_from}

-- the blocks of a path, and the number of blocks that have marks
pub record TrailValue : Type 0 where
  pub blocks : List ℕ
  pub room : ℕ

-- the first block of a path, or 0
abbrev pub first_of : List ℕ → ℕ
first_of [] = 0
first_of (x ∷ p) = x

-- the last block of a path, or 0
abbrev pub last_of : List ℕ → ℕ
last_of [] = 0
last_of (x ∷ p) = last_from x p

-- just the blocks of the path are marked, each is within the marks, and none stands twice
pub record IsTrail (marks : List Bool) (blocks : List ℕ) : Type 0 where
  pub marked : (b : ℕ) → get_or marks b false ≡ among b blocks
  pub within : All (λ b. b < length marks) blocks
  pub apart : distinct blocks ≡ true
