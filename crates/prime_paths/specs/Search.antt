-- The search for prime paths within a limit and a budget, path by path.
use Rattle.std.specs.Prelude.{◌≡◌, ℕ, zero, suc, ◌+◌, ◌-◌, ◌*◌, ◌/◌, ◌==◌, ◌||◌, Bool, true, false, not, if◌then◌else◌, nat_lt, List, [], ◌∷◌, ◌++◌, length, Option, Some, None, Result, Ok, Err}
use Rattle.std.specs.List.{flat_map}
use Rattle.cov_base.specs.Net.{NetValue}
use Rattle.prime_paths.specs.Paths.{among}
use Rattle.prime_paths.specs.Lister.{inner_blocks, is_prime, grown_by}
use Rattle.prime_paths.specs.declared.found.Stop.{Stop}
use Rattle.prime_paths.specs.declared.found.Stop.TheVariants as stop

-- the paths found, how many may be found, and how many extensions are left
pub record FoundValue : Type 0 where
  pub paths : List (List ℕ)
  pub limit : ℕ
  pub left : ℕ

-- a search that has not stopped goes on
abbrev pub followed : Option FoundValue → (FoundValue → Option FoundValue) → Option FoundValue
followed None next = None
followed (Some found) next = next found

-- one path more is found; the search stops where there are as many as may be
abbrev pub added : List ℕ → FoundValue → Option FoundValue
added p found =
    if nat_lt (length found.paths) found.limit then Some (record found { paths = found.paths ++ p ∷ [] }) else None

-- a path is found if it is prime
abbrev pub noted : NetValue → List ℕ → FoundValue → Option FoundValue
noted net p found = if is_prime net p then added p found else Some found

-- an extension is charged; the search stops where none is left
abbrev pub charged : FoundValue → Option FoundValue
charged found = if found.left == 0 then None else Some (record found { left = found.left - 1 })

-- a path has two or more blocks
abbrev pub is_long : List ℕ → Bool
is_long (x ∷ (y ∷ p)) = true
is_long _ = false

-- the search comes to a path: a path of two or more blocks is an extension
abbrev pub visit : NetValue → List ℕ → FoundValue → Option FoundValue
visit net p found = if is_long p then followed (charged found) (noted net p) else noted net p found

-- the search comes to these paths, one after another
abbrev pub visits : NetValue → List (List ℕ) → FoundValue → Option FoundValue
visits net [] found = Some found
visits net (p ∷ ps) found = followed (visit net p found) (visits net ps)

-- the simple paths that begin with the path, other than the path, and are at most so many blocks longer
abbrev pub beyond : NetValue → ℕ → List ℕ → List (List ℕ)
beyond net zero p = []
beyond net (suc n) p = flat_map (grown_by net n p) (inner_blocks net)

-- the search has come to a path, and comes to those that begin with it
abbrev pub from_path : NetValue → ℕ → List ℕ → FoundValue → Option FoundValue
from_path net n p found = followed (noted net p found) (visits net (beyond net n p))

-- what is found in the end, or that the search stops; want of memory says nothing
abbrev pub Comes : Option FoundValue → FoundValue → Result Unit Stop → Type 0
Comes search found (Ok _) = search ≡ Some found
Comes search found (Err stop.LimitPassed) = search ≡ None
Comes search found (Err stop.NoMemory) = Unit {0}

-- the block is none of the path, or it is the end
abbrev pub is_open : List ℕ → ℕ → ℕ → Bool
is_open p end b = (b == end) || not (among b p)

-- how many simple paths of two or more blocks are extended at most
abbrev pub budget : ℕ → ℕ → ℕ
budget blocks limit = limit * ((blocks + 1) * (blocks + 2)) / 2
