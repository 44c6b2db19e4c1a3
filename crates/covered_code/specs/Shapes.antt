-- What the functions of a code that counts are made by.
use Rattle.std.specs.Prelude.{◌≡◌, ℕ, ◌<◌, ◌≤◌, nat_le, cond, List, [], ◌∷◌, length, Option, Some, None}
use Rattle.cov_base.specs.Net.{NetValue}
use Rattle.flow_graph.specs.Graph.{Graph}
use Rattle.flow_graph.specs.Nets.{net_of}
use Rattle.prime_paths.specs.Paths.{ArePrimes}
use Rattle.path_masks.specs.Masks.{bits_of}
use Rattle.path_masks.specs.Tables.{RowsValue, AreRows}
use Rattle.span_tree.specs.Tree.{off}
use Rattle.stack_code.specs.Modes.{ShapeValue}
use Rattle.gcno_format.specs.Spelling.{checksum_of}

-- The rows, if any, and the number of the paths that are listed, where the prime paths of a net are these: they are
-- listed where they are some and no more than the limit.
pub data IsListedBy (net : NetValue) (limit : ℕ) (paths : List (List ℕ)) : Option RowsValue → ℕ → Type 0 where
  listed : {rows : RowsValue} {count : ℕ} → length paths ≤ limit → AreRows net.arcs paths rows → count ≡ length paths
      → 0 < count → IsListedBy net limit paths (Some rows) count
  none : paths ≡ [] → IsListedBy net limit paths None 0
  past : limit < length paths → IsListedBy net limit paths None 0

-- the rows and the number of listed paths are those of the prime paths of the net
pub record IsListed (net : NetValue) (limit : ℕ) (rows : Option RowsValue) (count : ℕ) : Type 0 where
  pub paths : List (List ℕ)
  pub primes : ArePrimes net paths
  pub by : IsListedBy net limit paths rows count

-- how many of so many paths are listed: all of them, or none where they are more than the limit
abbrev pub count_within : ℕ → ℕ → ℕ
count_within limit n = cond (nat_le n limit) n 0

-- the bits of those of these paths that some walk contains, or no words where the paths are more than the limit
abbrev pub bits_within : ℕ → List (List ℕ) → List (List ℕ) → List ℕ
bits_within limit paths walks = cond (nat_le (length paths) limit) (bits_of paths walks) []

-- the shape of a graph: its net, the arcs off the net's tree, the rows of its listed paths, and the net's checksum
pub record IsMade (limit : ℕ) (g : Graph) (s : ShapeValue) : Type 0 where
  pub net : s.net ≡ net_of g
  pub plan : s.plan ≡ off (net_of g)
  pub rows : IsListed (net_of g) limit s.rows s.paths
  pub checksum_is : s.checksum ≡ checksum_of (net_of g)

-- the shapes of graphs, in order
abbrev pub AreMade : ℕ → List Graph → List ShapeValue → Type 0
AreMade limit [] [] = Unit {0}
AreMade limit (g ∷ gs) (s ∷ shapes) = IsMade limit g s × AreMade limit gs shapes
AreMade limit _ _ = ⊥
