-- What the tally of a program is where its runs went these walks.
use Rattle.std.specs.Prelude.{◌≡◌, ℕ, suc, List, [], ◌∷◌, Some, slice_get, Ok}
use Rattle.cov_base.specs.Net.{NetValue, IsNet}
use Rattle.cov_base.specs.Walks.{Walk}
use Rattle.prime_paths.specs.Listings.{Lists}
use Rattle.prime_paths.specs.Paths.{ArePrimes}
use Rattle.covered_runs.specs.CoveredWalks.{walks_of}
use Rattle.gcno_format.specs.Notes.{FunctionNotesValue, NotesValue}
use Rattle.function_tallies.specs.Tally.{FunctionTallyValue}
use Rattle.path_report.specs.Tally.{TallyValue}
use Rattle.walk_counts.specs.WholeWalks.{AllGoThrough, passages_of}
use Rattle.walk_counts.specs.WalkData.{bits_within}

-- The tally of function i is that of the walks: for each arc of its net its passages, the prime paths or that there are
-- more than the limit, and the bits of those that some walk of the function contains.
pub record IsFunctionTallyOf (limit : ℕ) (net : NetValue) (i : ℕ) (walks : List Walk) (t : FunctionTallyValue)
    : Type 0 where
  pub arcs : t.arcs ≡ passages_of net i walks
  pub lists : Lists net limit (Ok t.listing)
  pub primes : List (List ℕ)
  pub primes_are : ArePrimes net primes
  pub bits : t.bits ≡ bits_within limit primes (walks_of i walks)

-- so are the tallies of these functions, of which the first has the number i, and none is lacking
abbrev pub AreFunctionTalliesOf : ℕ → ℕ → List FunctionNotesValue → List Walk → List FunctionTallyValue → Type 0
AreFunctionTalliesOf limit i [] walks [] = Unit {0}
AreFunctionTalliesOf limit i (f ∷ fs) walks (t ∷ ts) =
    IsFunctionTallyOf limit f.net i walks t × AreFunctionTalliesOf limit (suc i) fs walks ts
AreFunctionTalliesOf limit i _ walks _ = ⊥

-- The tally is that of so many runs that went these walks, in the program with these notes.
pub record IsTallyOfWalks (notes : NotesValue) (runs : ℕ) (walks : List Walk) (tally : TallyValue) : Type 0 where
  pub runs_are : tally.runs ≡ runs
  pub functions : AreFunctionTalliesOf notes.limit 0 notes.functions walks tally.functions

-- the nets of these notes are nets, and the walks of each function go through its net
pub record GoThroughNets (notes : NotesValue) (walks : List Walk) : Type 0 where
  pub nets : (i : ℕ) (f : FunctionNotesValue) → slice_get notes.functions i ≡ Some f → IsNet f.net
  pub through : (i : ℕ) (f : FunctionNotesValue) → slice_get notes.functions i ≡ Some f → AllGoThrough f.net i walks
