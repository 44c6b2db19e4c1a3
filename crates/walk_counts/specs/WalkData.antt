-- What the data of a program are where its runs went these walks.
use Rattle.std.specs.Prelude.{◌≡◌, ℕ, suc, nat_le, cond, List, [], ◌∷◌, length}
use Rattle.cov_base.specs.Net.{NetValue}
use Rattle.cov_base.specs.Walks.{Walk}
use Rattle.prime_paths.specs.Paths.{ArePrimes}
use Rattle.path_masks.specs.Masks.{bits_of}
use Rattle.covered_runs.specs.CoveredWalks.{counters_of, walks_of}
use Rattle.gcda_format.specs.Data.{FunctionDataValue, DataValue}
use Rattle.gcno_format.specs.Notes.{FunctionNotesValue, NotesValue}

-- the bits of those of these paths that some walk contains, or no words where the paths are more than the limit
abbrev pub bits_within : ℕ → List (List ℕ) → List (List ℕ) → List ℕ
bits_within limit paths walks = cond (nat_le (length paths) limit) (bits_of paths walks) []

-- The data of function i are those of the walks: they have the known checksum of its net, for each arc off the tree its
-- passages, and the bits of the prime paths that some walk of the function contains.
pub record IsFunctionDataOf (limit known : ℕ) (net : NetValue) (i : ℕ) (walks : List Walk) (d : FunctionDataValue)
    : Type 0 where
  pub checksum : d.checksum ≡ known
  pub counters : d.counters ≡ counters_of net i walks
  pub primes : List (List ℕ)
  pub primes_are : ArePrimes net primes
  pub bits : d.bits ≡ bits_within limit primes (walks_of i walks)

-- so are the data of these functions, of which the first has the number i, and none is lacking
abbrev pub AreFunctionDataOf : ℕ → ℕ → List FunctionNotesValue → List Walk → List FunctionDataValue → Type 0
AreFunctionDataOf limit i [] walks [] = Unit {0}
AreFunctionDataOf limit i (f ∷ fs) walks (d ∷ ds) =
    IsFunctionDataOf limit f.checksum f.net i walks d × AreFunctionDataOf limit (suc i) fs walks ds
AreFunctionDataOf limit i _ walks _ = ⊥

-- The data are those of so many runs that went these walks, in the program with these notes.
pub record IsDataOf (notes : NotesValue) (runs : ℕ) (walks : List Walk) (counts : DataValue) : Type 0 where
  pub stamp : counts.stamp ≡ notes.stamp
  pub runs_are : counts.runs ≡ runs
  pub functions : AreFunctionDataOf notes.limit 0 notes.functions walks counts.functions
