-- Which tally the counts of a function have, and the first fault where they have none.
use Rattle.std.specs.Prelude.{◌≡◌, ℕ, ℤ, pos, ◌/◌, ◌%◌, ◌^◌, ◌≤◌, ◌≤ℤ◌, ◌==◌, ◌&&◌, Bool, true, List, length, slice_index_or, Some, None, Result, Ok, Err}
use Rattle.std.specs.List.{All, position}
use Rattle.cov_base.specs.Net.{NetValue}
use Rattle.cov_base.specs.declared.refusal.Refusal.{Refusal}
use Rattle.cov_base.specs.declared.refusal.Refusal.TheVariants as refusal
use Rattle.prime_paths.specs.Listings.{Lists}
use Rattle.prime_paths.specs.declared.listing.Listing.{Listing}
use Rattle.prime_paths.specs.declared.listing.Listing.TheVariants as listing
use Rattle.path_masks.specs.Masks.{width}
use Rattle.span_tree.specs.Tree.{off}
use Rattle.flow_solver.specs.Circulation.{Circulation, is_negative}
use Rattle.gcda_format.specs.Data.{FunctionDataValue, count_limit}
use Rattle.function_tallies.specs.Tally.{FunctionTallyValue}
use Rattle.function_tallies.specs.declared.tally.TallyFault.{TallyFault}
use Rattle.function_tallies.specs.declared.tally.TallyFault.TheVariants as fault

-- No bit at or above the number is set in these words, which are at most as many as so many bits need: nothing is left
-- of the word of that bit without those below it, where there is such a word.
abbrev pub ends_below : ℕ → List ℕ → Bool
ends_below n words = slice_index_or words (n / 64) 0 / 2 ^ (n % 64) == 0

-- The words are those of the prime paths that are listed, 64 in a word, and have no bit past them; where there are too
-- many paths there is no word.
abbrev pub fits_paths : Listing → List ℕ → Bool
fits_paths (listing.All paths) words = (length words == width paths) && ends_below (length paths) words
fits_paths listing.LimitPassed words = length words == 0

-- The counts of a function are of the shape that its net gives: they have its known checksum, a counter for each arc off its
-- tree, and the words of its prime paths up to the limit.
pub record HasShape (limit known : ℕ) (net : NetValue) (d : FunctionDataValue) : Type 0 where
  pub checksum : d.checksum ≡ known
  pub counters : length d.counters ≡ length (off net)
  pub listing : Listing
  pub lists : Lists net limit (Ok listing)
  pub words : fits_paths listing d.bits ≡ true

-- The counts are of this shape, and the tally has the only numbers on the arcs that agree with the counters and
-- balance, of which none is negative; the prime paths, or that there are more than the limit; and the bits.
pub record IsTallied (limit checksum : ℕ) (net : NetValue) (d : FunctionDataValue) (t : FunctionTallyValue)
    : Type 0 where
  pub shape : HasShape limit checksum net d
  pub numbers : Circulation net d.counters t.arcs
  pub flow : position is_negative t.arcs ≡ None
  pub lists : Lists net limit (Ok t.listing)
  pub bits : t.bits ≡ d.bits

-- The counts of the function of number k have another shape, or the shape and the first negative number on this arc.
abbrev pub FaultOf : ℕ → ℕ → ℕ → NetValue → FunctionDataValue → TallyFault → Type 0
FaultOf limit k checksum net d (fault.OtherShape n) = (n ≡ k) × (HasShape limit checksum net d → ⊥)
FaultOf limit k checksum net d (fault.NotAFlow n arc) = (n ≡ k) × HasShape limit checksum net d
    × ((numbers : List ℤ) × Circulation net d.counters numbers × (position is_negative numbers ≡ Some arc))
FaultOf limit k checksum net d _ = ⊥

-- the function of number k has this tally, or this fault; want of memory says nothing
abbrev pub TalliesFunction : ℕ → ℕ → ℕ → NetValue → FunctionDataValue
    → Result FunctionTallyValue (Refusal TallyFault) → Type 0
TalliesFunction limit k checksum net d (Ok t) = IsTallied limit checksum net d t
TalliesFunction limit k checksum net d (Err (refusal.Refused found)) = FaultOf limit k checksum net d found
TalliesFunction limit k checksum net d (Err refusal.NoMemory) = Unit {0}

-- each counter is at most 2^63 - 1
abbrev pub HasCounts : FunctionDataValue → Type 0
HasCounts d = All (λ n. n ≤ count_limit) d.counters

-- The tally of a function is of this net and limit: it has a number for each arc, from 0 to 2^80, the prime paths, or
-- that there are more than the limit, and their words.
pub record IsOf (limit : ℕ) (net : NetValue) (t : FunctionTallyValue) : Type 0 where
  pub long : length t.arcs ≡ length net.arcs
  pub numbers : All (λ n. (pos 0 ≤ℤ n) × (n ≤ℤ pos (2 ^ 80))) t.arcs
  pub lists : Lists net limit (Ok t.listing)
  pub words : fits_paths t.listing t.bits ≡ true
