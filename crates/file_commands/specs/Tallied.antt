-- The tally of a program's notes with its data, or without any.
use Rattle.std.specs.Prelude.{◌≡◌, ◌⊎◌, ℕ, pos, List, [], ◌∷◌, length, replicate, Option, Some, None, Result, Ok, Err}
use Rattle.cov_base.specs.declared.refusal.Refusal.TheVariants as refusal
use Rattle.prime_paths.specs.Listings.{Lists}
use Rattle.prime_paths.specs.declared.listing.Listing.{Listing}
use Rattle.prime_paths.specs.declared.listing.Listing.TheVariants as listing
use Rattle.path_masks.specs.Masks.{width}
use Rattle.gcda_format.specs.Data.{DataValue}
use Rattle.gcno_format.specs.Notes.{NotesValue, FunctionNotesValue}
use Rattle.function_tallies.specs.Tally.{FunctionTallyValue}
use Rattle.function_tallies.specs.declared.tally.TallyFault.{TallyFault}
use Rattle.function_tallies.specs.declared.tally.TallyFault.TheVariants as fault
use Rattle.path_report.specs.Tally.{TallyValue}
use Rattle.path_report.specs.Tallies.{Tallies}
use Rattle.cov_answers.specs.declared.answers.End.{End}
use Rattle.cov_answers.specs.declared.answers.End.TheVariants as answer

-- the answer to why notes and data have no tally
abbrev pub answer_of : TallyFault → End
answer_of (fault.OtherBuild a b) = answer.OtherBuild a b
answer_of (fault.OtherShape function) = answer.OtherShape function
answer_of (fault.NotAFlow function arc) = answer.NotAFlow function arc

-- how many words the listed paths need
abbrev pub words_for : Listing → ℕ
words_for (listing.All paths) = width paths
words_for listing.LimitPassed = 0

-- a function of which nothing was run: each arc has the number 0, its prime paths are listed, and none is covered
pub record IsUnrun (limit : ℕ) (f : FunctionNotesValue) (t : FunctionTallyValue) : Type 0 where
  pub arcs : t.arcs ≡ replicate (length f.net.arcs) (pos 0)
  pub lists : Lists f.net limit (Ok t.listing)
  pub bits : t.bits ≡ replicate (words_for t.listing) 0

-- each of these functions is so
abbrev pub AreUnrun : ℕ → List FunctionNotesValue → List FunctionTallyValue → Type 0
AreUnrun limit [] [] = Unit {0}
AreUnrun limit (f ∷ fs) (t ∷ ts) = IsUnrun limit f t × AreUnrun limit fs ts
AreUnrun limit _ _ = ⊥

-- the tally of notes where no run was made
pub record IsEmptyTally (notes : NotesValue) (t : TallyValue) : Type 0 where
  pub runs : t.runs ≡ 0
  pub functions : AreUnrun notes.limit notes.functions t.functions

-- The tally of notes and data, or the answer to the first fault that stands; that of no run where there are no data.
abbrev pub IsTallied : NotesValue → Option DataValue → Result TallyValue End → Type 0
IsTallied notes None (Ok t) = IsEmptyTally notes t
IsTallied notes None (Err end) = end ≡ answer.NoMemory
IsTallied notes (Some counts) (Ok t) = Tallies notes counts (Ok t)
IsTallied notes (Some counts) (Err end) = (end ≡ answer.NoMemory)
    ⊎ ((found : TallyFault) × Tallies notes counts (Err (refusal.Refused found)) × (end ≡ answer_of found))
