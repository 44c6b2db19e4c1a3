-- Which tally notes and data have, and the first fault where they have none.
use Rattle.std.specs.Prelude.{◌≡◌, ◌≢◌, ℕ, ◌+◌, ◌⊎◌, List, [], ◌∷◌, Result, Ok, Err}
use Rattle.cov_base.specs.declared.refusal.Refusal.{Refusal}
use Rattle.cov_base.specs.declared.refusal.Refusal.TheVariants as refusal
use Rattle.gcda_format.specs.Data.{DataValue, FunctionDataValue}
use Rattle.gcno_format.specs.Notes.{NotesValue, FunctionNotesValue}
use Rattle.function_tallies.specs.Tally.{FunctionTallyValue}
use Rattle.function_tallies.specs.Tallies.{IsTallied, FaultOf, IsOf}
use Rattle.function_tallies.specs.declared.tally.TallyFault.{TallyFault}
use Rattle.function_tallies.specs.declared.tally.TallyFault.TheVariants as fault
use Rattle.path_report.specs.Tally.{TallyValue}

-- each function has its tally, and none is lacking
abbrev pub AreTallied : ℕ → List FunctionNotesValue → List FunctionDataValue → List FunctionTallyValue → Type 0
AreTallied limit [] [] [] = Unit {0}
AreTallied limit (f ∷ fs) (d ∷ ds) (t ∷ ts) = IsTallied limit f.checksum f.net d t × AreTallied limit fs ds ts
AreTallied limit _ _ _ = ⊥

-- Of these functions, the first of which has number k, this is the first fault: each before it has a tally. A function
-- that one side lacks has another shape.
abbrev pub IsFirstOf : ℕ → ℕ → List FunctionNotesValue → List FunctionDataValue → TallyFault → Type 0
IsFirstOf limit k [] [] found = ⊥
IsFirstOf limit k [] (d ∷ ds) found = found ≡ fault.OtherShape k
IsFirstOf limit k (f ∷ fs) [] found = found ≡ fault.OtherShape k
IsFirstOf limit k (f ∷ fs) (d ∷ ds) found = FaultOf limit k f.checksum f.net d found
    ⊎ (((t : FunctionTallyValue) × IsTallied limit f.checksum f.net d t) × IsFirstOf limit (k + 1) fs ds found)

-- the first fault that stands: other stamps, those of the notes first, and then function by function
abbrev pub IsFirstFault : NotesValue → DataValue → TallyFault → Type 0
IsFirstFault notes counts (fault.OtherBuild a b) = (a ≡ notes.stamp) × (b ≡ counts.stamp) × (a ≢ b)
IsFirstFault notes counts found =
    (notes.stamp ≡ counts.stamp) × IsFirstOf notes.limit 0 notes.functions counts.functions found

-- The tally is that of the notes and the data: the runs of the data, and of each function its tally; or the fault is
-- the first that stands; want of memory says nothing.
abbrev pub Tallies : NotesValue → DataValue → Result TallyValue (Refusal TallyFault) → Type 0
Tallies notes counts (Ok t) = (notes.stamp ≡ counts.stamp) × (t.runs ≡ counts.runs)
    × AreTallied notes.limit notes.functions counts.functions t.functions
Tallies notes counts (Err (refusal.Refused found)) = IsFirstFault notes counts found
Tallies notes counts (Err refusal.NoMemory) = Unit {0}

-- each of these functions has a tally of its net and the limit
abbrev pub AreOf : ℕ → List FunctionNotesValue → List FunctionTallyValue → Type 0
AreOf limit [] [] = Unit {0}
AreOf limit (f ∷ fs) (t ∷ ts) = IsOf limit f.net t × AreOf limit fs ts
AreOf limit _ _ = ⊥

-- the tally is of these notes, function by function
abbrev pub IsTallyOf : NotesValue → TallyValue → Type 0
IsTallyOf notes tally = AreOf notes.limit notes.functions tally.functions

-- the refusal is the first fault of these functions; want of memory says nothing
abbrev pub RefusesFirst : ℕ → List FunctionNotesValue → List FunctionDataValue → Refusal TallyFault → Type 0
RefusesFirst limit fs ds (refusal.Refused found) = IsFirstOf limit 0 fs ds found
RefusesFirst limit fs ds refusal.NoMemory = Unit {0}
