-- Faults of worked notes and data.
use Rattle.std.proofs.Common.{◌≡◌, ◌≢◌, refl, ℕ, List, [], ◌∷◌, arith}
use Rattle.std.specs.Prelude.{Ok, Err}
use Rattle.cov_base.specs.declared.refusal.Refusal.TheVariants as refusal
use Rattle.gcda_format.specs.Data.{DataValue, FunctionDataValue}
use Rattle.gcno_format.specs.Notes.{NotesValue, FunctionNotesValue}
use Rattle.function_tallies.specs.declared.tally.TallyFault.TheVariants as fault
use Rattle.path_report.specs.Tally.{TallyValue}
use Rattle.path_report.specs.Tallies.{Tallies}

abbrev notes : ℕ → List FunctionNotesValue → NotesValue
notes stamp functions = record { stamp = stamp; limit = 10000; functions = functions }

abbrev left : ℕ → List FunctionDataValue → DataValue
left stamp functions = record { stamp = stamp; runs = 1; functions = functions }

no_function_at_all : Tallies (notes 1 []) (left 1 []) (Ok (record { runs = 1; functions = [] }))
no_function_at_all = (refl, refl, tt)

notes_come_first_of_two_stamps : Tallies (notes 1 []) (left 2 []) (Err (refusal.Refused (fault.OtherBuild 1 2)))
notes_come_first_of_two_stamps = (refl, refl, λ e. omega (arith, e))

counts_of_no_function : (d : FunctionDataValue)
    → Tallies (notes 1 []) (left 1 (d ∷ [])) (Err (refusal.Refused (fault.OtherShape 0)))
counts_of_no_function d = (refl, refl)

function_without_counts : (f : FunctionNotesValue)
    → Tallies (notes 1 (f ∷ [])) (left 1 []) (Err (refusal.Refused (fault.OtherShape 0)))
function_without_counts f = (refl, refl)
