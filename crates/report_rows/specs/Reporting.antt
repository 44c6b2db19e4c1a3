-- The report that notes and data have.
use Rattle.std.specs.Prelude.{◌≡◌, ℕ, List, Ok}
use Rattle.cov_base.specs.declared.refusal.Refusal.{Refusal}
use Rattle.cov_base.specs.declared.refusal.Refusal.TheVariants as refusal
use Rattle.function_tallies.specs.declared.tally.TallyFault.{TallyFault}
use Rattle.gcda_format.specs.Data.{DataValue}
use Rattle.gcno_format.specs.Notes.{NotesValue}
use Rattle.path_report.specs.Report.{report_text}
use Rattle.path_report.specs.Tallies.{Tallies, IsFirstFault}
use Rattle.path_report.specs.Tally.{TallyValue}

-- the text is the report of the tally that the notes and the data have
abbrev pub IsReport : List ℕ → List ℕ → NotesValue → DataValue → List ℕ → Type 0
IsReport name source notes counts text = (t : TallyValue) × Tallies notes counts (Ok t)
    × (text ≡ report_text name source notes t)

-- the refusal is the first fault that stands; want of memory says nothing
abbrev pub Refuses : NotesValue → DataValue → Refusal TallyFault → Type 0
Refuses notes counts (refusal.Refused found) = IsFirstFault notes counts found
Refuses notes counts refusal.NoMemory = Unit {0}
