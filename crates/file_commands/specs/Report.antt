-- What `report NAME` does: it loads the notes of NAME, its source, which has to be the one that the notes are of, and
-- its data, if there are any; and it writes the report.
use Rattle.std.specs.Prelude.{◌≡◌, ◌≢◌, ℕ, List, Option, Some, None, IfSome, Result, Ok, Err}
use Rattle.cov_base.specs.Limits.{source_limit}
use Rattle.cov_outside.specs.Outside.{Files}
use Rattle.gcda_format.specs.Data.{DataValue}
use Rattle.gcno_format.specs.Notes.{NotesValue}
use Rattle.path_report.specs.Report.{report_text}
use Rattle.source_code.specs.Renders.{stamp_of}
use Rattle.cov_answers.specs.declared.answers.End.{End}
use Rattle.cov_answers.specs.declared.answers.End.TheVariants as answer
use Rattle.command_steps.specs.Names.{source_name, data_name}
use Rattle.command_steps.specs.Steps.{Then, Makes}
use Rattle.command_steps.specs.Files.{LoadsFile, NotesAt, DataAt}
use Rattle.file_commands.specs.Tallied.{IsTallied}

-- the text has the stamp of the notes; or the answer tells both stamps, which differ
abbrev pub IsNoted : NotesValue → List ℕ → Result (List ℕ) End → Type 0
IsNoted notes text (Ok same) = (same ≡ text) × (notes.stamp ≡ stamp_of notes.limit text)
IsNoted notes text (Err (answer.SourceChanged noted given)) =
    (noted ≡ notes.stamp) × (given ≡ stamp_of notes.limit text) × (noted ≢ given)
IsNoted notes text (Err end) = ⊥

-- the source that the notes are of
abbrev pub SourceAt : Option Files → List ℕ → NotesValue → Result (List ℕ) End → Type 0
SourceAt files name notes = Then (LoadsFile files (source_name name) source_limit) (IsNoted notes)

-- the data of a program, or none where it has no such file
abbrev pub FindsData : Option Files → List ℕ → Result (Option DataValue) End → Type 0
FindsData files name (Ok None) = IfSome files (λ f. f (data_name name) ≡ None)
FindsData files name (Ok (Some counts)) = DataAt files name (Ok counts)
FindsData files name (Err (answer.Missing missing)) = ⊥
FindsData files name (Err end) = DataAt files name (Err end)

-- the steps from the notes, the source and the data to the text of the report
abbrev pub TextSteps : List ℕ → List ℕ → NotesValue → Option DataValue → Result (List ℕ) End → Type 0
TextSteps name source notes counts =
    Then (IsTallied notes counts) (λ tally. Makes (report_text name source notes tally))

-- the steps from the notes and the source
abbrev pub DataSteps : Option Files → List ℕ → NotesValue → List ℕ → Result (List ℕ) End → Type 0
DataSteps files name notes source = Then (FindsData files name) (TextSteps name source notes)

-- the steps from the notes
abbrev pub SourceSteps : Option Files → List ℕ → NotesValue → Result (List ℕ) End → Type 0
SourceSteps files name notes = Then (SourceAt files name notes) (DataSteps files name notes)

-- the steps to the text of the report
abbrev pub ReportSteps : Option Files → List ℕ → Result (List ℕ) End → Type 0
ReportSteps files name = Then (NotesAt files name) (SourceSteps files name)

-- the answer of a report of which nothing was written
abbrev pub IsUnwritten : End → Type 0
IsUnwritten answer.Done = ⊥
IsUnwritten answer.WriteFault = ⊥
IsUnwritten answer.NoMemory = ⊥
IsUnwritten _ = Unit {0}
