-- What the laws of the commands say: where all that a command needs is there and as it has to be, only the folder and
-- memory can stop its steps.
use Rattle.std.specs.Prelude.{◌≡◌, ◌⊎◌, ℕ, ◌≤◌, List, length, Option, Some, None, Ok, Err}
use Rattle.cov_base.specs.Limits.{source_limit, file_limit}
use Rattle.cov_outside.specs.Outside.{Files}
use Rattle.gcda_format.specs.Data.{DataValue}
use Rattle.gcda_format.specs.Reading as data_reading
use Rattle.gcno_format.specs.Notes.{NotesValue}
use Rattle.gcno_format.specs.Values.{TellsNotes}
use Rattle.run_merge.specs.Merging.{merge_fault}
use Rattle.path_report.specs.Tally.{TallyValue}
use Rattle.source_code.specs.Renders.{stamp_of}
use Rattle.cov_answers.specs.declared.answers.End.{End}
use Rattle.cov_answers.specs.declared.answers.End.TheVariants as answer
use Rattle.command_steps.specs.Names.{data_name, notes_name, source_name}
use Rattle.file_commands.specs.Merge.{MergeSteps}
use Rattle.file_commands.specs.Tallied.{IsTallied}
use Rattle.file_commands.specs.Report.{ReportSteps}

-- A program's file of data is there, no longer than its limit, and read as these.
pub record HasData (files : Files) (name : List ℕ) (counts : DataValue) : Type 0 where
  pub bytes : List ℕ
  pub there : files (data_name name) ≡ Some bytes
  pub fits : length bytes ≤ file_limit
  pub reads : data_reading.told bytes ≡ Ok counts

-- Its file of notes is there, no longer than its limit, and read as these.
pub record HasNotes (files : Files) (name : List ℕ) (notes : NotesValue) : Type 0 where
  pub bytes : List ℕ
  pub there : files (notes_name name) ≡ Some bytes
  pub fits : length bytes ≤ file_limit
  pub reads : TellsNotes bytes (Ok notes)

-- Its source is there, no longer than its limit, and has the stamp of the notes.
pub record HasSource (files : Files) (name : List ℕ) (notes : NotesValue) (source : List ℕ) : Type 0 where
  pub there : files (source_name name) ≡ Some source
  pub fits : length source ≤ source_limit
  pub stamp : notes.stamp ≡ stamp_of notes.limit source

-- it has these data, or no file of data
abbrev pub HasCounts : Files → List ℕ → Option DataValue → Type 0
HasCounts files name None = files (data_name name) ≡ None
HasCounts files name (Some counts) = HasData files name counts

-- the folder failed, or memory was wanting
abbrev pub IsOutside : End → Type 0
IsOutside end = (end ≡ answer.FolderFault) ⊎ (end ≡ answer.NoMemory)

-- The data of both programs are there, and no fault stands against merging them.
abbrev pub MergeSucceeds : Type 0
MergeSucceeds = (files : Files) (a b : List ℕ) (first second : DataValue) (end : End) → HasData files a first
    → HasData files b second → merge_fault first second ≡ None → MergeSteps (Some files) a b (Err end) → IsOutside end

-- Notes and source of the program are there and belong together, and so are its data, if it has any.
abbrev pub ReportSucceeds : Type 0
ReportSucceeds = (files : Files) (name source : List ℕ) (notes : NotesValue) (counts : Option DataValue)
    (tally : TallyValue) (end : End) → HasNotes files name notes → HasSource files name notes source
    → HasCounts files name counts → IsTallied notes counts (Ok tally) → ReportSteps (Some files) name (Err end)
    → IsOutside end
