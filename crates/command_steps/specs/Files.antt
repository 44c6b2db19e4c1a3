-- Files that a command loads, where they are told.
use Rattle.std.specs.Prelude.{◌≡◌, ℕ, ◌<◌, ◌≤◌, List, length, Option, Some, None, IfSome, Result, Ok, Err, string_bytes}
use Rattle.cov_base.specs.Limits.{file_limit}
use Rattle.cov_base.specs.declared.refusal.Refusal.TheVariants as refusal
use Rattle.cov_outside.specs.Outside.{Files}
use Rattle.stack_ops.specs.Code.{CodeValue}
use Rattle.code_file.specs.Reading as code_reading
use Rattle.code_file.specs.Taking as code_taking
use Rattle.gcov_records.specs.Reading.{Tells}
use Rattle.gcda_format.specs.Data.{DataValue}
use Rattle.gcda_format.specs.Reading as data_reading
use Rattle.gcno_format.specs.Notes.{NotesValue}
use Rattle.gcno_format.specs.Values.{TellsNotes}
use Rattle.cov_answers.specs.declared.answers.End.{End}
use Rattle.cov_answers.specs.declared.answers.End.TheVariants as answer
use Rattle.command_steps.specs.Names.{code_name, data_name, notes_name}
use Rattle.command_steps.specs.Steps.{Then}

-- The file is there and longer than the limit.
pub record IsOver (files : Files) (name : List ℕ) (limit : ℕ) : Type 0 where
  pub bytes : List ℕ
  pub there : files name ≡ Some bytes
  pub long : limit < length bytes

-- A file is loaded: it is there and no longer than the limit; or the command ends because it isn't there, is longer,
-- couldn't be read, or because memory ran out.
abbrev pub LoadsFile : Option Files → List ℕ → ℕ → Result (List ℕ) End → Type 0
LoadsFile files name limit (Ok bytes) = IfSome files (λ f. f name ≡ Some bytes) × (length bytes ≤ limit)
LoadsFile files name limit (Err (answer.Missing missing)) =
    (string_bytes missing ≡ name) × IfSome files (λ f. f name ≡ None)
LoadsFile files name limit (Err (answer.TooLong long)) = (string_bytes long ≡ name) × IfSome files (λ f. IsOver f name limit)
LoadsFile files name limit (Err answer.FolderFault) = Unit {0}
LoadsFile files name limit (Err answer.NoMemory) = Unit {0}
LoadsFile files name limit _ = ⊥

-- bytes are read as data, or a fault stands in them
abbrev pub ReadsData : List ℕ → Result DataValue End → Type 0
ReadsData bytes (Ok counts) = data_reading.told bytes ≡ Ok counts
ReadsData bytes (Err (answer.BadData fault)) = data_reading.told bytes ≡ Err fault
ReadsData bytes (Err answer.NoMemory) = Unit {0}
ReadsData bytes _ = ⊥

-- bytes are read as notes, or a fault stands in them
abbrev pub ReadsNotes : List ℕ → Result NotesValue End → Type 0
ReadsNotes bytes (Ok notes) = TellsNotes bytes (Ok notes)
ReadsNotes bytes (Err (answer.BadNotes fault)) = TellsNotes bytes (Err (refusal.Refused fault))
ReadsNotes bytes (Err answer.NoMemory) = Unit {0}
ReadsNotes bytes _ = ⊥

-- bytes are read as a code, or a fault stands in them
abbrev pub ReadsCode : List ℕ → Result CodeValue End → Type 0
ReadsCode bytes (Ok code) = code_reading.told bytes ≡ code_reading.File code
ReadsCode bytes (Err (answer.BadCode fault)) = code_reading.told bytes ≡ code_reading.Fault fault
ReadsCode bytes (Err answer.NoMemory) = Unit {0}
ReadsCode bytes _ = ⊥

-- the data of a program
abbrev pub DataAt : Option Files → List ℕ → Result DataValue End → Type 0
DataAt files name = Then (LoadsFile files (data_name name) file_limit) ReadsData

-- its notes
abbrev pub NotesAt : Option Files → List ℕ → Result NotesValue End → Type 0
NotesAt files name = Then (LoadsFile files (notes_name name) file_limit) ReadsNotes

-- its code
abbrev pub CodeAt : Option Files → List ℕ → Result CodeValue End → Type 0
CodeAt files name = Then (LoadsFile files (code_name name) file_limit) ReadsCode
