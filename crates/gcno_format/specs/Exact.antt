-- What the reader's answers say of the bytes.
use Rattle.std.specs.Prelude.{◌≡◌, ℕ, ◌⊎◌, List, ◌++◌, length, Result, Ok, Err}
use Rattle.cov_base.specs.declared.refusal.Refusal.{Refusal}
use Rattle.cov_base.specs.declared.refusal.Refusal.TheVariants as refusal
use Rattle.gcov_records.specs.declared.fault.FileFault.{FileFault}
use Rattle.gcov_records.specs.declared.fault.FileFault.TheVariants as fault
use Rattle.gcno_format.specs.Notes.{NotesValue}
use Rattle.gcno_format.specs.Spelling.{notes_bytes, IsNotes}
use Rattle.gcno_format.specs.Layout.{FileValue}
use Rattle.gcno_format.specs.Reading.{laid_out}
use Rattle.gcno_format.specs.Values.{TellsNotes}

-- items fill the bytes, none is due, and each keeps its rules
abbrev pub IsLaidOut : List ℕ → Type 0
IsLaidOut bytes = (file : FileValue) × (laid_out bytes ≡ Ok file)

-- Notes are told exactly of bytes that are their file, and of such bytes nothing else, unless memory runs out. Where the
-- bytes are said to end too early, it is at their end; and where more bytes make them laid out, they are so themselves,
-- as notes without their last record may be, or end too early.
pub record IsExactly (bytes : List ℕ) : Type 0 where
  pub ok : (n : NotesValue) → TellsNotes bytes (Ok n) → IsNotes n × (bytes ≡ notes_bytes n)
  pub only : (n : NotesValue) (answer : Result NotesValue (Refusal FileFault)) → IsNotes n → bytes ≡ notes_bytes n
      → TellsNotes bytes answer → (answer ≡ Ok n) ⊎ (answer ≡ Err refusal.NoMemory)
  pub short : (at : ℕ) → TellsNotes bytes (Err (refusal.Refused (fault.Short at))) → at ≡ length bytes
  pub front : (more : List ℕ) → IsLaidOut (bytes ++ more)
      → IsLaidOut bytes ⊎ (laid_out bytes ≡ Err (fault.Short (length bytes)))
