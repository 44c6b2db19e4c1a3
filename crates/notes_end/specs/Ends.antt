-- Where the file of notes ends, and bytes stand behind it.
use Rattle.std.specs.Prelude.{◌≡◌, ◌≢◌, ◌≤◌, ℕ, ◌==◌, ◌&&◌, ◌||◌, ◌⊎◌, Bool, false, List, [], ◌∷◌, ◌++◌, length}
use Rattle.std.specs.Prelude.{Result, Ok, Err}
use Rattle.cov_base.specs.declared.refusal.Refusal.{Refusal}
use Rattle.cov_base.specs.declared.refusal.Refusal.TheVariants as refusal
use Rattle.gcov_items.specs.Items.{word_bytes}
use Rattle.gcov_records.specs.declared.fault.FileFault.{FileFault}
use Rattle.gcov_records.specs.declared.fault.FileFault.TheVariants as fault
use Rattle.gcno_format.specs.Notes.{NotesValue, word_limit}
use Rattle.gcno_format.specs.Spelling.{arc_tag, line_tag}
use Rattle.gcno_format.specs.Layout.{LayoutValue, FileValue, is_without_lines}
use Rattle.gcno_format.specs.Reading.{laid_out}
use Rattle.gcno_format.specs.Values.{TellsNotes}

-- a record with this tag may stand behind those of the function: one of lines, or one of arcs before the first of lines
abbrev pub goes_on : LayoutValue → ℕ → Bool
goes_on l tag = (tag == line_tag) || ((tag == arc_tag) && is_without_lines l)

-- a whole word stands there that is the tag of no record that may stand behind those of the function
pub record IsBarred (l : LayoutValue) (bytes : List ℕ) : Type 0 where
  pub tag : ℕ
  pub rest : List ℕ
  pub word : tag ≤ word_limit
  pub parts : bytes ≡ word_bytes tag ++ rest
  pub none : goes_on l tag ≡ false

-- a file of these functions doesn't go on with the bytes: one without functions never does, and another does so with
-- a record of its last function alone
abbrev pub EndsBefore : List LayoutValue → List ℕ → Type 0
EndsBefore [] bytes = Unit {0}
EndsBefore (l ∷ []) bytes = IsBarred l bytes
EndsBefore (l ∷ next ∷ ls) bytes = EndsBefore (next ∷ ls) bytes

-- the bytes are the records of a file, of so many bytes, and more that it doesn't go on with
pub record HasBehind (bytes : List ℕ) (n : ℕ) : Type 0 where
  pub front : List ℕ
  pub more : List ℕ
  pub file : FileValue
  pub parts : bytes ≡ front ++ more
  pub some : more ≢ []
  pub reads : laid_out front ≡ Ok file
  pub ends : EndsBefore file.functions more
  pub size : n ≡ length front

-- Extra is told exactly of bytes that stand so behind a file, at its end, and of such bytes nothing else, unless memory
-- runs out.
pub record IsExtraExactly (bytes : List ℕ) : Type 0 where
  pub extra : (n : ℕ) → TellsNotes bytes (Err (refusal.Refused (fault.Extra n))) → HasBehind bytes n
  pub more : (n : ℕ) (answer : Result NotesValue (Refusal FileFault)) → HasBehind bytes n → TellsNotes bytes answer
      → (answer ≡ Err (refusal.Refused (fault.Extra n))) ⊎ (answer ≡ Err refusal.NoMemory)
