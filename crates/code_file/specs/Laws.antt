-- Laws of code files.
use Rattle.std.specs.Prelude.{◌≡◌, ℕ, ◌<◌, List, [], ◌++◌, length, None}
use Rattle.std.specs.List.{All}
use Rattle.stack_ops.specs.Code.{CodeValue}
use Rattle.code_runs.specs.CodeChecks.{code_fault}
use Rattle.code_file.specs.declared.fault.CodeFault.TheVariants as fault
use Rattle.code_file.specs.Reading.{Told, File, Fault, told}
use Rattle.code_file.specs.InWords.{IsCodeInWords}
use Rattle.code_file.specs.Spelling.{code_bytes}
use Rattle.code_file.specs.Told.{Items, with_items}

-- Bytes that are the file of a code are its spelling, and the code breaks no rule.
abbrev pub FilesAreSpelled : Type 0
FilesAreSpelled =
    (bytes : List ℕ) → All (λ b. b < 256) bytes → (c : CodeValue) → told bytes ≡ File c
    → (bytes ≡ code_bytes c) × (code_fault c ≡ None)

-- items fill the bytes, none is due at their end, and each item is one that may stand
abbrev pub IsLaid : List ℕ → Type 0
IsLaid bytes =
    (i : Items) × ((then : Items → List ℕ → ℕ → Told) → with_items bytes then ≡ then i [] (length bytes))

-- each file is laid out
abbrev pub FilesAreLaid : Type 0
FilesAreLaid = (bytes : List ℕ) (c : CodeValue) → told bytes ≡ File c → IsLaid bytes

-- A proper front of what is laid out ends too early, with its length as the place.
abbrev pub FrontsAreShort : Type 0
FrontsAreShort =
    (front more : List ℕ) → 0 < length more → IsLaid (front ++ more) → told front ≡ Fault (fault.Short (length front))

-- no file is a proper front of another
abbrev pub NoneIsFront : Type 0
NoneIsFront =
    (front more : List ℕ) (c d : CodeValue) → told front ≡ File c → told (front ++ more) ≡ File d → more ≡ []

-- bytes that end too early do so at their end
abbrev pub ShortIsEnd : Type 0
ShortIsEnd = (bytes : List ℕ) (n : ℕ) → told bytes ≡ Fault (fault.Short n) → n ≡ length bytes

-- What stands behind what is laid out is told at its place, before all else.
abbrev pub MoreIsExtra : Type 0
MoreIsExtra =
    (front more : List ℕ) → 0 < length more → IsLaid front → told (front ++ more) ≡ Fault (fault.Extra (length front))

-- and only that is
abbrev pub ExtraIsMore : Type 0
ExtraIsMore =
    (bytes : List ℕ) (n : ℕ) → told bytes ≡ Fault (fault.Extra n)
    → (front more : List ℕ) × (bytes ≡ front ++ more) × (0 < length more) × (n ≡ length front) × IsLaid front

-- The spelling of a code that breaks no rule, and whose numbers fit words, is the file of this code.
abbrev pub SpelledIsRead : Type 0
SpelledIsRead = (c : CodeValue) → code_fault c ≡ None → IsCodeInWords c → told (code_bytes c) ≡ File c
