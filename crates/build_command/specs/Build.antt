-- What `build [--plain] [--path-limit N] SRC` does: it loads SRC and compiles it; unless the code is to be plain, it
-- replaces the notes of SRC's program; and it replaces the code.
use Rattle.std.specs.Prelude.{◌≡◌, ◌⊎◌, ℕ, List, Option, Result, Ok, Err}
use Rattle.cov_base.specs.Limits.{source_limit}
use Rattle.cov_outside.specs.Outside.{Files}
use Rattle.stack_ops.specs.Code.{CodeValue}
use Rattle.code_file.specs.Spelling.{code_bytes}
use Rattle.code_file.specs.Reading.{File, told}
use Rattle.gcno_format.specs.Spelling.{notes_bytes}
use Rattle.covered_code.specs.declared.covered.Covered.{Covered}
use Rattle.cov_answers.specs.declared.answers.End.{End}
use Rattle.cov_answers.specs.declared.answers.End.TheVariants as answer
use Rattle.command_steps.specs.Names.{code_name, notes_name}
use Rattle.command_steps.specs.Steps.{Then}
use Rattle.command_steps.specs.Files.{LoadsFile}
use Rattle.command_steps.specs.Puts.{put, IsUnput}
use Rattle.build_command.specs.Compiled.{Compiles, CompilesPlain}

-- the bytes of a code are made, which are read as this code; memory may be wanting
abbrev pub WritesCode : CodeValue → Result (List ℕ) End → Type 0
WritesCode code (Ok bytes) = (bytes ≡ code_bytes code) × (told bytes ≡ File code)
WritesCode code (Err end) = end ≡ answer.NoMemory

-- the steps to the bytes of a code that doesn't count
abbrev pub PlainSteps : Option Files → List ℕ → Result (List ℕ) End → Type 0
PlainSteps files source =
    Then (LoadsFile files source source_limit) (λ text. Then (CompilesPlain text) WritesCode)

-- the steps to a code that counts, and its notes
abbrev pub BuildSteps : Option Files → ℕ → List ℕ → Result Covered End → Type 0
BuildSteps files limit source = Then (LoadsFile files source source_limit) (λ text. Compiles text limit)

-- the files with these notes of a program
abbrev pub put_notes : List ℕ → Covered → Option Files → Option Files
put_notes name covered files = put (notes_name name) (notes_bytes covered.notes) files

-- the files with these notes and this code of a program
abbrev pub put_both : List ℕ → Covered → Option Files → Option Files
put_both name covered files = put (code_name name) (code_bytes covered.code) (put_notes name covered files)

-- what replacing the notes and then the code does: both are replaced, and the code's file is read as the code; or
-- neither, or the notes alone
abbrev pub PutsBoth : {T : Type 0} → List ℕ → Covered → Option Files → Option Files → Result T End → Type 0
PutsBoth name covered before after (Ok done) =
    (told (code_bytes covered.code) ≡ File covered.code) × (after ≡ put_both name covered before)
PutsBoth name covered before after (Err end) =
    IsUnput end × ((after ≡ before) ⊎ (after ≡ put_notes name covered before))

-- some notes were replaced, and the code wasn't
abbrev pub LacksCode : Option Files → ℕ → List ℕ → List ℕ → Option Files → Type 0
LacksCode before limit source name after =
    (covered : Covered) × BuildSteps before limit source (Ok covered) × (after ≡ put_notes name covered before)

-- How the building of the program of this name ends: it is done, and the code's file is read as the code; or a file
-- couldn't be replaced, or memory ran out, and all files stand or the notes are new; or it ends at one of the steps,
-- and all files stand.
abbrev pub Builds : Option Files → ℕ → List ℕ → List ℕ → Option Files → End → Type 0
Builds before limit source name after answer.Done =
    (covered : Covered) × BuildSteps before limit source (Ok covered)
    × (told (code_bytes covered.code) ≡ File covered.code) × (after ≡ put_both name covered before)
Builds before limit source name after answer.FolderFault =
    (after ≡ before) ⊎ LacksCode before limit source name after
Builds before limit source name after answer.NoMemory = (after ≡ before) ⊎ LacksCode before limit source name after
Builds before limit source name after end = BuildSteps before limit source (Err end) × (after ≡ before)
