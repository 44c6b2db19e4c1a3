-- What it is to read a code file and to write it again.
use Rattle.std.specs.Prelude.{◌≡◌, ℕ, List, Option, Some, None}
use Rattle.stack_ops.specs.Code.{CodeValue}
use Rattle.code_file.specs.Reading.{File, told}

-- bytes are the file of a code
abbrev pub IsCodeFile : List ℕ → Type 0
IsCodeFile bytes = (c : CodeValue) × (told bytes ≡ File c)

-- where bytes are a code file, the same are written again; else none are
abbrev pub Rewrites : List ℕ → Option (List ℕ) → Type 0
Rewrites bytes (Some written) = (written ≡ bytes) × IsCodeFile bytes
Rewrites bytes None = IsCodeFile bytes → ⊥
