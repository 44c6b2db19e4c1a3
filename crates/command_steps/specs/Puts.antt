-- Files that a command replaces, and texts that it writes.
use Rattle.std.specs.Prelude.{◌≡◌, ◌⊎◌, ℕ, List, ◌++◌, Option, Some, None, IfSome, Result, Ok, Err}
use Rattle.std.specs.Option.{option_map}
use Rattle.cov_outside.specs.Outside.{Files, put_file}
use Rattle.cov_answers.specs.Answers.{IsFront}
use Rattle.cov_answers.specs.declared.answers.End.{End}
use Rattle.cov_answers.specs.declared.answers.End.TheVariants as answer

-- the files, where they are told, once these bytes stand under the name
abbrev pub put : List ℕ → List ℕ → Option Files → Option Files
put name bytes None = None
put name bytes (Some files) = Some (put_file name bytes files)

-- the bytes written, where they are told, once the text stands behind them
abbrev pub told : List ℕ → Option (List ℕ) → Option (List ℕ)
told text None = None
told text (Some before) = Some (before ++ text)

-- what replacing a file does: it is replaced, or all files stand
abbrev pub Puts : {T : Type 0} → Option Files → Option Files → List ℕ → List ℕ → Result T End → Type 0
Puts before after name bytes (Ok done) = after ≡ put name bytes before
Puts before after name bytes (Err end) = after ≡ before

-- the answer where a file wasn't replaced
abbrev pub IsUnput : End → Type 0
IsUnput answer.FolderFault = Unit {0}
IsUnput answer.NoMemory = Unit {0}
IsUnput _ = ⊥

-- what writing a text does: it is written whole, or its first bytes are
abbrev pub Told : {T : Type 0} → Option (List ℕ) → Option (List ℕ) → List ℕ → Result T End → Type 0
Told before after text (Ok done) = after ≡ told text before
Told before after text (Err end) = IfSome before (λ b. IsFront text b after)

-- the answer where a text wasn't written whole
abbrev pub IsUntold : End → Type 0
IsUntold answer.WriteFault = Unit {0}
IsUntold answer.NoMemory = Unit {0}
IsUntold _ = ⊥

-- A command whose steps make the bytes of a file replaces it: it is done; or it ends at one of the steps, or because
-- the file couldn't be replaced or memory ran out, and all files stand.
abbrev pub Replaces :
    (Result (List ℕ) End → Type 0) → List ℕ → Option Files → Option Files → End → Type 0
Replaces steps name before after answer.Done = (bytes : List ℕ) × steps (Ok bytes) × (after ≡ put name bytes before)
Replaces steps name before after answer.FolderFault = after ≡ before
Replaces steps name before after answer.NoMemory = after ≡ before
Replaces steps name before after end = steps (Err end) × (after ≡ before)

-- A command whose steps make a text writes it: it is done; or it ends at one of the steps, and nothing is written; or
-- because the text couldn't be written whole or memory ran out, and nothing or the first bytes of the text are written.
abbrev pub Writes : (Result (List ℕ) End → Type 0) → Option (List ℕ) → Option (List ℕ) → End → Type 0
Writes steps before after answer.Done = (text : List ℕ) × steps (Ok text) × (after ≡ told text before)
Writes steps before after answer.WriteFault = (text : List ℕ) × steps (Ok text) × IfSome before (λ b. IsFront text b after)
Writes steps before after answer.NoMemory =
    (after ≡ before) ⊎ ((text : List ℕ) × steps (Ok text) × IfSome before (λ b. IsFront text b after))
Writes steps before after end = steps (Err end) × (after ≡ before)
