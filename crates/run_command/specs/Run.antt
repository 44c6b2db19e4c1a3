-- What `run [--turns N] NAME` does: it loads the code of NAME, reads standard input to its end, runs the code on it and
-- writes the output; and where the code counts and the run returned or exited, it adds what was counted to the data of
-- NAME, if there are any, and replaces them.
use Rattle.std.specs.Prelude.{◌≡◌, ℕ, ◌<◌, ◌≤◌, true, false, List, length, codes, string_bytes}
use Rattle.std.specs.Prelude.{Option, IfSome, Result, Ok, Err}
use Rattle.cov_base.specs.Limits.{file_limit}
use Rattle.cov_outside.specs.Outside.{Files}
use Rattle.stack_ops.specs.Code.{CodeValue}
use Rattle.code_runs.specs.CodeRun.{Ran, CodeRun}
use Rattle.cov_answers.specs.Answers.{IsFront}
use Rattle.cov_answers.specs.declared.answers.End.{End}
use Rattle.cov_answers.specs.declared.answers.End.TheVariants as answer
use Rattle.command_steps.specs.Names.{data_name}
use Rattle.command_steps.specs.Steps.{Then, Makes}
use Rattle.command_steps.specs.Files.{CodeAt}
use Rattle.command_steps.specs.Puts.{put, told, IsUnput, IsUntold}
use Rattle.run_command.specs.Ran.{end_of, is_counted, DataSteps}

-- Standard input is read to its end, of which this is told; or it has more bytes than a file may have, couldn't be
-- read, or memory ran out.
abbrev pub ReadsInput : Option (List ℕ) → Result (List ℕ) End → Type 0
ReadsInput input (Ok bytes) = IfSome input (λ all. bytes ≡ all) × (length bytes ≤ file_limit)
ReadsInput input (Err (answer.TooLong long)) =
    (string_bytes long ≡ codes "input") × IfSome input (λ all. file_limit < length all)
ReadsInput input (Err answer.ReadFault) = Unit {0}
ReadsInput input (Err answer.NoMemory) = Unit {0}
ReadsInput input (Err end) = ⊥

-- a code, and the input that it is run on
pub record Begun : Type 0 where
  pub code : CodeValue
  pub input : List ℕ

-- the steps before the run
abbrev pub ProgramSteps : Option Files → Option (List ℕ) → List ℕ → Result Begun End → Type 0
ProgramSteps files input name = Then (CodeAt files name) (λ code. Then (ReadsInput input) (λ bytes.
    Makes (record { code = code; input = bytes })))

-- the run of the program comes to this
pub record IsRun (files : Option Files) (input : Option (List ℕ)) (turns : ℕ) (name : List ℕ) (begun : Begun)
    (ran : Ran) : Type 0 where
  pub begins : ProgramSteps files input name (Ok begun)
  pub comes : CodeRun begun.code begun.input turns ran

-- What becomes of the data of a program, of whose code this run has come, and how the command ends:
-- - `ended`: the run isn't counted;
-- - `refused`: at a step to the data;
-- - `without_data`: because the data couldn't be replaced, or memory ran out;
-- - `kept`: the data are replaced.
pub data Keeps (files : Option Files) (turns : ℕ) (name : List ℕ) (code : CodeValue) (ran : Ran) : Option Files → End
    → Type 0 where
  ended : is_counted code ran ≡ false → Keeps files turns name code ran files (end_of turns ran.ending)
  refused : {end : End} → is_counted code ran ≡ true → DataSteps files name code ran (Err end)
      → Keeps files turns name code ran files end
  without_data : {end : End} (bytes : List ℕ) → is_counted code ran ≡ true → DataSteps files name code ran (Ok bytes)
      → IsUnput end → Keeps files turns name code ran files end
  kept : (bytes : List ℕ) → is_counted code ran ≡ true → DataSteps files name code ran (Ok bytes)
      → Keeps files turns name code ran (put (data_name name) bytes files) (end_of turns ran.ending)

-- What is written of the output of this run, and how the command ends: it couldn't be written whole, or memory ran out,
-- and all files stand; or it is written.
pub data Ends (files : Option Files) (turns : ℕ) (name : List ℕ) (code : CodeValue) (ran : Ran)
    (output : Option (List ℕ)) : Option (List ℕ) → Option Files → End → Type 0 where
  cut : {after : Option (List ℕ)} {end : End} → IsUntold end → IfSome output (λ before. IsFront ran.output before after)
      → Ends files turns name code ran output after files end
  shown : {files_after : Option Files} {end : End} → Keeps files turns name code ran files_after end
      → Ends files turns name code ran output (told ran.output output) files_after end

-- What the command does: it ends at a step before the run, and nothing changes; or a run of the program ends so.
pub data Runs (files : Option Files) (input : Option (List ℕ)) (turns : ℕ) (name : List ℕ) (output : Option (List ℕ)) :
    Option (List ℕ) → Option Files → End → Type 0 where
  stopped : {end : End} → ProgramSteps files input name (Err end) → Runs files input turns name output output files end
  went : {after : Option (List ℕ)} {files_after : Option Files} {end : End} (begun : Begun) (ran : Ran)
      → IsRun files input turns name begun ran → Ends files turns name begun.code ran output after files_after end
      → Runs files input turns name output after files_after end

-- `run` hasn't touched standard input where this is its answer
abbrev pub IsUnread : End → Type 0
IsUnread (answer.BadCode fault) = Unit {0}
IsUnread (answer.Missing name) = Unit {0}
IsUnread _ = ⊥

-- `run` has written nothing where this is its answer
abbrev pub IsUnshown : End → Type 0
IsUnshown (answer.BadCode fault) = Unit {0}
IsUnshown (answer.Missing name) = Unit {0}
IsUnshown answer.ReadFault = Unit {0}
IsUnshown _ = ⊥
