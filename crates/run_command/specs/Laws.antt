-- What running a program comes to where nothing outside fails.
use Rattle.std.specs.Prelude.{◌≡◌, ℕ, ◌≤◌, true, List, ◌++◌, length, Option, Some, None}
use Rattle.std.specs.List.{All}
use Rattle.cov_base.specs.Limits.{file_limit}
use Rattle.cov_outside.specs.Outside.{Files, put_file}
use Rattle.stack_ops.specs.Code.{CodeValue}
use Rattle.code_runs.specs.CodeRun.{Ran, CodeRun}
use Rattle.code_file.specs.Reading.{told, File}
use Rattle.gcda_format.specs.Data.{count_limit}
use Rattle.gcda_format.specs.Spelling.{data_bytes}
use Rattle.run_counts.specs.Counts.{counts_of}
use Rattle.cov_answers.specs.declared.answers.End.{End}
use Rattle.cov_answers.specs.declared.answers.End.TheVariants as answer
use Rattle.command_steps.specs.Names.{code_name, data_name}
use Rattle.run_command.specs.Ran.{end_of, is_counted}
use Rattle.run_command.specs.Run.{Keeps, Runs}

-- the answer blames standard input, the output, the files or memory
abbrev pub IsOutside : End → Type 0
IsOutside answer.ReadFault = Unit {0}
IsOutside answer.WriteFault = Unit {0}
IsOutside answer.FolderFault = Unit {0}
IsOutside answer.NoMemory = Unit {0}
IsOutside _ = ⊥

-- The code file of the program is there and is read as this code, and neither it nor standard input has more bytes than
-- a file may have.
pub record IsReady (files : Files) (input name : List ℕ) (code : CodeValue) : Type 0 where
  pub file : List ℕ
  pub there : files (code_name name) ≡ Some file
  pub short : length file ≤ file_limit
  pub reads : told file ≡ File code
  pub few : length input ≤ file_limit

-- A run of the code on this input has come, its whole output is written, and what it counted is kept or refused.
pub record RunsWhole (files : Files) (input : List ℕ) (turns : ℕ) (name : List ℕ) (code : CodeValue)
    (before : List ℕ) (after : Option (List ℕ)) (files_after : Option Files) (end : End) : Type 0 where
  pub ran : Ran
  pub comes : CodeRun code input turns ran
  pub writes : after ≡ Some (before ++ ran.output)
  pub keeps : Keeps (Some files) turns name code ran files_after end

-- Where all is ready and the answer blames nothing outside, the program is run on the whole input and its whole output
-- is written.
abbrev pub ReadyIsRun : Type 0
ReadyIsRun =
    (files : Files) (input : List ℕ) (turns : ℕ) (name : List ℕ) (code : CodeValue) (before : List ℕ)
    (after : Option (List ℕ)) (files_after : Option Files) (end : End) → IsReady files input name code
    → (IsOutside end → ⊥) → Runs (Some files) (Some input) turns name (Some before) after files_after end
    → RunsWhole files input turns name code before after files_after end

-- Where a program has no data yet, no count of its run is above the limit, and the answer blames nothing outside, the
-- data are those of this run, and the command ends as the run did.
abbrev pub FirstIsKept : Type 0
FirstIsKept =
    (files : Files) (input : List ℕ) (turns : ℕ) (name : List ℕ) (code : CodeValue) (ran : Ran)
    (files_after : Option Files) (end : End) → CodeRun code input turns ran → is_counted code ran ≡ true
    → All (All (λ n. n ≤ count_limit)) ran.tally.counters → files (data_name name) ≡ None → (IsOutside end → ⊥)
    → Keeps (Some files) turns name code ran files_after end
    → (end ≡ end_of turns ran.ending)
    × (files_after ≡ Some (put_file (data_name name) (data_bytes (counts_of code ran.tally)) files))
