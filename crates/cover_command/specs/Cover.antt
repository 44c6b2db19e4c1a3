-- What `cover [--turns N] [--path-limit N] SRC IN..` does: it loads SRC and compiles it to a code that counts; it loads
-- each IN, runs the code on it and adds what a run that returned or exited has counted; and it writes the texts of the
-- runs and then the report. It changes no file.
use Rattle.std.specs.Prelude.{◌≡◌, ◌⊎◌, ℕ, List, [], ◌∷◌, ◌++◌, Option, Some, None, Result, Ok, Err}
use Rattle.cov_base.specs.Limits.{source_limit, file_limit}
use Rattle.cov_outside.specs.Outside.{Files}
use Rattle.stack_ops.specs.Code.{CodeValue}
use Rattle.code_runs.specs.CodeRun.{Ran, CodeRun}
use Rattle.run_merge.specs.declared.merging.MergeFault.{MergeFault}
use Rattle.run_counts.specs.Counts.{no_counts}
use Rattle.run_counts.specs.Runs.{Told, told_by, run_fault}
use Rattle.path_report.specs.Report.{report_text}
use Rattle.covered_code.specs.declared.covered.Covered.{Covered}
use Rattle.cov_answers.specs.declared.answers.End.{End}
use Rattle.cov_answers.specs.declared.answers.End.TheVariants as answer
use Rattle.command_steps.specs.Names.{stem}
use Rattle.command_steps.specs.Steps.{Then, Makes}
use Rattle.command_steps.specs.Files.{LoadsFile}
use Rattle.command_steps.specs.Merged.{answer_of}
use Rattle.file_commands.specs.Tallied.{IsTallied}
use Rattle.build_command.specs.Compiled.{Compiles}

-- A run of the code on the input adds its text, and its counts where it returned or exited; or these can't be added, for
-- the first fault that stands.
abbrev pub RunsInto : CodeValue → ℕ → List ℕ → List ℕ → Told → Result Told End → Type 0
RunsInto code turns name input before (Ok after) = (ran : Ran) × CodeRun code input turns ran
    × (run_fault code ran before.counts ≡ None) × (after ≡ told_by code name ran before)
RunsInto code turns name input before (Err end) = (end ≡ answer.NoMemory)
    ⊎ ((ran : Ran) × CodeRun code input turns ran
    × (found : MergeFault) × (run_fault code ran before.counts ≡ Some found) × (end ≡ answer_of found))

-- the run of the code on the input of this name
abbrev pub RunsName : Option Files → CodeValue → ℕ → List ℕ → Told → Result Told End → Type 0
RunsName files code turns name before = Then (LoadsFile files name file_limit) (λ input.
    RunsInto code turns name input before)

-- the runs of the code on the inputs of these names, in order, behind what was told before
abbrev pub RunsAll : Option Files → CodeValue → ℕ → List (List ℕ) → Told → Result Told End → Type 0
RunsAll files code turns [] before = Makes before
RunsAll files code turns (name ∷ names) before =
    Then (RunsName files code turns name before) (RunsAll files code turns names)

-- what is told before the first run
abbrev pub untold : CodeValue → Told
untold code = record { counts = no_counts code; text = [] }

-- the steps from what runs told to the text
abbrev pub ReportSteps : List ℕ → List ℕ → Covered → Told → Result (List ℕ) End → Type 0
ReportSteps name text covered told = Then (IsTallied covered.notes (Some told.counts)) (λ tally.
    Makes (told.text ++ report_text name text covered.notes tally))

-- the steps from a compiled source to the text
abbrev pub RunSteps : Option Files → ℕ → List ℕ → List ℕ → List (List ℕ) → Covered → Result (List ℕ) End → Type 0
RunSteps files turns name text inputs covered =
    Then (RunsAll files covered.code turns inputs (untold covered.code)) (ReportSteps name text covered)

-- the steps from a source to the text
abbrev pub CompileSteps : Option Files → ℕ → ℕ → List ℕ → List (List ℕ) → List ℕ → Result (List ℕ) End → Type 0
CompileSteps files turns limit name inputs text =
    Then (Compiles text limit) (RunSteps files turns name text inputs)

-- the steps to the text of `cover`
abbrev pub CoverSteps : Option Files → ℕ → ℕ → List ℕ → List (List ℕ) → Result (List ℕ) End → Type 0
CoverSteps files turns limit source inputs =
    Then (LoadsFile files source source_limit) (CompileSteps files turns limit (stem source) inputs)
