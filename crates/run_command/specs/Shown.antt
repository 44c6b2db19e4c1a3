-- What a machine shows of a run of a program.
use Rattle.std.specs.Prelude.{◌≡◌, ℕ, List, Option, Result, Ok, Err}
use Rattle.cov_outside.specs.Outside.{Files}
use Rattle.code_runs.specs.CodeRun.{Ran}
use Rattle.stack_machine.specs.Machine.{MachineValue, Shows}
use Rattle.run_merge.specs.Merging.{HasFew}
use Rattle.run_counts.specs.Counts.{data_of}
use Rattle.cov_answers.specs.declared.answers.End.{End}
use Rattle.run_command.specs.declared.finished.Finished.{Finished}
use Rattle.run_command.specs.Run.{Begun, IsRun, ProgramSteps}

-- a run of the program has come to this, which the machine shows
pub record ShowsRun (files : Option Files) (input : Option (List ℕ)) (turns : ℕ) (name : List ℕ) (f : Finished)
    : Type 0 where
  pub begun : Begun
  pub ran : Ran
  pub run : IsRun files input turns name begun ran
  pub code : f.machine.code ≡ begun.code
  pub shows : Shows ran f.ending f.machine

-- a run of the program is shown; or the command ends at a step before it
abbrev pub Finishes : Option Files → Option (List ℕ) → ℕ → List ℕ → Result Finished End → Type 0
Finishes files input turns name (Ok f) = ShowsRun files input turns name f
Finishes files input turns name (Err end) = ProgramSteps files input name (Err end)

-- the data of a machine have few functions and counters
abbrev pub HasFewCounts : MachineValue → Type 0
HasFewCounts m = HasFew (data_of m.code m.counters m.words)
