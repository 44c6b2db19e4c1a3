-- What each command does, and what it leaves as it was: a new one brings an equation to each definition here, and no
-- clause of the top call changes.
use Rattle.std.specs.Prelude.{◌≡◌, true, false}
use Rattle.cov_words.specs.declared.command.UsageFault.TheVariants as usage
use Rattle.cov_words.specs.Reading.{CommandValue, Cover, Build, Run, Report, Merge, Make}
use Rattle.cov_answers.specs.declared.answers.End.{End}
use Rattle.cov_answers.specs.declared.answers.End.TheVariants as answer
use Rattle.command_steps.specs.Names.{stem, code_name, data_name}
use Rattle.command_steps.specs.Puts.{Replaces, Writes}
use Rattle.file_commands.specs.Merge.{MergeSteps}
use Rattle.file_commands.specs.Report.{ReportSteps}
use Rattle.file_commands.specs.Report.{IsUnwritten}
use Rattle.build_command.specs.Build.{PlainSteps, Builds}
use Rattle.cover_command.specs.Cover.{CoverSteps}
use Rattle.run_command.specs.Run.{Runs, IsUnread, IsUnshown}
use Rattle.cov_program.specs.Outside.{Outside}

-- the files and the output stand
pub record ChangesNothing (before after : Outside) : Type 0 where
  pub files : after.files ≡ before.files
  pub output : after.output ≡ before.output

-- What the command does: `cover` and `report` write a text, `build` and `merge` replace files, `run` does both.
abbrev pub Does : CommandValue → Outside → Outside → End → Type 0
Does (Cover turns limit source inputs) before after end =
    Writes (CoverSteps before.files turns limit source inputs) before.output after.output end
    × (after.files ≡ before.files)
Does (Build true limit source) before after end =
    Replaces (PlainSteps before.files source) (code_name (stem source)) before.files after.files end
    × (after.output ≡ before.output)
Does (Build false limit source) before after end =
    Builds before.files limit source (stem source) after.files end × (after.output ≡ before.output)
Does (Run turns name) before after end =
    Runs before.files before.input turns name before.output after.output after.files end
Does (Report name) before after end =
    Writes (ReportSteps before.files name) before.output after.output end × (after.files ≡ before.files)
Does (Merge a b out) before after end =
    Replaces (MergeSteps before.files a b) (data_name out) before.files after.files end
    × (after.output ≡ before.output)
Does (Make count) before after end = (end ≡ answer.Usage usage.UnknownCommand) × ChangesNothing before after

-- the command leaves standard input as it was where this is its answer: all but `run` do
abbrev pub LeavesInput : CommandValue → End → Type 0
LeavesInput (Run turns name) end = IsUnread end
LeavesInput _ end = Unit {0}

-- the command leaves the output as it was where this is its answer
abbrev pub LeavesOutput : CommandValue → End → Type 0
LeavesOutput (Cover turns limit source inputs) end = IsUnwritten end
LeavesOutput (Run turns name) end = IsUnshown end
LeavesOutput (Report name) end = IsUnwritten end
LeavesOutput _ end = Unit {0}
