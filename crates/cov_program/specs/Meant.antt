-- What the commands come to for the C source, whatever code and counters they go by. All is said where the files are told,
-- and of `run` where standard input and the output are told too.
use Rattle.std.specs.Prelude.{◌≡◌, ◌⊎◌, ℕ, List, ◌++◌, Option, Some, IfSome}
use Rattle.cov_outside.specs.Outside.{Files}
use Rattle.c_tree.specs.Typed.{Typed}
use Rattle.source_graphs.specs.SourceGraphs.{IsSourceOf}
use Rattle.stack_ops.specs.Code.{CodeValue}
use Rattle.gcda_format.specs.Data.{DataValue}
use Rattle.covered_code.specs.RendersCovered.{RendersCovered}
use Rattle.cov_words.specs.Reading.{Reading, Reads, Cover, Run, Report, Merge}
use Rattle.cov_answers.specs.declared.answers.End.{End}
use Rattle.cov_answers.specs.declared.answers.End.TheVariants as answer
use Rattle.command_steps.specs.Names.{data_name}
use Rattle.command_steps.specs.Puts.{put, told}
use Rattle.file_commands.specs.Laws.{HasCounts, HasData, HasNotes, HasSource, IsOutside}
use Rattle.run_command.specs.Laws as run
use Rattle.headline.specs.CoverText.{IsCoverText, IsReady, MayEnd, MayStop, with_turns}
use Rattle.headline.specs.Laws.{FoundFor, IsFileFor, IsReportOf, IsRunKept, IsRunOpen, MayEndRun}
use Rattle.headline.specs.SourceRuns.{Asked, StandFor, notes_for}
use Rattle.cov_program.specs.Outside.{Outside}

-- the output, where it is told, gained the text of a cover that the source means
abbrev pub GainsCoverText : Files → ℕ → ℕ → List ℕ → List (List ℕ) → Option (List ℕ) → Option (List ℕ) → Type 0
GainsCoverText files turns limit source inputs before after =
    (text : List ℕ) × IsCoverText files turns limit source inputs text × (after ≡ told text before)

-- A run of a program whose code that counts renders a source, with its data before and behind it: where it returned or
-- exited, they stand for one run more; where it trapped or was out of turns, all files stand; and the output gained what
-- the source puts.
abbrev pub RunsSo : ℕ → List ℕ → Typed → Files → Asked → List ℕ → List ℕ → Option (List ℕ) → Option Files → End → Type 0
RunsSo limit text source files one name before after files_after (answer.Ran status) =
    (found : Option DataValue) (asked : List Asked) → HasCounts files name found
    → FoundFor limit text source asked found
    → IsRunKept limit text source files name asked one before after files_after (answer.Ran status)
RunsSo limit text source files one name before after files_after (answer.Trapped trap line) =
    IsRunOpen source files one before after files_after (answer.Trapped trap line)
RunsSo limit text source files one name before after files_after (answer.OutOfTurns turns) =
    IsRunOpen source files one before after files_after (answer.OutOfTurns turns)
RunsSo limit text source files one name before after files_after end = Unit {0}

-- so it is of every source that the program's code renders
abbrev pub RunsAsMeant : Files → Asked → List ℕ → List ℕ → Option (List ℕ) → Option Files → End → Type 0
RunsAsMeant files one name before after files_after end =
    (limit : ℕ) (text : List ℕ) (code : CodeValue) (renders : RendersCovered text limit code)
    → run.IsReady files one.input name code
    → RunsSo limit text renders.source files one name before after files_after end

-- The output gained the report on just the runs that a program's data stand for, where its notes are those of its source;
-- and on none where it has no data.
abbrev pub GainsReport : Files → List ℕ → Option (List ℕ) → Option (List ℕ) → Type 0
GainsReport files name before after =
    (limit : ℕ) (text : List ℕ) (source : Typed) (found : Option DataValue) (asked : List Asked)
    → IsSourceOf text source → HasNotes files name (notes_for limit text source)
    → HasSource files name (notes_for limit text source) text → HasCounts files name found
    → FoundFor limit text source asked found
    → (report : List ℕ) × IsReportOf limit name text source asked report × (after ≡ told report before)

-- The merged data stand for all runs that both programs' data stand for.
abbrev pub MergesRuns : Files → List ℕ → List ℕ → List ℕ → Option Files → Type 0
MergesRuns files a b merged files_after =
    (limit : ℕ) (text : List ℕ) (source : Typed) (first second : DataValue) (asked others : List Asked)
    → HasData files a first → HasData files b second → StandFor limit text source asked first
    → StandFor limit text source others second
    → (bytes : List ℕ) × IsFileFor limit text source (asked ++ others) bytes
    × (files_after ≡ put (data_name merged) bytes (Some files))

-- What a command has done is what the sources mean: a cover that is done has written each run's output and ending, and the
-- report on what the walks of those that returned or exited passed and contained; `run`, `report` and `merge` do so by
-- way of files.
abbrev pub IsMeant : Reading → Outside → Outside → End → Type 0
IsMeant (Reads (Cover turns limit source inputs)) before after answer.Done =
    IfSome before.files (λ files. GainsCoverText files turns limit source inputs before.output after.output)
IsMeant (Reads (Run turns name)) before after end =
    IfSome before.files (λ files. IfSome before.input (λ input. IfSome before.output (λ output.
    RunsAsMeant files (with_turns turns input) name output after.output after.files end)))
IsMeant (Reads (Report name)) before after answer.Done =
    IfSome before.files (λ files. GainsReport files name before.output after.output)
IsMeant (Reads (Merge a b merged)) before after answer.Done =
    IfSome before.files (λ files. MergesRuns files a b merged after.files)
IsMeant reading before after end = Unit {0}

-- `run` ends as the source means, or because of the outside, memory, or too great a number.
abbrev pub EndsAsMeant : Files → Asked → List ℕ → End → Type 0
EndsAsMeant files one name end =
    (limit : ℕ) (text : List ℕ) (code : CodeValue) (renders : RendersCovered text limit code)
    (found : Option DataValue) (asked : List Asked) → run.IsReady files one.input name code
    → HasCounts files name found → FoundFor limit text renders.source asked found → MayEndRun renders.source one end

-- A report is done, or the output, the folder or memory keeps it from that.
abbrev pub IsReported : Files → List ℕ → End → Type 0
IsReported files name end =
    (limit : ℕ) (text : List ℕ) (source : Typed) (found : Option DataValue) (asked : List Asked)
    → IsSourceOf text source → HasNotes files name (notes_for limit text source)
    → HasSource files name (notes_for limit text source) text → HasCounts files name found
    → FoundFor limit text source asked found
    → (end ≡ answer.Done) ⊎ ((end ≡ answer.WriteFault) ⊎ IsOutside end)

-- Data are merged, or the folder, memory, or too great a number keeps them from that.
abbrev pub IsMerged : Files → List ℕ → List ℕ → End → Type 0
IsMerged files a b end =
    (limit : ℕ) (text : List ℕ) (source : Typed) (first second : DataValue) (asked others : List Asked)
    → HasData files a first → HasData files b second → StandFor limit text source asked first
    → StandFor limit text source others second → (end ≡ answer.Done) ⊎ MayStop end

-- Where the files are told, the source is accepted and all is there, a cover is done, or the outside, memory, or too
-- great a number keeps it from that. So it is of `run`, `report` and `merge` on the files of a program, where standard
-- input and the output of `run` are told too.
abbrev pub IsComplete : Reading → Outside → End → Type 0
IsComplete (Reads (Cover turns limit source inputs)) before end =
    IfSome before.files (λ files. IsReady files limit source inputs → MayEnd end)
IsComplete (Reads (Run turns name)) before end =
    IfSome before.files (λ files. IfSome before.input (λ input. IfSome before.output (λ output.
    EndsAsMeant files (with_turns turns input) name end)))
IsComplete (Reads (Report name)) before end = IfSome before.files (λ files. IsReported files name end)
IsComplete (Reads (Merge a b merged)) before end = IfSome before.files (λ files. IsMerged files a b end)
IsComplete reading before end = Unit {0}
