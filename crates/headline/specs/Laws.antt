-- What the commands come to for a C source: each run does what the source means, and what is counted, merged and told
-- is what the walks of the runs that returned or exited passed and contained.
use Rattle.std.specs.Prelude.{◌≡◌, ◌⊎◌, ℕ, true, List, [], ◌∷◌, ◌++◌, Option, Some, None, Ok, Err}
use Rattle.cov_outside.specs.Outside.{Files, put_file}
use Rattle.c_tree.specs.Typed.{Typed}
use Rattle.c_meaning.specs.Meaning.{meaning}
use Rattle.flow_graph.specs.WalkRun.{Walked}
use Rattle.source_graphs.specs.SourceGraphs.{IsSourceOf}
use Rattle.stack_ops.specs.Code.{CodeValue}
use Rattle.code_runs.specs.CodeRun.{Ran, CodeRun}
use Rattle.gcda_format.specs.Data.{DataValue}
use Rattle.gcda_format.specs.Spelling.{data_bytes}
use Rattle.path_report.specs.Report.{report_text}
use Rattle.path_report.specs.Tally.{TallyValue}
use Rattle.covered_code.specs.RendersCovered.{RendersCovered}
use Rattle.run_counts.specs.Counts.{counts_of}
use Rattle.run_counts.specs.Texts.{is_closed}
use Rattle.walk_counts.specs.WalkData.{IsDataOf}
use Rattle.cov_answers.specs.declared.answers.End.{End}
use Rattle.cov_answers.specs.declared.answers.End.TheVariants as answer
use Rattle.command_steps.specs.Names.{data_name}
use Rattle.file_commands.specs.Laws.{HasCounts, HasData, HasNotes, HasSource, IsOutside}
use Rattle.file_commands.specs.Merge.{MergeSteps}
use Rattle.file_commands.specs.Report.{ReportSteps}
use Rattle.cover_command.specs.Cover.{CoverSteps}
use Rattle.run_command.specs.Laws.{IsReady}
use Rattle.run_command.specs.Laws as run
use Rattle.run_command.specs.Ran.{DataSteps, end_of}
use Rattle.run_command.specs.Run.{Runs}
use Rattle.headline.specs.SourceRuns.{Asked, IsWalked, StandFor, TellsOf, notes_for}
use Rattle.headline.specs.CoverText.{IsCoverText, MayStop}
use Rattle.headline.specs.CoverText as cover

-- ---- runs

-- The run of a code is the one of the source that is asked for: it has the output and the ending that the source means;
-- and where it returned or exited, it has counted its walks.
pub record IsRunOf (limit : ℕ) (text : List ℕ) (source : Typed) (code : CodeValue) (asked : Asked) (ran : Ran) : Type 0
  where
    pub output : ran.output ≡ (meaning source asked.input asked.turns).output
    pub ending : ran.ending ≡ (meaning source asked.input asked.turns).ending
    pub walked : Walked
    pub walks : IsWalked source asked walked
    pub ends_so : ran.ending ≡ walked.ending
    pub counts : is_closed ran.ending ≡ true
        → IsDataOf (notes_for limit text source) 1 walked.walks (counts_of code ran.tally)

-- So is every run of a code that counts and renders the source.
abbrev pub RunsAreMeant : Type 0
RunsAreMeant =
    (limit : ℕ) (text : List ℕ) (code : CodeValue) (renders : RendersCovered text limit code) (asked : Asked)
    (ran : Ran) → CodeRun code asked.input asked.turns ran → IsRunOf limit text renders.source code asked ran

-- ---- covers

-- The text of each cover is the one that the source means.
abbrev pub CoversAreMeant : Type 0
CoversAreMeant =
    (files : Files) (turns limit : ℕ) (source : List ℕ) (names : List (List ℕ)) (text : List ℕ)
    → CoverSteps (Some files) turns limit source names (Ok text) → IsCoverText files turns limit source names text

-- Where the source is accepted and all is there, a cover ends early only for want of memory, because the folder failed,
-- or because there would be too many runs or too great a count.
abbrev pub ReadyIsCovered : Type 0
ReadyIsCovered =
    (files : Files) (turns limit : ℕ) (source : List ℕ) (names : List (List ℕ)) (end : End)
    → cover.IsReady files limit source names → CoverSteps (Some files) turns limit source names (Err end) → MayStop end

-- ---- runs add up in files

-- a program's data stand for these runs of its source, or it has none and nothing was run
abbrev pub FoundFor : ℕ → List ℕ → Typed → List Asked → Option DataValue → Type 0
FoundFor limit text source asked None = asked ≡ []
FoundFor limit text source asked (Some counts) = StandFor limit text source asked counts

-- The bytes are a file of data that stands for these runs of the source.
pub record IsFileFor (limit : ℕ) (text : List ℕ) (source : Typed) (asked : List Asked) (bytes : List ℕ) : Type 0 where
  pub counts : DataValue
  pub stands : StandFor limit text source asked counts
  pub spelled : bytes ≡ data_bytes counts

-- Where the data of a program stand for runs of its source, those with one more that returned or exited stand for all.
abbrev pub RunsAddUp : Type 0
RunsAddUp =
    (limit : ℕ) (text : List ℕ) (code : CodeValue) (renders : RendersCovered text limit code) (files : Files)
    (name : List ℕ) (found : Option DataValue) (before : List Asked) (asked : Asked) (ran : Ran) (bytes : List ℕ)
    → HasCounts files name found → FoundFor limit text renders.source before found
    → CodeRun code asked.input asked.turns ran → is_closed ran.ending ≡ true
    → DataSteps (Some files) name code ran (Ok bytes)
    → IsFileFor limit text renders.source (before ++ asked ∷ []) bytes

-- A run by the command `run` that returned or exited: the output gained what the source puts, the answer is the ending
-- that it means, and the program's data stand for the runs before and this one.
pub record IsRunKept (limit : ℕ) (text : List ℕ) (source : Typed) (files : Files) (name : List ℕ) (asked : List Asked)
    (one : Asked) (before : List ℕ) (after : Option (List ℕ)) (files_after : Option Files) (end : End) : Type 0 where
  pub output : after ≡ Some (before ++ (meaning source one.input one.turns).output)
  pub ending : end ≡ end_of one.turns ((meaning source one.input one.turns).ending)
  pub bytes : List ℕ
  pub stand : IsFileFor limit text source (asked ++ one ∷ []) bytes
  pub files_are : files_after ≡ Some (put_file (data_name name) bytes files)

-- So it is where `run` answers a status, all that it reads is there, and the program's data stand for runs of the source
-- whose code that counts is the program's.
abbrev pub RunsAreKept : Type 0
RunsAreKept =
    (limit : ℕ) (text : List ℕ) (code : CodeValue) (renders : RendersCovered text limit code) (files : Files)
    (one : Asked) (name : List ℕ) (found : Option DataValue) (asked : List Asked) (before : List ℕ)
    (after : Option (List ℕ)) (files_after : Option Files) (status : ℕ) → IsReady files one.input name code
    → HasCounts files name found → FoundFor limit text renders.source asked found
    → Runs (Some files) (Some one.input) one.turns name (Some before) after files_after (answer.Ran status)
    → IsRunKept limit text renders.source files name asked one before after files_after (answer.Ran status)

-- the answer of a run that is counted nowhere: it trapped, or was out of turns
abbrev pub IsOpen : End → Type 0
IsOpen (answer.Trapped trap line) = Unit {0}
IsOpen (answer.OutOfTurns turns) = Unit {0}
IsOpen _ = ⊥

-- A run by the command `run` that trapped or was out of turns: the output gained what the source puts, the answer is
-- the ending that it means, and all files stand.
pub record IsRunOpen (source : Typed) (files : Files) (one : Asked) (before : List ℕ) (after : Option (List ℕ))
    (files_after : Option Files) (end : End) : Type 0 where
  pub output : after ≡ Some (before ++ (meaning source one.input one.turns).output)
  pub ending : end ≡ end_of one.turns ((meaning source one.input one.turns).ending)
  pub files_are : files_after ≡ Some files

-- So it is where `run` answers a trap or the end of turns.
abbrev pub OpenRunsAreMeant : Type 0
OpenRunsAreMeant =
    (limit : ℕ) (text : List ℕ) (code : CodeValue) (renders : RendersCovered text limit code) (files : Files)
    (one : Asked) (name : List ℕ) (before : List ℕ) (after : Option (List ℕ)) (files_after : Option Files) (end : End)
    → IsOpen end → IsReady files one.input name code
    → Runs (Some files) (Some one.input) one.turns name (Some before) after files_after end
    → IsRunOpen renders.source files one before after files_after end

-- The answer of `run` where all that it reads is there: the ending that the source means, or the outside, memory, too many
-- runs or too great a count.
abbrev pub MayEndRun : Typed → Asked → End → Type 0
MayEndRun source one end =
    (end ≡ end_of one.turns ((meaning source one.input one.turns).ending)) ⊎ (run.IsOutside end ⊎ MayStop end)

-- So `run` ends, where the program's code that counts renders the source, and its data, if it has any, stand for runs of it.
abbrev pub ReadyIsRun : Type 0
ReadyIsRun =
    (limit : ℕ) (text : List ℕ) (code : CodeValue) (renders : RendersCovered text limit code) (files : Files)
    (one : Asked) (name : List ℕ) (found : Option DataValue) (asked : List Asked) (before : List ℕ)
    (after : Option (List ℕ)) (files_after : Option Files) (end : End) → run.IsReady files one.input name code
    → HasCounts files name found → FoundFor limit text renders.source asked found
    → Runs (Some files) (Some one.input) one.turns name (Some before) after files_after end
    → MayEndRun renders.source one end

-- Where the data of two programs stand for runs of one source, those that `merge` makes of them stand for all.
abbrev pub MergesAddUp : Type 0
MergesAddUp =
    (limit : ℕ) (text : List ℕ) (source : Typed) (files : Files) (a b : List ℕ) (first second : DataValue)
    (asked others : List Asked) (bytes : List ℕ) → HasData files a first → HasData files b second
    → StandFor limit text source asked first → StandFor limit text source others second
    → MergeSteps (Some files) a b (Ok bytes) → IsFileFor limit text source (asked ++ others) bytes

-- Only the folder, memory, too many runs or too great a count keep `merge` from that.
abbrev pub ReadyIsMerged : Type 0
ReadyIsMerged =
    (limit : ℕ) (text : List ℕ) (source : Typed) (files : Files) (a b : List ℕ) (first second : DataValue)
    (asked others : List Asked) (end : End) → HasData files a first → HasData files b second
    → StandFor limit text source asked first → StandFor limit text source others second
    → MergeSteps (Some files) a b (Err end) → MayStop end

-- ---- reports

-- The text is the report on these runs of a source.
pub record IsReportOf (limit : ℕ) (name text : List ℕ) (source : Typed) (asked : List Asked) (report : List ℕ) : Type 0
  where
    pub tally : TallyValue
    pub tells : TellsOf limit text source asked tally
    pub report_is : report ≡ report_text name text (notes_for limit text source) tally

-- Where the notes of a program are those of its source, and its data stand for runs of it, a report is on these runs; where
-- it has no data, on none.
abbrev pub ReportsAreMeant : Type 0
ReportsAreMeant =
    (limit : ℕ) (text : List ℕ) (source : Typed) → IsSourceOf text source → (files : Files) (name : List ℕ)
    (found : Option DataValue) (asked : List Asked) (report : List ℕ) → HasNotes files name (notes_for limit text source)
    → HasSource files name (notes_for limit text source) text → HasCounts files name found
    → FoundFor limit text source asked found → ReportSteps (Some files) name (Ok report)
    → IsReportOf limit name text source asked report

-- Only the folder and memory keep `report` from that.
abbrev pub ReadyIsReported : Type 0
ReadyIsReported =
    (limit : ℕ) (text : List ℕ) (source : Typed) → IsSourceOf text source → (files : Files) (name : List ℕ)
    (found : Option DataValue) (asked : List Asked) (end : End) → HasNotes files name (notes_for limit text source)
    → HasSource files name (notes_for limit text source) text → HasCounts files name found
    → FoundFor limit text source asked found → ReportSteps (Some files) name (Err end) → IsOutside end
