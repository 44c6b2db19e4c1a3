-- The text of `cover [--turns N] [--path-limit N] SRC IN..`, said of the C source alone: it knows no code and no counters.
use Rattle.std.specs.Prelude.{◌≡◌, ◌⊎◌, ℕ, ◌≤◌, List, [], ◌∷◌, ◌++◌, length, map, Some}
use Rattle.cov_base.specs.Limits.{source_limit, file_limit}
use Rattle.cov_base.specs.declared.refusal.Refusal.TheVariants as refusal
use Rattle.cov_outside.specs.Outside.{Files}
use Rattle.c_tree.specs.Typed.{Typed}
use Rattle.c_meaning.specs.Meaning.{meaning}
use Rattle.source_graphs.specs.SourceGraphs.{IsSourceOf}
use Rattle.path_report.specs.Report.{report_text}
use Rattle.path_report.specs.Tally.{TallyValue}
use Rattle.covered_code.specs.RendersCovered.{RefusesCovered}
use Rattle.covered_code.specs.declared.covered.CodeFault.{CodeFault}
use Rattle.run_counts.specs.Texts.{run_text}
use Rattle.cov_answers.specs.declared.answers.End.{End}
use Rattle.cov_answers.specs.declared.answers.End.TheVariants as answer
use Rattle.command_steps.specs.Names.{stem}
use Rattle.headline.specs.SourceRuns.{Asked, TellsOf, notes_for}

-- the files of these names hold these inputs, in order, and none is longer than a file may be
abbrev pub HoldInputs : Files → List (List ℕ) → List (List ℕ) → Type 0
HoldInputs files [] [] = Unit {0}
HoldInputs files (name ∷ names) (input ∷ inputs) =
    (files name ≡ Some input) × (length input ≤ file_limit) × HoldInputs files names inputs
HoldInputs files _ _ = ⊥

-- the text of the run on the input of this name: what the source's meaning puts on it, and how it ends
abbrev pub meant_text : Typed → ℕ → List ℕ → List ℕ → List ℕ
meant_text source turns name input =
    run_text name ((meaning source input turns).ending) ((meaning source input turns).output)

-- the texts of the runs on the inputs of these names
abbrev pub meant_texts : Typed → ℕ → List (List ℕ) → List (List ℕ) → List ℕ
meant_texts source turns (name ∷ names) (input ∷ inputs) =
    meant_text source turns name input ++ meant_texts source turns names inputs
meant_texts source turns _ _ = []

-- the run on this input, with so many turns
abbrev pub with_turns : ℕ → List ℕ → Asked
with_turns turns input = record { input = input; turns = turns }

-- The text is that of a cover of the C source in the file of this name on the inputs in the files of those names: for
-- each input, in order, the run's output and ending as the source means them; and then the report, whose numbers are
-- the passages of the arcs in the walks of the runs that returned or exited, and which marks exactly the prime paths
-- that some walk of them contains.
pub record IsCoverText (files : Files) (turns limit : ℕ) (source_name : List ℕ) (names : List (List ℕ))
    (text : List ℕ) : Type 0 where
  pub source_text : List ℕ
  pub there : files source_name ≡ Some source_text
  pub source : Typed
  pub is_source : IsSourceOf source_text source
  pub inputs : List (List ℕ)
  pub hold : HoldInputs files names inputs
  pub tally : TallyValue
  pub tells : TellsOf limit source_text source (map (with_turns turns) inputs) tally
  pub text_is : text ≡ meant_texts source turns names inputs
      ++ report_text (stem source_name) source_text (notes_for limit source_text source) tally

-- The source's file is there and no longer than a source may be, no fault of it stands, and the inputs are there.
pub record IsReady (files : Files) (limit : ℕ) (source_name : List ℕ) (names : List (List ℕ)) : Type 0 where
  pub source_text : List ℕ
  pub there : files source_name ≡ Some source_text
  pub short : length source_text ≤ source_limit
  pub accepted : (found : CodeFault) → RefusesCovered source_text limit (refusal.Refused found) → ⊥
  pub inputs : List (List ℕ)
  pub hold : HoldInputs files names inputs

-- what may stop a command where all is there: the folder, memory, too many runs, or too great a count
abbrev pub MayStop : End → Type 0
MayStop answer.FolderFault = Unit {0}
MayStop answer.NoMemory = Unit {0}
MayStop answer.RunsPassed = Unit {0}
MayStop (answer.CountPassed function counter) = Unit {0}
MayStop _ = ⊥

-- how a cover may end where all is there: it is done, the text couldn't be written whole, or it was stopped
abbrev pub MayEnd : End → Type 0
MayEnd end = (end ≡ answer.Done) ⊎ ((end ≡ answer.WriteFault) ⊎ MayStop end)
