-- The first counted run of a program.
use Rattle.std.proofs.Common.{◌≡◌, refl, sym, ap, subst, ◌∙◌, ℕ, inl, inr, List}
use Rattle.std.specs.Prelude.{Option, Some, None, Ok, Err}
use Rattle.std.proofs.lemmas.Option.{none-some}
use Rattle.std.proofs.lemmas.Bool.{true≢false}
use Rattle.cov_outside.specs.Outside.{Files, put_file}
use Rattle.stack_ops.specs.Code.{CodeValue}
use Rattle.code_runs.specs.CodeRun.{Ran}
use Rattle.gcda_format.specs.Data.{DataValue}
use Rattle.gcda_format.specs.Spelling.{data_bytes}
use Rattle.run_merge.specs.Merging.{added, merge_fault}
use Rattle.run_counts.specs.Counts.{counts_of, no_counts}
use Rattle.run_counts.proofs.MergeLaws.{first_is_itself}
use Rattle.cov_answers.specs.declared.answers.End.{End}
use Rattle.cov_answers.specs.declared.answers.End.TheVariants as answer
use Rattle.command_steps.specs.Names.{data_name}
use Rattle.command_steps.specs.Files.{LoadsFile, DataAt}
use Rattle.cov_base.specs.Limits.{file_limit}
use Rattle.file_commands.specs.Report.{FindsData}
use Rattle.run_command.specs.Ran.{Joins, JoinSteps, DataSteps}
use Rattle.run_command.specs.Run.{Keeps}
use Rattle.run_command.specs.Laws.{IsOutside, FirstIsKept}
use Rattle.run_command.proofs.EndLaws.{memory_outside, unput_outside}

-- a file that isn't there isn't loaded
no_file : (files : Files) (name bytes : List ℕ) → files name ≡ None
    → LoadsFile (Some files) name file_limit (Ok bytes) → ⊥
no_file files name bytes none h = none-some bytes (sym none ∙ h.0)

-- no data are found, but for what is outside
load_outside : (files : Files) (name : List ℕ) (end : End) → files (data_name name) ≡ None
    → LoadsFile (Some files) (data_name name) file_limit (Err end) → FindsData (Some files) name (Err end)
    → IsOutside end
load_outside files name (answer.Missing m) none h found = absurd found
load_outside files name (answer.TooLong l) none h found = absurd (none-some h.1.bytes (sym none ∙ h.1.there))
load_outside files name answer.FolderFault none h found = tt
load_outside files name answer.NoMemory none h found = tt
load_outside files name _ none h found = absurd h

find_at : (files : Files) (name : List ℕ) (end : End) → files (data_name name) ≡ None
    → FindsData (Some files) name (Err end) → DataAt (Some files) name (Err end) → IsOutside end
find_at files name end none found (inl h) = load_outside files name end none h found
find_at files name end none found (inr h) = absurd (no_file files (data_name name) h.0 none h.1)

find_outside : (files : Files) (name : List ℕ) (end : End) → files (data_name name) ≡ None
    → FindsData (Some files) name (Err end) → IsOutside end
find_outside files name (answer.Missing m) none h = absurd h
find_outside files name end none h = find_at files name end none h h

-- and none are found
none_found : (files : Files) (name : List ℕ) (found : Option DataValue) → files (data_name name) ≡ None
    → FindsData (Some files) name (Ok found) → found ≡ None
none_found files name None none h = refl
none_found files name (Some counts) none h = absurd (no_file files (data_name name) h.0 none h.1)

-- counts that can be added are, but for what is outside
joins_outside : (run old : DataValue) (end : End) → merge_fault old run ≡ None → Joins None run old (Err end)
    → IsOutside end
joins_outside run old end fits (inl h) = memory_outside end h
joins_outside run old end fits (inr (inl h)) = absurd (none-some h.0 (sym fits ∙ h.1))
joins_outside run old end fits (inr (inr h)) = absurd (none-some h.0 h.1)

join_outside : (code : CodeValue) (ran : Ran) (end : End)
    → merge_fault (no_counts code) (counts_of code ran.tally) ≡ None → JoinSteps code ran None (Err end) → IsOutside end
join_outside code ran end fits (inl h) = joins_outside (counts_of code ran.tally) (no_counts code) end fits h
join_outside code ran end fits (inr h) = memory_outside end h.2

data_outside : (files : Files) (name : List ℕ) (code : CodeValue) (ran : Ran) (end : End)
    → files (data_name name) ≡ None → merge_fault (no_counts code) (counts_of code ran.tally) ≡ None
    → DataSteps (Some files) name code ran (Err end) → IsOutside end
data_outside files name code ran end none fits (inl h) = find_outside files name end none h
data_outside files name code ran end none fits (inr h) =
    join_outside code ran end fits
    (subst (λ (f : Option DataValue). JoinSteps code ran f (Err end)) (none_found files name h.0 none h.1) h.2)

-- the data are those of the run
data_first : (files : Files) (name : List ℕ) (code : CodeValue) (ran : Ran) (bytes : List ℕ)
    → files (data_name name) ≡ None → added (no_counts code) (counts_of code ran.tally) ≡ counts_of code ran.tally
    → DataSteps (Some files) name code ran (Ok bytes) → bytes ≡ data_bytes (counts_of code ran.tally)
data_first files name code ran bytes none is h =
    let j : JoinSteps code ran None (Ok bytes) =
    subst (λ (f : Option DataValue). JoinSteps code ran f (Ok bytes)) (none_found files name h.0 none h.1) h.2 in
    j.2 ∙ ap data_bytes (j.1.2 ∙ is)

-- what a first run counted is kept
pub first_is_kept : FirstIsKept
first_is_kept files input turns name code ran _ _ comes counts within none inside (Keeps.ended h) =
    absurd (true≢false (sym counts ∙ h))
first_is_kept files input turns name code ran _ end comes counts within none inside (Keeps.refused c steps) =
    absurd (inside (data_outside files name code ran end none
    (first_is_itself code input turns ran comes within).0 steps))
first_is_kept files input turns name code ran _ end comes counts within none inside (Keeps.without_data b c s unput) =
    absurd (inside (unput_outside end unput))
first_is_kept files input turns name code ran _ _ comes counts within none inside (Keeps.kept bytes c steps) = (
  refl,
  ap (λ (bs : List ℕ). Some (put_file (data_name name) bs files))
      (data_first files name code ran bytes none (first_is_itself code input turns ran comes within).1 steps),
)
