-- What the command `run` does where the program's code renders a source.
use Rattle.std.proofs.Common.{◌≡◌, refl, sym, ap, subst, ◌∙◌, ℕ, Bool, true, false, inl, inr, List, ◌++◌, Some, None}
use Rattle.std.specs.Prelude.{◌&&◌, Option, Err}
use Rattle.std.proofs.lemmas.Bool.{true≢false}
use Rattle.cov_outside.specs.Outside.{Files}
use Rattle.stack_ops.specs.Code.{CodeValue}
use Rattle.stack_ops.specs.declared.endings.Outcome.{Outcome}
use Rattle.stack_ops.specs.declared.endings.Outcome.TheVariants as outcome
use Rattle.code_runs.specs.CodeRun.{Ran, CodeRun}
use Rattle.gcda_format.specs.Data.{DataValue}
use Rattle.run_merge.specs.declared.merging.MergeFault.{MergeFault}
use Rattle.run_merge.specs.declared.merging.MergeFault.TheVariants as fault
use Rattle.run_counts.specs.Texts.{is_closed}
use Rattle.covered_code.specs.RendersCovered.{RendersCovered}
use Rattle.cov_answers.specs.declared.answers.End.{End}
use Rattle.cov_answers.specs.declared.answers.End.TheVariants as answer
use Rattle.command_steps.specs.Files.{DataAt}
use Rattle.command_steps.specs.Puts.{IsUnput}
use Rattle.file_commands.specs.Laws.{HasCounts}
use Rattle.file_commands.specs.Report.{FindsData}
use Rattle.run_command.specs.Laws.{IsOutside, RunsWhole}
use Rattle.run_command.specs.Ran.{DataSteps, JoinSteps, answer_in, end_of, past_in}
use Rattle.run_command.specs.Run.{Keeps}
use Rattle.run_command.proofs.EndLaws.{ready_is_run}
use Rattle.headline.specs.Laws.{FoundFor, IsOpen, IsRunKept, IsRunOf, IsRunOpen, OpenRunsAreMeant, RunsAreKept}
use Rattle.headline.specs.SourceRuns.{Asked}
use Rattle.headline.proofs.CountedRuns.{runs_meant}
use Rattle.headline.proofs.Files.{runs_add_up}

-- ---- answers of the steps to the data are no endings of a run

abbrev NoEnding : End → Type 0
NoEnding (answer.Ran status) = ⊥
NoEnding (answer.Trapped trap line) = ⊥
NoEnding (answer.OutOfTurns turns) = ⊥
NoEnding _ = Unit {0}

data_ends : (files : Files) (name : List ℕ) (end : End) → DataAt (Some files) name (Err end) → NoEnding end
data_ends files name (answer.Ran status) (inl h) = h
data_ends files name (answer.Ran status) (inr h) = h.2
data_ends files name (answer.Trapped trap line) (inl h) = h
data_ends files name (answer.Trapped trap line) (inr h) = h.2
data_ends files name (answer.OutOfTurns turns) (inl h) = h
data_ends files name (answer.OutOfTurns turns) (inr h) = h.2
data_ends files name _ h = tt

find_ends : (files : Files) (name : List ℕ) (end : End) → FindsData (Some files) name (Err end) → NoEnding end
find_ends files name (answer.Missing missing) h = absurd h
find_ends files name end h = data_ends files name end h

merge_ends : (past : Option ℕ) (found : MergeFault) → NoEnding (answer_in past found)
merge_ends None (fault.OtherBuild old new) = tt
merge_ends None (fault.OtherShape function) = tt
merge_ends None fault.RunsPassed = tt
merge_ends None (fault.CountPassed function counter) = tt
merge_ends (Some k) (fault.OtherBuild old new) = tt
merge_ends (Some k) (fault.OtherShape function) = tt
merge_ends (Some k) fault.RunsPassed = tt
merge_ends (Some k) (fault.CountPassed function counter) = tt

join_ends : (code : CodeValue) (ran : Ran) (found : Option DataValue) (end : End) → JoinSteps code ran found (Err end)
    → NoEnding end
join_ends code ran found end (inl (inl e)) = subst NoEnding (sym e) tt
join_ends code ran found end (inl (inr (inl h))) = subst NoEnding (sym h.2) (merge_ends (past_in code found) h.0)
join_ends code ran found end (inl (inr (inr h))) = subst NoEnding (sym h.3) tt
join_ends code ran found end (inr h) = subst NoEnding (sym h.2) tt

steps_end : (files : Files) (name : List ℕ) (code : CodeValue) (ran : Ran) (end : End)
    → DataSteps (Some files) name code ran (Err end) → NoEnding end
steps_end files name code ran end (inl h) = find_ends files name end h
steps_end files name code ran end (inr h) = join_ends code ran h.0 end h.2

-- ---- endings

pub both_true : (a b : Bool) → (a && b) ≡ true → b ≡ true
both_true true b h = h
both_true false b h = absurd (cc)

-- a run of covered code that isn't counted is open
open_so : (covered : Bool) (e : Outcome) (turns status : ℕ) → covered ≡ true → (covered && is_closed e) ≡ false
    → end_of turns e ≡ answer.Ran status → ⊥
open_so true (outcome.Returned s) turns status is h e = true≢false h
open_so true (outcome.Exited s) turns status is h e = true≢false h
open_so true (outcome.Trapped why line) turns status is h e = cc
open_so true outcome.OutOfTurns turns status is h e = cc
open_so false e turns status is h ends = true≢false (sym is)

closed_end : (e : Outcome) (turns : ℕ) → is_closed e ≡ true → IsOpen (end_of turns e) → ⊥
closed_end (outcome.Returned s) turns h o = o
closed_end (outcome.Exited s) turns h o = o
closed_end (outcome.Trapped why line) turns h o = true≢false (sym h)
closed_end outcome.OutOfTurns turns h o = true≢false (sym h)

module _ (limit : ℕ) (text : List ℕ) (code : CodeValue) (renders : RendersCovered text limit code) (files : Files)
    (one : Asked) (name : List ℕ) (before : List ℕ) (after : Option (List ℕ)) (ran : Ran)
    (comes : CodeRun code one.input one.turns ran) (writes : after ≡ Some (before ++ ran.output)) where
  run : IsRunOf limit text renders.source code one ran
  run = runs_meant limit text code renders one ran comes

  kept : (found : Option DataValue) (asked : List Asked) (files_after : Option Files) (end : End) (status : ℕ)
      → end ≡ answer.Ran status → HasCounts files name found → FoundFor limit text renders.source asked found
      → Keeps (Some files) one.turns name code ran files_after end
      → IsRunKept limit text renders.source files name asked one before after files_after end
  kept found asked _ _ status e has stands (Keeps.ended h) =
      absurd (open_so code.covered ran.ending one.turns status renders.parts.covered h e)
  kept found asked _ end status e has stands (Keeps.refused c steps) =
      absurd (subst NoEnding e (steps_end files name code ran end steps))
  kept found asked _ end status e has stands (Keeps.without_data bytes c steps unput) =
      absurd (subst IsUnput e unput)
  kept found asked _ _ status e has stands (Keeps.kept bytes c steps) = record {
    output = writes ∙ ap (λ (o : List ℕ). Some (before ++ o)) run.output;
    ending = ap (λ o. end_of one.turns o) run.ending;
    bytes = bytes;
    stand = runs_add_up limit text code renders files name found asked one ran bytes has stands comes
        (both_true code.covered (is_closed ran.ending) c) steps;
    files_are = refl;
  }

  open_run : (files_after : Option Files) (end : End) → IsOpen end
      → Keeps (Some files) one.turns name code ran files_after end
      → IsRunOpen renders.source files one before after files_after end
  open_run _ _ is (Keeps.ended h) = record {
    output = writes ∙ ap (λ (o : List ℕ). Some (before ++ o)) run.output;
    ending = ap (λ o. end_of one.turns o) run.ending;
    files_are = refl;
  }
  open_run _ end is (Keeps.refused c steps) = absurd (apart end is (steps_end files name code ran end steps))
    where
      apart : (end : End) → IsOpen end → NoEnding end → ⊥
      apart (answer.Trapped trap line) o n = n
      apart (answer.OutOfTurns turns) o n = n
      apart _ o n = absurd o
  open_run _ end is (Keeps.without_data bytes c steps unput) = absurd (apart end is unput)
    where
      apart : (end : End) → IsOpen end → IsUnput end → ⊥
      apart (answer.Trapped trap line) o n = n
      apart (answer.OutOfTurns turns) o n = n
      apart _ o n = absurd o
  open_run _ _ is (Keeps.kept bytes c steps) =
      absurd (closed_end ran.ending one.turns (both_true code.covered (is_closed ran.ending) c) is)

no_outside : (end : End) → IsOpen end → IsOutside end → ⊥
no_outside (answer.Trapped trap line) o n = n
no_outside (answer.OutOfTurns turns) o n = n
no_outside _ o n = absurd o

pub runs_are_kept : RunsAreKept
runs_are_kept limit text code renders files one name found asked before after files_after status ready has stands h =
    let whole : RunsWhole files one.input one.turns name code before after files_after (answer.Ran status) =
    ready_is_run files one.input one.turns name code before after files_after (answer.Ran status) ready (λ o. o) h in
    kept limit text code renders files one name before after whole.ran whole.comes whole.writes found asked files_after
    (answer.Ran status) status refl has stands whole.keeps

pub open_runs_meant : OpenRunsAreMeant
open_runs_meant limit text code renders files one name before after files_after end is ready h =
    let whole : RunsWhole files one.input one.turns name code before after files_after end =
    ready_is_run files one.input one.turns name code before after files_after end ready (no_outside end is) h in
    open_run limit text code renders files one name before after whole.ran whole.comes whole.writes files_after end is
    whole.keeps
