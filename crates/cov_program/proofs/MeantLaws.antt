-- The commands come to what their source means.
use Rattle.std.proofs.Common.{◌≡◌, inl, inr, refl, sym, subst, ℕ, List}
use Rattle.std.specs.Prelude.{Option, Some, None, IfSome}
use Rattle.cov_outside.specs.Outside.{Files}
use Rattle.cov_words.specs.Reading.{Reading, Reads, Faults, Misfits, Cover, Run, Report, Merge}
use Rattle.cov_answers.specs.declared.answers.End.{End}
use Rattle.cov_answers.specs.declared.answers.End.TheVariants as answer
use Rattle.command_steps.specs.Names.{data_name}
use Rattle.command_steps.specs.Puts.{Replaces, Writes}
use Rattle.file_commands.specs.Merge.{MergeSteps}
use Rattle.file_commands.specs.Report.{ReportSteps}
use Rattle.cover_command.specs.Cover.{CoverSteps}
use Rattle.run_command.specs.Run.{Runs}
use Rattle.run_command.specs.Laws as run
use Rattle.headline.specs.CoverText.{IsReady, MayEnd, MayStop, with_turns}
use Rattle.headline.proofs.Covering.{covers_meant}
use Rattle.headline.proofs.Files.{merges_add_up, reports_meant}
use Rattle.headline.proofs.Ready.{merges_stop, ready_is_run, reports_stop}
use Rattle.headline.proofs.RunFiles.{open_runs_meant, runs_are_kept}
use Rattle.headline.proofs.Stopping.{ready_is_covered}
use Rattle.cov_program.specs.Outside.{Outside}
use Rattle.cov_program.specs.Performs.{Answers}
use Rattle.cov_program.specs.Meant.{GainsCoverText, GainsReport, MergesRuns, RunsAsMeant, IsMeant, IsComplete}
use Rattle.cov_program.specs.Meant.{EndsAsMeant, IsMerged, IsReported}

-- ---- commands that are done

covers : (files : Option Files) (turns limit : ℕ) (source : List ℕ) (inputs : List (List ℕ))
    (before after : Option (List ℕ)) → Writes (CoverSteps files turns limit source inputs) before after answer.Done
    → IfSome files (λ f. GainsCoverText f turns limit source inputs before after)
covers None turns limit source inputs before after h = tt
covers (Some files) turns limit source inputs before after h =
    (h.0, covers_meant files turns limit source inputs h.0 h.1, h.2)

reports : (files : Option Files) (name : List ℕ) (before after : Option (List ℕ))
    → Writes (ReportSteps files name) before after answer.Done → IfSome files (λ f. GainsReport f name before after)
reports None name before after h = tt
reports (Some files) name before after h =
    λ limit text source found asked is noted given has stands.
    (h.0, reports_meant limit text source is files name found asked h.0 noted given has stands h.1, h.2)

merges : (files : Option Files) (a b merged : List ℕ) (after : Option Files)
    → Replaces (MergeSteps files a b) (data_name merged) files after answer.Done
    → IfSome files (λ f. MergesRuns f a b merged after)
merges None a b merged after h = tt
merges (Some files) a b merged after h =
    λ limit text source first second asked others one other stands stand.
    (h.0, merges_add_up limit text source files a b first second asked others h.0 one other stands stand h.1, h.2)

runs : (files : Option Files) (input : Option (List ℕ)) (turns : ℕ) (name : List ℕ) (before after : Option (List ℕ))
    (files_after : Option Files) (end : End) → Runs files input turns name before after files_after end
    → IfSome files (λ f. IfSome input (λ i. IfSome before (λ b.
    RunsAsMeant f (with_turns turns i) name b after files_after end)))
runs None input turns name before after files_after end h = tt
runs (Some files) None turns name before after files_after end h = tt
runs (Some files) (Some input) turns name None after files_after end h = tt
runs (Some files) (Some input) turns name (Some before) after files_after (answer.Ran status) h =
    λ limit text code renders ready found asked has stands.
    runs_are_kept limit text code renders files (with_turns turns input) name found asked before after files_after
    status ready has stands h
runs (Some files) (Some input) turns name (Some before) after files_after (answer.Trapped trap line) h =
    λ limit text code renders ready.
    open_runs_meant limit text code renders files (with_turns turns input) name before after files_after
    (answer.Trapped trap line) tt ready h
runs (Some files) (Some input) turns name (Some before) after files_after (answer.OutOfTurns n) h =
    λ limit text code renders ready.
    open_runs_meant limit text code renders files (with_turns turns input) name before after files_after
    (answer.OutOfTurns n) tt ready h
runs (Some files) (Some input) turns name (Some before) after files_after _ h = λ limit text code renders ready. tt

-- want of memory is no ending of a run
no_runs : (files : Option Files) (input : Option (List ℕ)) (turns : ℕ) (name : List ℕ)
    (before after : Option (List ℕ)) (files_after : Option Files) (end : End) → end ≡ answer.NoMemory
    → IfSome files (λ f. IfSome input (λ i. IfSome before (λ b.
    RunsAsMeant f (with_turns turns i) name b after files_after end)))
no_runs None input turns name before after files_after end e = tt
no_runs (Some files) None turns name before after files_after end e = tt
no_runs (Some files) (Some input) turns name None after files_after end e = tt
no_runs (Some files) (Some input) turns name (Some before) after files_after answer.NoMemory e =
    λ limit text code renders ready. tt
no_runs (Some files) (Some input) turns name (Some before) after files_after _ e = absurd (cc)

pub meant : (reading : Reading) (before after : Outside) (end : End) → Answers reading before after end
    → IsMeant reading before after end
meant (Reads (Cover turns limit source inputs)) before after answer.Done (inl h) =
    covers before.files turns limit source inputs before.output after.output h.0
meant (Reads (Cover turns limit source inputs)) before after answer.Done (inr h) = absurd (let e = h.0 in cc)
meant (Reads (Cover turns limit source inputs)) before after _ h = tt
meant (Reads (Run turns name)) before after end (inl h) =
    runs before.files before.input turns name before.output after.output after.files end h
meant (Reads (Run turns name)) before after end (inr h) =
    no_runs before.files before.input turns name before.output after.output after.files end h.0
meant (Reads (Report name)) before after answer.Done (inl h) =
    reports before.files name before.output after.output h.0
meant (Reads (Report name)) before after answer.Done (inr h) = absurd (let e = h.0 in cc)
meant (Reads (Report name)) before after _ h = tt
meant (Reads (Merge a b merged)) before after answer.Done (inl h) = merges before.files a b merged after.files h.0
meant (Reads (Merge a b merged)) before after answer.Done (inr h) = absurd (let e = h.0 in cc)
meant (Reads (Merge a b merged)) before after _ h = tt
meant (Reads _) before after end h = tt
meant (Faults found) before after end h = tt
meant (Misfits kinds) before after end h = tt

-- ---- covers where all is there

ends : (files : Option Files) (turns limit : ℕ) (source : List ℕ) (inputs : List (List ℕ))
    (before after : Option (List ℕ)) (end : End) → Writes (CoverSteps files turns limit source inputs) before after end
    → IfSome files (λ f. IsReady f limit source inputs → MayEnd end)
ends None turns limit source inputs before after end h = tt
ends (Some files) turns limit source inputs before after answer.Done h = λ ready. inl refl
ends (Some files) turns limit source inputs before after answer.WriteFault h = λ ready. inr (inl refl)
ends (Some files) turns limit source inputs before after answer.NoMemory h = λ ready. inr (inr tt)
ends (Some files) turns limit source inputs before after _ h =
    λ ready. inr (inr (ready_is_covered files turns limit source inputs _ ready h.0))

wants : (files : Option Files) (limit : ℕ) (source : List ℕ) (inputs : List (List ℕ)) (end : End)
    → end ≡ answer.NoMemory → IfSome files (λ f. IsReady f limit source inputs → MayEnd end)
wants None limit source inputs end e = tt
wants (Some files) limit source inputs answer.NoMemory e = λ ready. inr (inr tt)
wants (Some files) limit source inputs _ e = absurd (cc)

-- ---- `run`, `report` and `merge` where all is there

run_ends : (files : Option Files) (input : Option (List ℕ)) (turns : ℕ) (name : List ℕ) (before after : Option (List ℕ))
    (files_after : Option Files) (end : End) → Runs files input turns name before after files_after end
    → IfSome files (λ f. IfSome input (λ i. IfSome before (λ b. EndsAsMeant f (with_turns turns i) name end)))
run_ends None input turns name before after files_after end h = tt
run_ends (Some files) None turns name before after files_after end h = tt
run_ends (Some files) (Some input) turns name None after files_after end h = tt
run_ends (Some files) (Some input) turns name (Some before) after files_after end h =
    λ limit text code renders found asked ready has stands.
    ready_is_run limit text code renders files (with_turns turns input) name found asked before after files_after end
    ready has stands h

run_wants : (files : Option Files) (input : Option (List ℕ)) (turns : ℕ) (name : List ℕ) (before : Option (List ℕ))
    (end : End) → end ≡ answer.NoMemory
    → IfSome files (λ f. IfSome input (λ i. IfSome before (λ b. EndsAsMeant f (with_turns turns i) name end)))
run_wants None input turns name before end e = tt
run_wants (Some files) None turns name before end e = tt
run_wants (Some files) (Some input) turns name None end e = tt
run_wants (Some files) (Some input) turns name (Some before) end e =
    λ limit text code renders found asked ready has stands. inr (inl (subst run.IsOutside (sym e) tt))

report_ends : (files : Option Files) (name : List ℕ) (before after : Option (List ℕ)) (end : End)
    → Writes (ReportSteps files name) before after end → IfSome files (λ f. IsReported f name end)
report_ends None name before after end h = tt
report_ends (Some files) name before after answer.Done h =
    λ limit text source found asked is noted given has stands. inl refl
report_ends (Some files) name before after answer.WriteFault h =
    λ limit text source found asked is noted given has stands. inr (inl refl)
report_ends (Some files) name before after answer.NoMemory h =
    λ limit text source found asked is noted given has stands. inr (inr (inr refl))
report_ends (Some files) name before after _ h =
    λ limit text source found asked is noted given has stands.
    inr (inr (reports_stop limit text source is files name found asked _ noted given has stands h.0))

report_wants : (files : Option Files) (name : List ℕ) (end : End) → end ≡ answer.NoMemory
    → IfSome files (λ f. IsReported f name end)
report_wants None name end e = tt
report_wants (Some files) name end e =
    λ limit text source found asked is noted given has stands. inr (inr (inr e))

merge_ends : (files : Option Files) (a b merged : List ℕ) (after : Option Files) (end : End)
    → Replaces (MergeSteps files a b) (data_name merged) files after end → IfSome files (λ f. IsMerged f a b end)
merge_ends None a b merged after end h = tt
merge_ends (Some files) a b merged after answer.Done h =
    λ limit text source first second asked others one other stands stand. inl refl
merge_ends (Some files) a b merged after answer.FolderFault h =
    λ limit text source first second asked others one other stands stand. inr tt
merge_ends (Some files) a b merged after answer.NoMemory h =
    λ limit text source first second asked others one other stands stand. inr tt
merge_ends (Some files) a b merged after _ h =
    λ limit text source first second asked others one other stands stand.
    inr (merges_stop limit text source files a b first second asked others _ one other stands stand h.0)

merge_wants : (files : Option Files) (a b : List ℕ) (end : End) → end ≡ answer.NoMemory
    → IfSome files (λ f. IsMerged f a b end)
merge_wants None a b end e = tt
merge_wants (Some files) a b end e =
    λ limit text source first second asked others one other stands stand. inr (subst MayStop (sym e) tt)

pub complete : (reading : Reading) (before after : Outside) (end : End) → Answers reading before after end
    → IsComplete reading before end
complete (Reads (Cover turns limit source inputs)) before after end (inl h) =
    ends before.files turns limit source inputs before.output after.output end h.0
complete (Reads (Cover turns limit source inputs)) before after end (inr h) =
    wants before.files limit source inputs end h.0
complete (Reads (Run turns name)) before after end (inl h) =
    run_ends before.files before.input turns name before.output after.output after.files end h
complete (Reads (Run turns name)) before after end (inr h) =
    run_wants before.files before.input turns name before.output end h.0
complete (Reads (Report name)) before after end (inl h) =
    report_ends before.files name before.output after.output end h.0
complete (Reads (Report name)) before after end (inr h) = report_wants before.files name end h.0
complete (Reads (Merge a b merged)) before after end (inl h) = merge_ends before.files a b merged after.files end h.0
complete (Reads (Merge a b merged)) before after end (inr h) = merge_wants before.files a b end h.0
complete (Reads _) before after end h = tt
complete (Faults found) before after end h = tt
complete (Misfits kinds) before after end h = tt
