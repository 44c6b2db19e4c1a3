-- No command but `run` reads standard input, so none of these ends with a fault of reading it.
use Rattle.std.proofs.Common.{◌≡◌, inl, inr, subst, ℕ, List, [], ◌∷◌}
use Rattle.std.specs.Prelude.{Option, Some, None, Err}
use Rattle.cov_outside.specs.Outside.{Files}
use Rattle.stack_ops.specs.Code.{CodeValue}
use Rattle.run_merge.specs.declared.merging.MergeFault.{MergeFault}
use Rattle.run_merge.specs.declared.merging.MergeFault.TheVariants as merge_fault
use Rattle.function_tallies.specs.declared.tally.TallyFault.{TallyFault}
use Rattle.function_tallies.specs.declared.tally.TallyFault.TheVariants as tally_fault
use Rattle.gcda_format.specs.Data.{DataValue}
use Rattle.gcno_format.specs.Notes.{NotesValue}
use Rattle.run_counts.specs.Runs.{Told}
use Rattle.cov_answers.specs.declared.answers.End.{End}
use Rattle.cov_answers.specs.declared.answers.End.TheVariants as answer
use Rattle.command_steps.specs.Files.{DataAt}
use Rattle.command_steps.specs.Merged as merged
use Rattle.command_steps.specs.Puts.{Writes, Replaces}
use Rattle.file_commands.specs.Merge.{MergeSteps, SecondSteps, AddSteps}
use Rattle.file_commands.specs.Report as reports
use Rattle.file_commands.specs.Tallied as tallied
use Rattle.file_commands.proofs.StopLaws.{merge_stops}
use Rattle.cover_command.specs.Cover.{RunsAll, CoverSteps}

merge_answers : (found : MergeFault) → answer.ReadFault ≡ merged.answer_of found → ⊥
merge_answers (merge_fault.OtherBuild a b) e = absurd (cc)
merge_answers (merge_fault.OtherShape k) e = absurd (cc)
merge_answers merge_fault.RunsPassed e = absurd (cc)
merge_answers (merge_fault.CountPassed k c) e = absurd (cc)

tally_answers : (found : TallyFault) → answer.ReadFault ≡ tallied.answer_of found → ⊥
tally_answers (tally_fault.OtherBuild a b) e = absurd (cc)
tally_answers (tally_fault.OtherShape k) e = absurd (cc)
tally_answers (tally_fault.NotAFlow k arc) e = absurd (cc)

no_tally : (notes : NotesValue) (counts : Option DataValue) → tallied.IsTallied notes counts (Err answer.ReadFault) → ⊥
no_tally notes None e = absurd (cc)
no_tally notes (Some counts) (inl e) = absurd (cc)
no_tally notes (Some counts) (inr h) = tally_answers h.0 h.2

no_data : (files : Option Files) (name : List ℕ) → DataAt files name (Err answer.ReadFault) → ⊥
no_data files name (inl h) = h
no_data files name (inr h) = h.2

-- ---- merge

no_sum : (first second : DataValue) → AddSteps first second (Err answer.ReadFault) → ⊥
no_sum first second (inl h) = merge_answers h.0 h.2
no_sum first second (inr h) = (let e = h.2 in absurd (cc))

no_second : (files : Option Files) (b : List ℕ) (first : DataValue) → SecondSteps files b first (Err answer.ReadFault) → ⊥
no_second files b first (inl h) = no_data files b h
no_second files b first (inr h) = no_sum first h.0 h.2

no_merge : (files : Option Files) (a b : List ℕ) → MergeSteps files a b (Err answer.ReadFault) → ⊥
no_merge files a b (inl h) = no_data files a h
no_merge files a b (inr h) = no_second files b h.0 h.2

pub merge_reads_nothing : (files before after : Option Files) (a b name : List ℕ) (end : End)
    → Replaces (MergeSteps files a b) name before after end → end ≡ answer.ReadFault → ⊥
merge_reads_nothing files before after a b name end h e =
    no_merge files a b (subst (Replaces (MergeSteps files a b) name before after) e h).0

pub merge_writes_nothing : (files before after : Option Files) (a b name : List ℕ) (end : End)
    → Replaces (MergeSteps files a b) name before after end → end ≡ answer.WriteFault → ⊥
merge_writes_nothing files before after a b name end h e =
    merge_stops files a b answer.WriteFault (subst (Replaces (MergeSteps files a b) name before after) e h).0

-- ---- report

no_text : (name source : List ℕ) (notes : NotesValue) (counts : Option DataValue)
    → reports.TextSteps name source notes counts (Err answer.ReadFault) → ⊥
no_text name source notes counts (inl h) = no_tally notes counts h
no_text name source notes counts (inr h) = (let e = h.2 in absurd (cc))

no_found : (files : Option Files) (name : List ℕ) (notes : NotesValue) (source : List ℕ)
    → reports.DataSteps files name notes source (Err answer.ReadFault) → ⊥
no_found files name notes source (inl h) = no_data files name h
no_found files name notes source (inr h) = no_text name source notes h.0 h.2

no_source : (files : Option Files) (name : List ℕ) (notes : NotesValue)
    → reports.SourceSteps files name notes (Err answer.ReadFault) → ⊥
no_source files name notes (inl (inl h)) = h
no_source files name notes (inl (inr h)) = h.2
no_source files name notes (inr h) = no_found files name notes h.0 h.2

no_report : (files : Option Files) (name : List ℕ) → reports.ReportSteps files name (Err answer.ReadFault) → ⊥
no_report files name (inl (inl h)) = h
no_report files name (inl (inr h)) = h.2
no_report files name (inr h) = no_source files name h.0 h.2

pub report_reads_nothing : (files : Option Files) (name : List ℕ) (before after : Option (List ℕ)) (end : End)
    → Writes (reports.ReportSteps files name) before after end → end ≡ answer.ReadFault → ⊥
report_reads_nothing files name before after end h e =
    no_report files name (subst (Writes (reports.ReportSteps files name) before after) e h).0

-- ---- cover

no_runs : (files : Option Files) (code : CodeValue) (turns : ℕ) (names : List (List ℕ)) (before : Told)
    → RunsAll files code turns names before (Err answer.ReadFault) → ⊥
no_runs files code turns [] before e = absurd (cc)
no_runs files code turns (name ∷ names) before (inl (inl h)) = h
no_runs files code turns (name ∷ names) before (inl (inr (b, l, inl e))) = absurd (cc)
no_runs files code turns (name ∷ names) before (inl (inr (b, l, inr h))) = merge_answers h.2 h.4
no_runs files code turns (name ∷ names) before (inr h) = no_runs files code turns names h.0 h.2

no_cover : (files : Option Files) (turns limit : ℕ) (source : List ℕ) (inputs : List (List ℕ))
    → CoverSteps files turns limit source inputs (Err answer.ReadFault) → ⊥
no_cover files turns limit source inputs (inl h) = h
no_cover files turns limit source inputs (inr (text, l, inl h)) = h
no_cover files turns limit source inputs (inr (text, l, inr (covered, c, inl h))) =
    no_runs files covered.code turns inputs _ h
no_cover files turns limit source inputs (inr (text, l, inr (covered, c, inr (told, r, inl h)))) =
    no_tally covered.notes (Some told.counts) h
no_cover files turns limit source inputs (inr (text, l, inr (covered, c, inr (told, r, inr h)))) =
    (let e = h.2 in absurd (cc))

pub cover_reads_nothing : (files : Option Files) (turns limit : ℕ) (source : List ℕ) (inputs : List (List ℕ))
    (before after : Option (List ℕ)) (end : End) → Writes (CoverSteps files turns limit source inputs) before after end
    → end ≡ answer.ReadFault → ⊥
cover_reads_nothing files turns limit source inputs before after end h e =
    no_cover files turns limit source inputs
    (subst (Writes (CoverSteps files turns limit source inputs) before after) e h).0
