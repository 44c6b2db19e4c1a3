-- At which answers a step of `cover` may end: not at `Done`, and at no fault of writing.
use Rattle.std.proofs.Common.{◌≡◌, inl, inr, sym, subst, ℕ, List, [], ◌∷◌, ◌++◌}
use Rattle.std.specs.Prelude.{Option, Some, IfSome, Result, Ok, Err}
use Rattle.cov_base.specs.Limits.{source_limit, file_limit}
use Rattle.cov_outside.specs.Outside.{Files}
use Rattle.stack_ops.specs.Code.{CodeValue}
use Rattle.run_merge.specs.declared.merging.MergeFault.{MergeFault}
use Rattle.run_merge.specs.declared.merging.MergeFault.TheVariants as merge_fault
use Rattle.function_tallies.specs.declared.tally.TallyFault.{TallyFault}
use Rattle.function_tallies.specs.declared.tally.TallyFault.TheVariants as tally_fault
use Rattle.gcda_format.specs.Data.{DataValue}
use Rattle.gcno_format.specs.Notes.{NotesValue}
use Rattle.run_counts.specs.Runs.{Told}
use Rattle.covered_code.specs.declared.covered.Covered.{Covered}
use Rattle.cov_answers.specs.Answers.{IsFront}
use Rattle.cov_answers.specs.declared.answers.End.{End}
use Rattle.cov_answers.specs.declared.answers.End.TheVariants as answer
use Rattle.command_steps.specs.Files.{LoadsFile}
use Rattle.command_steps.specs.Names.{stem}
use Rattle.command_steps.specs.Merged as merged
use Rattle.command_steps.specs.Puts.{Writes, IsUntold}
use Rattle.file_commands.specs.Tallied as tallied
use Rattle.file_commands.proofs.StopLaws.{Stops}
use Rattle.build_command.specs.Compiled.{Compiles}
use Rattle.cover_command.specs.Cover.{RunsInto, RunsName, RunsAll, untold, ReportSteps, RunSteps, CompileSteps, CoverSteps}

loads_stops : (files : Option Files) (name : List ℕ) (limit : ℕ) (end : End) → LoadsFile files name limit (Err end)
    → Stops end
loads_stops files name limit answer.Done h = h
loads_stops files name limit answer.WriteFault h = h
loads_stops files name limit _ h = tt

compiles_stops : (text : List ℕ) (limit : ℕ) (end : End) → Compiles text limit (Err end) → Stops end
compiles_stops text limit answer.Done h = h
compiles_stops text limit answer.WriteFault h = h
compiles_stops text limit _ h = tt

merge_fault_stops : (found : MergeFault) → Stops (merged.answer_of found)
merge_fault_stops (merge_fault.OtherBuild a b) = tt
merge_fault_stops (merge_fault.OtherShape k) = tt
merge_fault_stops merge_fault.RunsPassed = tt
merge_fault_stops (merge_fault.CountPassed k c) = tt

tally_fault_stops : (found : TallyFault) → Stops (tallied.answer_of found)
tally_fault_stops (tally_fault.OtherBuild a b) = tt
tally_fault_stops (tally_fault.OtherShape k) = tt
tally_fault_stops (tally_fault.NotAFlow k arc) = tt

into_stops : (code : CodeValue) (turns : ℕ) (name input : List ℕ) (before : Told) (end : End)
    → RunsInto code turns name input before (Err end) → Stops end
into_stops code turns name input before end (inl h) = subst Stops (sym h) tt
into_stops code turns name input before end (inr h) = subst Stops (sym h.4) (merge_fault_stops h.2)

name_stops : (files : Option Files) (code : CodeValue) (turns : ℕ) (name : List ℕ) (before : Told) (end : End)
    → RunsName files code turns name before (Err end) → Stops end
name_stops files code turns name before end (inl h) = loads_stops files name file_limit end h
name_stops files code turns name before end (inr h) = into_stops code turns name h.0 before end h.2

all_stops : (files : Option Files) (code : CodeValue) (turns : ℕ) (names : List (List ℕ)) (before : Told) (end : End)
    → RunsAll files code turns names before (Err end) → Stops end
all_stops files code turns [] before end h = subst Stops (sym h) tt
all_stops files code turns (name ∷ names) before end (inl h) = name_stops files code turns name before end h
all_stops files code turns (name ∷ names) before end (inr h) = all_stops files code turns names h.0 end h.2

tallied_stops : (notes : NotesValue) (counts : DataValue) (end : End) → tallied.IsTallied notes (Some counts) (Err end)
    → Stops end
tallied_stops notes counts end (inl h) = subst Stops (sym h) tt
tallied_stops notes counts end (inr h) = subst Stops (sym h.2) (tally_fault_stops h.0)

report_stops : (name text : List ℕ) (covered : Covered) (told : Told) (end : End)
    → ReportSteps name text covered told (Err end) → Stops end
report_stops name text covered told end (inl h) = tallied_stops covered.notes told.counts end h
report_stops name text covered told end (inr h) = subst Stops (sym h.2) tt

runs_stops : (files : Option Files) (turns : ℕ) (name text : List ℕ) (inputs : List (List ℕ)) (covered : Covered)
    (end : End) → RunSteps files turns name text inputs covered (Err end) → Stops end
runs_stops files turns name text inputs covered end (inl h) = all_stops files covered.code turns inputs (untold covered.code) end h
runs_stops files turns name text inputs covered end (inr h) = report_stops name text covered h.0 end h.2

compile_steps_stop : (files : Option Files) (turns limit : ℕ) (name : List ℕ) (inputs : List (List ℕ)) (text : List ℕ)
    (end : End) → CompileSteps files turns limit name inputs text (Err end) → Stops end
compile_steps_stop files turns limit name inputs text end (inl h) = compiles_stops text limit end h
compile_steps_stop files turns limit name inputs text end (inr h) =
    runs_stops files turns name text inputs h.0 end h.2

pub cover_stops : (files : Option Files) (turns limit : ℕ) (source : List ℕ) (inputs : List (List ℕ)) (end : End)
    → CoverSteps files turns limit source inputs (Err end) → Stops end
cover_stops files turns limit source inputs end (inl h) = loads_stops files source source_limit end h
cover_stops files turns limit source inputs end (inr h) =
    compile_steps_stop files turns limit (stem source) inputs h.0 end h.2

-- and no step ends because of a fault of writing
pub not_write_fault : (end : End) → Stops end → end ≡ answer.WriteFault → ⊥
not_write_fault end h e = subst Stops e h

-- a text that wasn't written whole
pub cut : (steps : Result (List ℕ) End → Type 0) (before after : Option (List ℕ)) (text : List ℕ) (end : End)
    → steps (Ok text) → IsUntold end → IfSome before (λ b. IsFront text b after) → Writes steps before after end
cut steps before after text answer.WriteFault s k f = (text, s, f)
cut steps before after text answer.NoMemory s k f = inr (text, s, f)
cut steps before after text _ s k f = absurd k
