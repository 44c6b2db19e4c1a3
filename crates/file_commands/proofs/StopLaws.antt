-- At which answers a step may end: not at `Done`, and at no fault of writing.
use Rattle.std.proofs.Common.{inl, inr, sym, subst, ℕ, List}
use Rattle.std.specs.Prelude.{Option, Some, None, Err}
use Rattle.cov_outside.specs.Outside.{Files}
use Rattle.gcda_format.specs.Data.{DataValue}
use Rattle.gcda_format.specs.Spelling.{data_bytes}
use Rattle.gcno_format.specs.Notes.{NotesValue}
use Rattle.function_tallies.specs.declared.tally.TallyFault.{TallyFault}
use Rattle.function_tallies.specs.declared.tally.TallyFault.TheVariants as tally_fault
use Rattle.run_merge.specs.declared.merging.MergeFault.{MergeFault}
use Rattle.run_merge.specs.declared.merging.MergeFault.TheVariants as merge_fault
use Rattle.cov_answers.specs.declared.answers.End.{End}
use Rattle.cov_answers.specs.declared.answers.End.TheVariants as answer
use Rattle.command_steps.specs.Steps.{Makes}
use Rattle.command_steps.specs.Files.{LoadsFile, ReadsData, ReadsNotes, DataAt, NotesAt}
use Rattle.command_steps.specs.Merged as merged
use Rattle.file_commands.specs.Merge.{AddSteps, SecondSteps, MergeSteps}
use Rattle.file_commands.specs.Tallied as tallied
use Rattle.file_commands.specs.Report.{IsNoted, SourceAt, FindsData, TextSteps, DataSteps, SourceSteps, ReportSteps}

-- an answer at which a step may end
abbrev pub Stops : End → Type 0
Stops answer.Done = ⊥
Stops answer.WriteFault = ⊥
Stops _ = Unit {0}

-- an answer at which a step may end that loads no file
abbrev pub StopsApart : End → Type 0
StopsApart answer.Done = ⊥
StopsApart answer.WriteFault = ⊥
StopsApart answer.FolderFault = ⊥
StopsApart _ = Unit {0}

makes_stops : {A : Type 0} → (a : A) (end : End) → Makes a (Err end) → StopsApart end
makes_stops a end h = subst StopsApart (sym h) tt

-- such an answer is one of all steps too
apart_stops : (end : End) → StopsApart end → Stops end
apart_stops answer.Done h = h
apart_stops answer.WriteFault h = h
apart_stops _ h = tt

loads_stops : (files : Option Files) (name : List ℕ) (limit : ℕ) (end : End) → LoadsFile files name limit (Err end)
    → Stops end
loads_stops files name limit answer.Done h = h
loads_stops files name limit answer.WriteFault h = h
loads_stops files name limit _ h = tt

data_read_stops : (bytes : List ℕ) (end : End) → ReadsData bytes (Err end) → Stops end
data_read_stops bytes answer.Done h = h
data_read_stops bytes answer.WriteFault h = h
data_read_stops bytes _ h = tt

notes_read_stops : (bytes : List ℕ) (end : End) → ReadsNotes bytes (Err end) → Stops end
notes_read_stops bytes answer.Done h = h
notes_read_stops bytes answer.WriteFault h = h
notes_read_stops bytes _ h = tt

data_stops : (files : Option Files) (name : List ℕ) (end : End) → DataAt files name (Err end) → Stops end
data_stops files name end (inl h) = loads_stops _ _ _ end h
data_stops files name end (inr h) = data_read_stops h.0 end h.2

notes_stops : (files : Option Files) (name : List ℕ) (end : End) → NotesAt files name (Err end) → Stops end
notes_stops files name end (inl h) = loads_stops _ _ _ end h
notes_stops files name end (inr h) = notes_read_stops h.0 end h.2

merge_fault_stops : (found : MergeFault) → StopsApart (merged.answer_of found)
merge_fault_stops (merge_fault.OtherBuild a b) = tt
merge_fault_stops (merge_fault.OtherShape k) = tt
merge_fault_stops merge_fault.RunsPassed = tt
merge_fault_stops (merge_fault.CountPassed k c) = tt

tally_fault_stops : (found : TallyFault) → StopsApart (tallied.answer_of found)
tally_fault_stops (tally_fault.OtherBuild a b) = tt
tally_fault_stops (tally_fault.OtherShape k) = tt
tally_fault_stops (tally_fault.NotAFlow k arc) = tt

merged_stops : (first second : DataValue) (end : End) → merged.AreMerged first second (Err end) → StopsApart end
merged_stops first second end h = subst StopsApart (sym h.2) (merge_fault_stops h.0)

add_stops : (first second : DataValue) (end : End) → AddSteps first second (Err end) → StopsApart end
add_stops first second end (inl h) = merged_stops first second end h
add_stops first second end (inr h) = makes_stops (data_bytes h.0) end h.2

second_stops : (files : Option Files) (b : List ℕ) (first : DataValue) (end : End) → SecondSteps files b first (Err end)
    → Stops end
second_stops files b first end (inl h) = data_stops files b end h
second_stops files b first end (inr h) = apart_stops end (add_stops first h.0 end h.2)

pub merge_stops : (files : Option Files) (a b : List ℕ) (end : End) → MergeSteps files a b (Err end) → Stops end
merge_stops files a b end (inl h) = data_stops files a end h
merge_stops files a b end (inr h) = second_stops files b h.0 end h.2

noted_stops : (notes : NotesValue) (text : List ℕ) (end : End) → IsNoted notes text (Err end) → StopsApart end
noted_stops notes text (answer.SourceChanged a b) h = tt
noted_stops notes text _ h = absurd h

source_stops : (files : Option Files) (name : List ℕ) (notes : NotesValue) (end : End)
    → SourceAt files name notes (Err end) → Stops end
source_stops files name notes end (inl h) = loads_stops _ _ _ end h
source_stops files name notes end (inr h) = apart_stops end (noted_stops notes h.0 end h.2)

find_stops : (files : Option Files) (name : List ℕ) (end : End) → FindsData files name (Err end) → Stops end
find_stops files name (answer.Missing missing) h = tt
find_stops files name answer.Done h = data_stops files name answer.Done h
find_stops files name answer.WriteFault h = data_stops files name answer.WriteFault h
find_stops files name _ h = tt

tallied_stops : (notes : NotesValue) (counts : Option DataValue) (end : End) → tallied.IsTallied notes counts (Err end)
    → StopsApart end
tallied_stops notes None end h = subst StopsApart (sym h) tt
tallied_stops notes (Some counts) end (inl h) = subst StopsApart (sym h) tt
tallied_stops notes (Some counts) end (inr h) = subst StopsApart (sym h.2) (tally_fault_stops h.0)

text_stops : (name source : List ℕ) (notes : NotesValue) (counts : Option DataValue) (end : End)
    → TextSteps name source notes counts (Err end) → StopsApart end
text_stops name source notes counts end (inl h) = tallied_stops notes counts end h
text_stops name source notes counts end (inr h) = subst StopsApart (sym h.2) tt

data_steps_stop : (files : Option Files) (name : List ℕ) (notes : NotesValue) (source : List ℕ) (end : End)
    → DataSteps files name notes source (Err end) → Stops end
data_steps_stop files name notes source end (inl h) = find_stops files name end h
data_steps_stop files name notes source end (inr h) = apart_stops end (text_stops name source notes h.0 end h.2)

source_steps_stop : (files : Option Files) (name : List ℕ) (notes : NotesValue) (end : End)
    → SourceSteps files name notes (Err end) → Stops end
source_steps_stop files name notes end (inl h) = source_stops files name notes end h
source_steps_stop files name notes end (inr h) = data_steps_stop files name notes h.0 end h.2

pub report_stops : (files : Option Files) (name : List ℕ) (end : End) → ReportSteps files name (Err end) → Stops end
report_stops files name end (inl h) = notes_stops files name end h
report_stops files name end (inr h) = source_steps_stop files name h.0 end h.2
