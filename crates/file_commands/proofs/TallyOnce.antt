-- Notes and data that have a tally have no fault.
use Rattle.std.proofs.Common.{◌≡◌, inl, inr, sym, subst, ◌∙◌, ℕ, ◌+◌, List, [], ◌∷◌, map}
use Rattle.std.specs.Prelude.{ℤ, Option, Some, None, Result, Ok, Err}
use Rattle.std.specs.List.{position}
use Rattle.cov_base.specs.Net.{NetValue, IsNet}
use Rattle.cov_base.specs.declared.refusal.Refusal.TheVariants as refusal
use Rattle.gcov_records.specs.declared.fault.FileFault.{FileFault}
use Rattle.gcov_records.specs.declared.fault.FileFault.TheVariants as file_fault
use Rattle.flow_solver.specs.Circulation.{is_negative}
use Rattle.flow_solver.proofs.Solutions.{has_one}
use Rattle.gcda_format.specs.Data.{DataValue, FunctionDataValue}
use Rattle.gcno_format.specs.Layout.{LayoutValue, FileValue}
use Rattle.gcno_format.specs.Notes.{NotesValue, FunctionNotesValue}
use Rattle.gcno_format.specs.Values.{HoldsNet, AllHold, Fails, FirstFails, Told, function_of}
use Rattle.gcno_format.proofs.ValueLaws.{full_net}
use Rattle.function_tallies.specs.Tally.{FunctionTallyValue}
use Rattle.function_tallies.specs.Tallies as one
use Rattle.function_tallies.specs.declared.tally.TallyFault.{TallyFault}
use Rattle.function_tallies.specs.declared.tally.TallyFault.TheVariants as fault
use Rattle.path_report.specs.Tally.{TallyValue}
use Rattle.path_report.specs.Tallies.{AreTallied, IsFirstOf, IsFirstFault, Tallies}
use Rattle.cov_answers.specs.declared.answers.End.{End}
use Rattle.cov_answers.specs.declared.answers.End.TheVariants as answer
use Rattle.file_commands.specs.Tallied.{IsTallied}

-- the functions have nets
abbrev pub HaveNets : List FunctionNotesValue → Type 0
HaveNets [] = Unit {0}
HaveNets (f ∷ fs) = IsNet f.net × HaveNets fs

-- those of notes that were read have
nets_held : (ls : List LayoutValue) → AllHold ls → HaveNets (map function_of ls)
nets_held [] h = tt
nets_held (l ∷ ls) h = (full_net l h.0, nets_held ls h.1)

pub nets_told : (read : Result FileValue FileFault) (notes : NotesValue) → Told read (Ok notes)
    → HaveNets notes.functions
nets_told (Ok file) notes h =
    subst (λ (n : NotesValue). HaveNets n.functions) (sym h.1) (nets_held file.functions h.0)
nets_told (Err found) notes h = absurd h

-- bytes are read as one value
pub told_once : (read : Result FileValue FileFault) (notes others : NotesValue) → Told read (Ok notes)
    → Told read (Ok others) → others ≡ notes
told_once (Ok file) notes others h o = o.1 ∙ sym h.1
told_once (Err found) notes others h o = absurd h

-- and then have no fault
holds_whole : (l : LayoutValue) (found : FileFault) → HoldsNet l → Fails l found → ⊥
holds_whole l (file_fault.Net place) h (inl f) = f.1 h.arcs
holds_whole l (file_fault.Net place) h (inr f) = (let none = h.lines in let some = f.1 in cc)
holds_whole l _ h f = absurd f

hold_whole : (ls : List LayoutValue) (found : FileFault) → AllHold ls → FirstFails ls found → ⊥
hold_whole [] found h f = f
hold_whole (l ∷ ls) found h (inl f) = holds_whole l found h.0 f
hold_whole (l ∷ ls) found h (inr f) = hold_whole ls found h.1 f.1

pub told_whole : (read : Result FileValue FileFault) (notes : NotesValue) (found : FileFault) → Told read (Ok notes)
    → Told read (Err (refusal.Refused found)) → ⊥
told_whole (Ok file) notes found h f = hold_whole file.functions found h.0 f
told_whole (Err other) notes found h f = h

-- a function that has a tally has no fault
function_once : (limit k checksum : ℕ) (net : NetValue) (d : FunctionDataValue) (t : FunctionTallyValue)
    (found : TallyFault) → IsNet net → one.IsTallied limit checksum net d t → one.FaultOf limit k checksum net d found
    → ⊥
function_once limit k checksum net d t (fault.OtherShape n) is h f = f.1 h.shape
function_once limit k checksum net d t (fault.NotAFlow n arc) is h f =
    let same : f.2.0 ≡ t.arcs = (has_one net is).one d.counters f.2.0 t.arcs f.2.1 h.numbers in
    let some : position is_negative t.arcs ≡ Some arc =
    subst (λ (ns : List ℤ). position is_negative ns ≡ Some arc) same f.2.2 in
    let none = h.flow in cc
function_once limit k checksum net d t (fault.OtherBuild a b) is h f = f

functions_once : (limit k : ℕ) (fs : List FunctionNotesValue) (ds : List FunctionDataValue)
    (ts : List FunctionTallyValue) (found : TallyFault) → HaveNets fs → AreTallied limit fs ds ts
    → IsFirstOf limit k fs ds found → ⊥
functions_once limit k [] [] ts found n h f = f
functions_once limit k [] (d ∷ ds) ts found n h f = h
functions_once limit k (g ∷ fs) [] ts found n h f = h
functions_once limit k (g ∷ fs) (d ∷ ds) [] found n h f = h
functions_once limit k (g ∷ fs) (d ∷ ds) (t ∷ ts) found n h (inl f) =
    function_once limit k g.checksum g.net d t found n.0 h.0 f
functions_once limit k (g ∷ fs) (d ∷ ds) (t ∷ ts) found n h (inr f) =
    functions_once limit (k + 1) fs ds ts found n.1 h.1 f.1

-- nor have notes and data that have one
notes_once : (notes : NotesValue) (counts : DataValue) (t : TallyValue) (found : TallyFault)
    → HaveNets notes.functions → Tallies notes counts (Ok t) → IsFirstFault notes counts found → ⊥
notes_once notes counts t (fault.OtherBuild a b) n h f = f.2 (f.0 ∙ (h.0 ∙ sym f.1))
notes_once notes counts t (fault.OtherShape k) n h f =
    functions_once notes.limit 0 notes.functions counts.functions t.functions (fault.OtherShape k) n h.2 f.1
notes_once notes counts t (fault.NotAFlow k arc) n h f =
    functions_once notes.limit 0 notes.functions counts.functions t.functions (fault.NotAFlow k arc) n h.2 f.1

-- so only memory can be wanting
pub tallied_once : (notes : NotesValue) (counts : Option DataValue) (t : TallyValue) (end : End)
    → HaveNets notes.functions → IsTallied notes counts (Ok t) → IsTallied notes counts (Err end)
    → end ≡ answer.NoMemory
tallied_once notes None t end n h e = e
tallied_once notes (Some counts) t end n h (inl e) = e
tallied_once notes (Some counts) t end n h (inr e) = absurd (notes_once notes counts t e.0 n h e.1)
