-- When records that were read are those of nets, and the first fault where they aren't.
use Rattle.std.specs.Prelude.{◌≡◌, ℕ, ◌+◌, ◌==◌, ◌&&◌, nat_lt, nat_le, Bool, if◌then◌else◌, ◌⊎◌, zero, suc, List, [], ◌∷◌, map, replicate, Option, Some, None, Result, Ok, Err}
use Rattle.cov_base.specs.Net.{NetValue, IsNet, ascends}
use Rattle.cov_base.specs.declared.refusal.Refusal.{Refusal}
use Rattle.cov_base.specs.declared.refusal.Refusal.TheVariants as refusal
use Rattle.gcov_records.specs.declared.fault.FileFault.{FileFault}
use Rattle.gcov_records.specs.declared.fault.FileFault.TheVariants as fault
use Rattle.gcno_format.specs.Marks.{marked, arc_of}
use Rattle.gcno_format.specs.Notes.{FunctionNotesValue, NotesValue}
use Rattle.gcno_format.specs.Spelling.{checksum_of}
use Rattle.gcno_format.specs.Layout.{LinesValue, LayoutValue, FileValue}
use Rattle.gcno_format.specs.Reading.{laid_out}

-- the blocks and arcs of a function, with these lines
abbrev pub net_with : LayoutValue → List (List ℕ) → NetValue
net_with l lines = record { blocks = l.blocks; arcs = map arc_of l.arcs; lines = lines }

-- the blocks and arcs of a function, without lines
abbrev pub bare_net : LayoutValue → NetValue
bare_net l = net_with l (replicate l.blocks [])

-- blocks, arcs, flags and checksum are those of a net
pub record HasArcs (l : LayoutValue) : Type 0 where
  pub net : IsNet (bare_net l)
  pub flags : marked (bare_net l) ≡ l.arcs
  pub checksum : l.checksum ≡ checksum_of (bare_net l)

-- a record of lines that ascend from above 0, for one of so many blocks other than the entry and the exit
abbrev pub suits_net : ℕ → LinesValue → Bool
suits_net blocks r = (nat_le 2 r.block && nat_lt r.block blocks) && ascends 0 r.lines

-- the place of the first record of lines that doesn't suit a net of so many blocks
abbrev pub wrong_lines : ℕ → List LinesValue → Option ℕ
wrong_lines blocks [] = None
wrong_lines blocks (r ∷ more) = if suits_net blocks r then wrong_lines blocks more else Some r.place

-- the lines of a block
abbrev pub lines_of : ℕ → List LinesValue → List ℕ
lines_of block [] = []
lines_of block (r ∷ more) = if r.block == block then r.lines else lines_of block more

-- the lines of so many blocks, of which the first has this number
abbrev pub lists_from : ℕ → ℕ → List LinesValue → List (List ℕ)
lists_from block zero records = []
lists_from block (suc n) records = lines_of block records ∷ lists_from (block + 1) n records

-- the function that records hold
abbrev pub function_of : LayoutValue → FunctionNotesValue
function_of l = record {
  name = l.name;
  line = l.line;
  checksum = l.checksum;
  net = net_with l (lists_from 0 l.blocks l.lines);
}

-- the records of a function are those of a net
pub record HoldsNet (l : LayoutValue) : Type 0 where
  pub arcs : HasArcs l
  pub lines : wrong_lines l.blocks l.lines ≡ None

-- The fault is the first of a function: Net at its own record where that or its arcs aren't those of a net, and else
-- Net at the first record of lines that doesn't suit it.
abbrev pub Fails : LayoutValue → FileFault → Type 0
Fails l (fault.Net place) =
    ((place ≡ l.place) × (HasArcs l → ⊥)) ⊎ (HasArcs l × (wrong_lines l.blocks l.lines ≡ Some place))
Fails l _ = ⊥

-- the fault is the first of functions
abbrev pub FirstFails : List LayoutValue → FileFault → Type 0
FirstFails [] found = ⊥
FirstFails (l ∷ more) found = Fails l found ⊎ (HoldsNet l × FirstFails more found)

-- each function's records are those of a net
abbrev pub AllHold : List LayoutValue → Type 0
AllHold [] = Unit {0}
AllHold (l ∷ more) = HoldsNet l × AllHold more

-- the notes that records hold
abbrev pub notes_of : FileValue → NotesValue
notes_of f = record { stamp = f.stamp; limit = f.limit; functions = map function_of f.functions }

-- what bytes are whose items are records of notes: notes, or the first fault of a net; or bytes whose items are faulty
abbrev pub Told : Result FileValue FileFault → Result NotesValue (Refusal FileFault) → Type 0
Told (Ok file) (Ok notes) = AllHold file.functions × (notes ≡ notes_of file)
Told (Ok file) (Err (refusal.Refused found)) = FirstFails file.functions found
Told (Err found) (Err (refusal.Refused told)) = told ≡ found
Told (Err found) (Ok notes) = ⊥
Told read (Err refusal.NoMemory) = Unit {0}

-- what bytes are: notes, or bytes with a first fault
abbrev pub TellsNotes : List ℕ → Result NotesValue (Refusal FileFault) → Type 0
TellsNotes bytes answer = Told (laid_out bytes) answer

-- ---- answers

-- the notes of a file, or the first fault of a net
abbrev pub AreNotes : FileValue → Result NotesValue (Refusal FileFault) → Type 0
AreNotes file answer = Told (Ok file) answer

-- the functions that records hold, seen by view, or the first fault of a net
abbrev pub AreFunctions : {X : Type 0} → (X → List FunctionNotesValue) → List LayoutValue
    → Result X (Refusal FileFault) → Type 0
AreFunctions view layouts (Ok functions) = AllHold layouts × (view functions ≡ map function_of layouts)
AreFunctions view layouts (Err (refusal.Refused found)) = FirstFails layouts found
AreFunctions view layouts (Err refusal.NoMemory) = Unit {0}

-- the function that records hold, or its first fault
abbrev pub IsFunction : LayoutValue → Result FunctionNotesValue (Refusal FileFault) → Type 0
IsFunction l (Ok function) = HoldsNet l × (function ≡ function_of l)
IsFunction l (Err (refusal.Refused found)) = Fails l found
IsFunction l (Err refusal.NoMemory) = Unit {0}

-- the net of a function's blocks and arcs with their flags and checksum, or a fault at its own record
abbrev pub IsBareNet : LayoutValue → Result NetValue (Refusal FileFault) → Type 0
IsBareNet l (Ok net) = HasArcs l × (net ≡ bare_net l)
IsBareNet l (Err (refusal.Refused found)) = (found ≡ fault.Net l.place) × (HasArcs l → ⊥)
IsBareNet l (Err refusal.NoMemory) = Unit {0}

-- the net of a function's blocks and arcs, or a fault at its own record
abbrev pub IsPlainNet : LayoutValue → Result NetValue (Refusal FileFault) → Type 0
IsPlainNet l (Ok net) = IsNet (bare_net l) × (net ≡ bare_net l)
IsPlainNet l (Err (refusal.Refused found)) = (found ≡ fault.Net l.place) × (IsNet (bare_net l) → ⊥)
IsPlainNet l (Err refusal.NoMemory) = Unit {0}

-- the net of a function, with the lines of its blocks; only memory may run out
abbrev pub IsFullNet : LayoutValue → Result NetValue (Refusal FileFault) → Type 0
IsFullNet l (Ok net) = net ≡ (function_of l).net
IsFullNet l (Err (refusal.Refused found)) = ⊥
IsFullNet l (Err refusal.NoMemory) = Unit {0}
