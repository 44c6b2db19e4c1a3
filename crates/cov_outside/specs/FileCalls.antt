-- What the single calls of a file system say, and what is made of them: a file that is loaded, and one that is replaced.
use Rattle.std.specs.Prelude.{◌≡◌, ◌≢◌, ◌<◌, ℕ, List, [], ◌++◌, length, take, codes, Option, Some, None, Result, Ok, Err, Vec}
use Rattle.std.specs.Global.{Global}
use Rattle.cov_outside.specs.Outside.{Files}
use Rattle.cov_outside.specs.declared.faults.CallFault.{CallFault}
use Rattle.cov_outside.specs.declared.faults.CallFault.TheVariants as call_fault
use Rattle.cov_outside.specs.declared.faults.LoadFault.{LoadFault}
use Rattle.cov_outside.specs.declared.faults.LoadFault.TheVariants as load_fault
use Rattle.cov_outside.specs.declared.faults.SinkFault.{SinkFault}
use Rattle.cov_outside.specs.declared.faults.SinkFault.TheVariants as sink_fault

-- the system didn't do the call: it failed or was interrupted
abbrev pub IsCallFault : {A : Type 0} → Result A CallFault → Type 0
IsCallFault (Ok value) = ⊥
IsCallFault (Err call_fault.Failed) = Unit {0}
IsCallFault (Err call_fault.Interrupted) = Unit {0}
IsCallFault (Err call_fault.NoMemory) = ⊥

-- why a file isn't loaded where a call has this fault
abbrev pub load_fault_of : CallFault → LoadFault
load_fault_of call_fault.Failed = load_fault.Failed
load_fault_of call_fault.Interrupted = load_fault.Failed
load_fault_of call_fault.NoMemory = load_fault.NoMemory

-- why a file isn't replaced where a call has this fault
abbrev pub sink_fault_of : CallFault → SinkFault
sink_fault_of call_fault.Failed = sink_fault.Failed
sink_fault_of call_fault.Interrupted = sink_fault.Failed
sink_fault_of call_fault.NoMemory = sink_fault.NoMemory

-- the fact holds of the files before and after, where they are told; what isn't told stays untold
abbrev pub Told : (Files → Files → Type 0) → Option Files → Option Files → Type 0
Told P None after = after ≡ None
Told P (Some before) None = ⊥
Told P (Some before) (Some after) = P before after

-- The name has these bytes, and each other file stands.
pub record Puts (name bytes : List ℕ) (before after : Files) : Type 0 where
  pub there : after name ≡ Some bytes
  pub others : (other : List ℕ) → other ≢ name → after other ≡ before other

-- Each file but that of the name stands.
abbrev pub KeepsOthers : List ℕ → Files → Files → Type 0
KeepsOthers name before after = (other : List ℕ) → other ≢ name → after other ≡ before other

-- what opening a file says: it isn't there, or none of its bytes is read yet
abbrev pub Opens : {File : Type 0} → (File → Option (List ℕ)) → Option Files → List ℕ → Result (Option File) CallFault → Type 0
Opens unread None name result = Unit {0}
Opens unread (Some files) name (Ok None) = files name ≡ None
Opens unread (Some files) name (Ok (Some file)) = (whole : List ℕ) × (unread file ≡ Some whole) × (files name ≡ Some whole)
Opens unread (Some files) name (Err fault) = Unit {0}

-- what creating a file does: it is there, without a byte, and the open file has its name
abbrev pub Creates : {File : Type 0} → (File → List ℕ) → List ℕ → Result File CallFault → Files → Files → Type 0
Creates name_of name (Ok file) before after = (name_of file ≡ name) × Puts name [] before after
Creates name_of name (Err fault) before after = KeepsOthers name before after

-- what writing at the end of a file does: the first n bytes of the piece stand behind what was there
abbrev pub Appends : List ℕ → Result ℕ CallFault → List ℕ → Files → Files → Type 0
Appends name (Ok n) piece before after = (old : List ℕ) → before name ≡ Some old → Puts name (old ++ take n piece) before after
Appends name (Err fault) piece before after = (other : List ℕ) → after other ≡ before other

-- The one file is now under the other name, where it replaced what was there; under its own it is gone, where the names differ.
pub record Renamed (from to : List ℕ) (before after : Files) : Type 0 where
  pub moved : after to ≡ before from
  pub gone : from ≢ to → after from ≡ None
  pub others : (other : List ℕ) → other ≢ from → other ≢ to → after other ≡ before other

-- what renaming a file does; after a fault the files stand
abbrev pub Renames : List ℕ → List ℕ → Result (Unit {0}) CallFault → Files → Files → Type 0
Renames from to (Ok done) before after = Renamed from to before after
Renames from to (Err fault) before after = (other : List ℕ) → after other ≡ before other

-- what reading the rest of an open file says: all of it, or that it is longer than the limit
abbrev pub ReadsRest : Option (List ℕ) → ℕ → Result (Vec ℕ Global) LoadFault → Type 0
ReadsRest None limit result = Unit {0}
ReadsRest (Some rest) limit (Ok bytes) = bytes.items ≡ rest
ReadsRest (Some rest) limit (Err load_fault.Failed) = Unit {0}
ReadsRest (Some rest) limit (Err load_fault.TooLong) = limit < length rest
ReadsRest (Some rest) limit (Err load_fault.NoMemory) = Unit {0}

-- what writing all bytes at the end of a file that is there does; after a fault each other file stands
abbrev pub AppendsAll : List ℕ → Result (Unit {0}) CallFault → List ℕ → Files → Files → Type 0
AppendsAll name (Ok done) bytes before after = (old : List ℕ) → before name ≡ Some old → Puts name (old ++ bytes) before after
AppendsAll name (Err fault) bytes before after = (old : List ℕ) → before name ≡ Some old → KeepsOthers name before after

-- the name beside a name, under which its new bytes are written
abbrev pub beside : List ℕ → List ℕ
beside name = name ++ codes ".new"

-- The name has these bytes, no file is beside it, and each other file stands.
pub record Replaced (name bytes : List ℕ) (before after : Files) : Type 0 where
  pub there : after name ≡ Some bytes
  pub gone : after (beside name) ≡ None
  pub others : (other : List ℕ) → other ≢ beside name → other ≢ name → after other ≡ before other

-- what replacing a file does: after a fault each file stands but for the one beside, that of the name too
abbrev pub ReplacesFile : {E : Type 0} → List ℕ → List ℕ → Result (Unit {0}) E → Files → Files → Type 0
ReplacesFile name bytes (Ok done) before after = Replaced name bytes before after
ReplacesFile name bytes (Err fault) before after = KeepsOthers (beside name) before after
