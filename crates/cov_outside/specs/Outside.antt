-- What an answer of the outside says: the bytes and files where they are told, and the counts of faults
-- and of wants of memory.
use Rattle.std.specs.Prelude.{◌≡◌, ◌⊎◌, ◌↔◌, ◌<◌, ◌≤◌, ◌+◌, ◌-◌, ◌^◌, ℕ, List, [], ◌++◌, length, take, drop, Option, Some, None, Result, Ok, Err, Vec, bytes_eq, if◌then◌else◌}
use Rattle.std.specs.Global.{Global}
use Rattle.cov_outside.specs.declared.faults.SinkFault.{SinkFault}
use Rattle.cov_outside.specs.declared.faults.LoadFault.{LoadFault}
use Rattle.cov_outside.specs.declared.faults.LoadFault.TheVariants as load_fault
use Rattle.cov_outside.specs.declared.faults.ReadRefusal.{ReadRefusal}
use Rattle.cov_outside.specs.declared.faults.ReadRefusal.TheVariants as read_refusal

-- The files by name.
abbrev pub Files : Type 0
Files = List ℕ → Option (List ℕ)

-- a count rose, or stands at the greatest number that it can hold
abbrev pub Rose : ℕ → ℕ → Type 0
Rose before now = (before < now) ⊎ (now ≡ 2 ^ 64 - 1)

-- the count never fell, stayed at the greatest number if it was there, and rose where this fault is the answer
pub record HasCause (before now : ℕ) (fault : Type 0) : Type 0 where
  pub later : before ≤ now
  pub stays : before ≡ 2 ^ 64 - 1 → now ≡ 2 ^ 64 - 1
  pub risen : fault → Rose before now

-- The first n bytes were taken and stand at the front of the piece; for a piece with room n is 0 where no byte remains, and only
-- there.
pub record TakesFront (before : List ℕ) (after : Option (List ℕ)) (n : ℕ) (piece : List ℕ) : Type 0 where
  pub front : take n piece ≡ take n before
  pub rest : after ≡ Some (drop n before)
  pub enough : n ≤ length before
  pub ends : 0 < length piece → (n ≡ 0) ↔ (before ≡ [])

-- what a read does to the bytes that no read took yet; what isn't told stays untold
abbrev pub Reads : {E : Type 0} → Option (List ℕ) → Option (List ℕ) → Result ℕ E → List ℕ → Type 0
Reads (Some before) after (Ok n) piece = TakesFront before after n piece
Reads (Some before) after (Err fault) piece = after ≡ Some before
Reads None after result piece = after ≡ None

-- some of the bytes were taken
abbrev pub TakesSome : List ℕ → Option (List ℕ) → Type 0
TakesSome before after = (n : ℕ) × (n ≤ length before) × (after ≡ Some (drop n before))

-- What reading to the end does to the bytes that no read took yet: all of them were read, or the limit and one more byte
-- were taken where there are more than that; what isn't told stays untold.
abbrev pub ReadsAll : Option (List ℕ) → Option (List ℕ) → ℕ → Result (Vec ℕ Global) ReadRefusal → Type 0
ReadsAll (Some before) after limit (Ok bytes) = (bytes.items ≡ before) × (after ≡ Some [])
ReadsAll (Some before) after limit (Err read_refusal.TooLong) =
    (limit < length before) × (after ≡ Some (drop (limit + 1) before))
ReadsAll (Some before) after limit (Err read_refusal.Failed) = TakesSome before after
ReadsAll (Some before) after limit (Err read_refusal.NoMemory) = TakesSome before after
ReadsAll None after limit result = after ≡ None

-- what a write does to the bytes written; what isn't told stays untold
abbrev pub Writes : Option (List ℕ) → Option (List ℕ) → Result ℕ SinkFault → List ℕ → Type 0
Writes (Some before) after (Ok n) piece = after ≡ Some (before ++ take n piece)
Writes (Some before) after (Err fault) piece = after ≡ Some before
Writes None after result piece = after ≡ None

-- what writing a whole text does: all of it, or after a fault its first bytes
abbrev pub WritesAll : Option (List ℕ) → Option (List ℕ) → Result (Unit {0}) SinkFault → List ℕ → Type 0
WritesAll (Some before) after (Ok done) bytes = after ≡ Some (before ++ bytes)
WritesAll (Some before) after (Err fault) bytes = (n : ℕ) × (n ≤ length bytes) × (after ≡ Some (before ++ take n bytes))
WritesAll None after result bytes = after ≡ None

-- there is a file, and it is longer than the limit
abbrev pub IsLonger : ℕ → Option (List ℕ) → Type 0
IsLonger limit None = ⊥
IsLonger limit (Some bytes) = limit < length bytes

-- what a load says of the files; Failed and NoMemory say nothing
abbrev pub Loads : Option Files → List ℕ → ℕ → Result (Option (Vec ℕ Global)) LoadFault → Type 0
Loads (Some files) name limit (Ok None) = files name ≡ None
Loads (Some files) name limit (Ok (Some bytes)) = files name ≡ Some bytes.items
Loads (Some files) name limit (Err load_fault.TooLong) = IsLonger limit (files name)
Loads (Some files) name limit (Err load_fault.Failed) = Unit {0}
Loads (Some files) name limit (Err load_fault.NoMemory) = Unit {0}
Loads None name limit result = Unit {0}

-- the files once these bytes stand under the name
abbrev pub put_file : List ℕ → List ℕ → Files → Files
put_file name bytes before other = if bytes_eq name other then Some bytes else before other

-- what a replace does to the files; what isn't told stays untold
abbrev pub Replaces : Option Files → Option Files → List ℕ → List ℕ → Result (Unit {0}) SinkFault → Type 0
Replaces (Some before) after name bytes (Ok done) = after ≡ Some (put_file name bytes before)
Replaces (Some before) after name bytes (Err fault) = after ≡ Some before
Replaces None after name bytes result = after ≡ None
