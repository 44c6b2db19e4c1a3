-- Items are read from left to right. The first fault that is met is told: where the bytes end within an item that is
-- due, or, where the item stands whole, that it isn't one that may stand there.
use Rattle.std.specs.Prelude.{
  ◌≡◌,
  ◌≢◌,
  ℕ,
  zero,
  suc,
  ◌+◌,
  ◌/◌,
  ◌%◌,
  ◌==◌,
  nat_lt,
  nat_le,
  Bool,
  if◌then◌else◌,
  List,
  [],
  ◌∷◌,
  length,
  take,
  drop,
  Result,
  Ok,
  Err,
}
use Rattle.std.specs.Int.{Width, w32, w64, byte_len, from_le_bytes}
use Rattle.cov_base.specs.declared.refusal.Refusal.{Refusal}
use Rattle.cov_base.specs.declared.refusal.Refusal.TheVariants as refusal
use Rattle.gcov_items.specs.Items.{ReaderValue, left}
use Rattle.gcov_records.specs.declared.fault.FileFault.{FileFault}
use Rattle.gcov_records.specs.declared.fault.FileFault.TheVariants as fault

-- a value that was read, the bytes behind it, and the place of these
pub record Got (A : Type 0) : Type 0 where
  pub value : A
  pub rest : List ℕ
  pub at : ℕ

-- to read is to take bytes, the first of which stands at a place, for a value or a fault
abbrev pub Reading : Type 0 → Type 0
Reading A = List ℕ → ℕ → Result (Got A) FileFault

-- what comes behind a value
abbrev pub on_got : {A B : Type 0} → Result (Got A) FileFault → (A → Reading B) → Result (Got B) FileFault
on_got (Ok got) next = next got.value got.rest got.at
on_got (Err found) next = Err found

infixl 10 ◌>>=◌
-- one is read, and then what comes behind it
abbrev pub ◌>>=◌ : {A B : Type 0} → Reading A → (A → Reading B) → Reading B
first >>= next = λ bytes at. on_got (first bytes at) next

-- nothing more is read
abbrev pub give : {A : Type 0} → A → Reading A
give x = λ bytes at. Ok (record { value = x; rest = bytes; at = at })

-- a value that passes a test, else a fault
abbrev pub only_if : {A : Type 0} → (A → Bool) → FileFault → Result (Got A) FileFault → Result (Got A) FileFault
only_if test found (Ok got) = if test got.value then Ok got else Err found
only_if test found (Err other) = Err other

-- an item that must pass a test; if it doesn't, the fault stands at its first byte
abbrev pub tested : {A : Type 0} → (A → Bool) → (ℕ → FileFault) → Reading A → Reading A
tested test found item = λ bytes at. only_if test (found at) (item bytes at)

-- the next number of so many bytes; where the bytes end before, the place is their end
abbrev pub number : Width → Reading ℕ
number w = λ bytes at. if nat_lt (length bytes) (byte_len w) then Err (fault.Short (at + length bytes)) else
    Ok (record {
      value = from_le_bytes w (take (byte_len w) bytes);
      rest = drop (byte_len w) bytes;
      at = at +
          byte_len w;
    })

-- the next word
abbrev pub word : Reading ℕ
word = number w32

-- the next long
abbrev pub long : Reading ℕ
long = number w64

-- this word
abbrev pub fixed : ℕ → (ℕ → FileFault) → Reading ℕ
fixed n found = tested (λ w. w == n) found word

-- a record with this tag and this length of its contents
abbrev pub header : ℕ → ℕ → Reading ℕ
header tag size = fixed tag fault.Tag >>= λ t. fixed size fault.Length

-- so many values more, each with its number, which the first has from here on
abbrev pub each : {A : Type 0} → ℕ → ℕ → (ℕ → Reading A) → Reading (List A)
each i zero item = give []
each i (suc n) item = item i >>= λ x. each (i + 1) n item >>= λ xs. give (x ∷ xs)

-- the length of a record of longs
abbrev pub long_size : Reading ℕ
long_size = tested (λ n. n % 8 == 0) fault.Length word

-- a long that is at most a limit, whatever its number
abbrev pub limited : ℕ → ℕ → Reading ℕ
limited limit i = tested (λ n. nat_le n limit) fault.Number long

-- a record of longs that are at most a limit
abbrev pub longs : ℕ → ℕ → Reading (List ℕ)
longs tag limit = fixed tag fault.Tag >>= λ t. long_size >>= λ size. each 0 (size / 8) (limited limit)

-- no byte is left
abbrev pub ended : {A : Type 0} → Result (Got A) FileFault → Result A FileFault
ended (Ok got) = if length got.rest == 0 then Ok got.value else Err (fault.Extra got.at)
ended (Err found) = Err found

-- all of the bytes
abbrev pub whole : {A : Type 0} → Reading A → List ℕ → Result A FileFault
whole file bytes = ended (file bytes 0)

-- A call that goes on over items gave, seen by view, what reading gives, and stands behind it, unless memory ran out.
abbrev pub Gives :
    {X A : Type 0} → (X → A) → Reading A → ReaderValue → ReaderValue → Result X (Refusal FileFault) → Type 0
Gives view item old new (Ok x) =
    item (left old) old.at ≡ Ok (record { value = view x; rest = left new; at = new.at })
Gives view item old new (Err (refusal.Refused found)) = item (left old) old.at ≡ Err found
Gives view item old new (Err refusal.NoMemory) = Unit {0}

-- the fault of bytes that end, at their end
abbrev pub short_at : ReaderValue → FileFault
short_at r = fault.Short (r.at + length (left r))

-- A call told whether nothing is left; memory doesn't run out.
abbrev pub Ends : {X : Type 0} → ReaderValue → Result X (Refusal FileFault) → Type 0
Ends r (Ok x) = length (left r) ≡ 0
Ends r (Err (refusal.Refused found)) = (length (left r) ≢ 0) × (found ≡ fault.Extra r.at)
Ends r (Err refusal.NoMemory) = ⊥

-- A call gave what was read, unless memory ran out.
abbrev pub Tells : {A : Type 0} → Result A FileFault → Result A (Refusal FileFault) → Type 0
Tells read (Ok x) = read ≡ Ok x
Tells read (Err (refusal.Refused found)) = read ≡ Err found
Tells read (Err refusal.NoMemory) = Unit {0}
