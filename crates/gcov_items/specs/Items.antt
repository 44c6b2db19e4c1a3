-- How items of files are spelled, and what it is to read or to write one. Words and longs have their low byte first;
-- a string is the number of its bytes with the NUL behind them, as a word, and these bytes, and the empty string is
-- the word 0; a record begins with its tag and the length of its contents.
use Rattle.std.specs.Prelude.{
  ◌≡◌,
  ◌≢◌,
  ℕ,
  ◌+◌,
  ◌<◌,
  ◌⊎◌,
  List,
  [],
  ◌∷◌,
  ◌++◌,
  length,
  drop,
  Bool,
  true,
  false,
  Result,
  Ok,
  Err,
}
use Rattle.std.specs.List.{All}
use Rattle.std.specs.Int.{to_le_bytes, w32, w64}
use Rattle.gcov_items.specs.declared.reader.StringFault.{StringFault}
use Rattle.gcov_items.specs.declared.reader.StringFault.TheVariants as fault

-- bytes, and how many of them were read
pub record ReaderValue : Type 0 where
  pub bytes : List ℕ
  pub at : ℕ

-- the bytes that weren't read yet
abbrev pub left : ReaderValue → List ℕ
left r = drop r.at r.bytes

-- ---- spelling

-- a word
abbrev pub word_bytes : ℕ → List ℕ
word_bytes n = to_le_bytes w32 n

-- a long
abbrev pub long_bytes : ℕ → List ℕ
long_bytes n = to_le_bytes w64 n

-- a text's string
abbrev pub string_bytes : List ℕ → List ℕ
string_bytes [] = word_bytes 0
string_bytes (b ∷ text) = word_bytes (length (b ∷ text) + 1) ++ ((b ∷ text) ++ 0 ∷ [])

-- the tag of a record and the length of its contents
abbrev pub header_bytes : ℕ × ℕ → List ℕ
header_bytes header = word_bytes header.0 ++ word_bytes header.1

-- no byte is NUL
abbrev pub HasNoNul : List ℕ → Type 0
HasNoNul text = All (λ b. b ≢ 0) text

-- ---- reading

-- the reader has gone on over this item, of so many bytes
pub record Takes (item : List ℕ) (size : ℕ) (old new : ReaderValue) : Type 0 where
  pub front : left old ≡ item ++ left new
  pub bytes : new.bytes ≡ old.bytes
  pub at : new.at ≡ old.at + size

-- an item of so many bytes was read, or fewer bytes are left and the reader stays at its place
abbrev pub Reads : {A F : Type 0} → (A → List ℕ) → ℕ → ReaderValue → ReaderValue → Result A F → Type 0
Reads spelled size old new (Ok x) = Takes (spelled x) size old new
Reads spelled size old new (Err e) = (length (left old) < size) × (new ≡ old)

-- the string of a text was read
abbrev pub TakesString : List ℕ → ReaderValue → ReaderValue → Type 0
TakesString text old new = HasNoNul text × Takes (string_bytes text) (length (string_bytes text)) old new

-- whether nothing is left
abbrev pub EndsHere : ReaderValue → Bool → Type 0
EndsHere r true = left r ≡ []
EndsHere r false = left r ≢ []

-- bytes end within a string: within its word, or within as many bytes as this says
abbrev pub IsShortString : List ℕ → Type 0
IsShortString bytes =
    (length bytes < 4) ⊎ (n : ℕ) × (rest : List ℕ) × (bytes ≡ word_bytes n ++ rest) × (length rest < n)

-- the bytes of the string of a text: some without NUL, and a NUL behind them
abbrev pub IsBodyOf : List ℕ → List ℕ → Type 0
IsBodyOf body text = (0 < length text) × HasNoNul text × (body ≡ text ++ 0 ∷ [])

-- as many bytes as a word says, one at least, stand behind it, and they are those of no string
pub record IsNoString (bytes : List ℕ) : Type 0 where
  pub size : ℕ
  pub body : List ℕ
  pub rest : List ℕ
  pub front : bytes ≡ word_bytes size ++ (body ++ rest)
  pub whole : length body ≡ size
  pub some : 0 < size
  pub none : (text : List ℕ) → IsBodyOf body text → ⊥

-- why no string was read; the reader stays at its place
abbrev pub Refuses : ReaderValue → ReaderValue → StringFault → Type 0
Refuses old new fault.Short = IsShortString (left old) × (new ≡ old)
Refuses old new fault.Text = IsNoString (left old) × (new ≡ old)

-- ---- writing

-- an item was added to what was written, or nothing has changed
abbrev pub Puts : {A F : Type 0} → List ℕ → List ℕ → List ℕ → Result A F → Type 0
Puts item old new (Ok x) = new ≡ old ++ item
Puts item old new (Err e) = new ≡ old

-- an item was added, or some bytes of it
abbrev pub PutsSome : {A F : Type 0} → List ℕ → List ℕ → List ℕ → Result A F → Type 0
PutsSome item old new (Ok x) = new ≡ old ++ item
PutsSome item old new (Err e) = (front : List ℕ) × (new ≡ old ++ front)
