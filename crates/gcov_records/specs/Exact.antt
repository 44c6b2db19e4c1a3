-- What the bytes of a format are: exactly the files that it spells, each way to fall short of one, and bytes behind
-- one.
use Rattle.std.specs.Prelude.{◌≡◌, ◌≢◌, ℕ, List, [], ◌++◌, length, Result, Ok, Err}
use Rattle.gcov_records.specs.declared.fault.FileFault.{FileFault}
use Rattle.gcov_records.specs.declared.fault.FileFault.TheVariants as fault

-- bytes stand behind a file of this many
pub record HasMore {A : Type 0} (Fits : A → Type 0) (spell : A → List ℕ) (bytes : List ℕ) (n : ℕ) : Type 0 where
  pub value : A
  pub fits : Fits value
  pub more : List ℕ
  pub some : more ≢ []
  pub parts : bytes ≡ spell value ++ more
  pub size : n ≡ length (spell value)

-- more bytes make them a file
pub record IsFront {A : Type 0} (Fits : A → Type 0) (spell : A → List ℕ) (bytes : List ℕ) : Type 0 where
  pub value : A
  pub fits : Fits value
  pub more : List ℕ
  pub some : more ≢ []
  pub parts : bytes ++ more ≡ spell value

-- A value is read exactly where it fits and the bytes are its file; each proper front of a file is Short, at its end,
-- and only bytes that end are; Extra is told exactly where bytes stand behind a file, which ends there.
pub record IsExact {A : Type 0} (Fits : A → Type 0) (spell : A → List ℕ) (bytes : List ℕ) (read : Result A FileFault) :
    Type 0 where
  pub ok : (x : A) → read ≡ Ok x → Fits x × (bytes ≡ spell x)
  pub only : (x : A) → Fits x → bytes ≡ spell x → read ≡ Ok x
  pub front : IsFront Fits spell bytes → read ≡ Err (fault.Short (length bytes))
  pub short : (n : ℕ) → read ≡ Err (fault.Short n) → n ≡ length bytes
  pub extra : (n : ℕ) → read ≡ Err (fault.Extra n) → HasMore Fits spell bytes n
  pub more : (n : ℕ) → HasMore Fits spell bytes n → read ≡ Err (fault.Extra n)
