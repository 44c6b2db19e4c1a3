-- The notes of a program, and which may be written.
use Rattle.std.specs.Prelude.{ℕ, ◌+◌, ◌*◌, ◌≤◌, ◌==◌, ◌&&◌, ◌||◌, not, Bool, false, List, [], ◌∷◌}
use Rattle.std.specs.Prelude.{length}
use Rattle.std.specs.Char.{is_ascii_alphanumeric, is_ascii_digit}
use Rattle.std.specs.List.{list_all}
use Rattle.cov_base.specs.Net.{NetValue}

-- the name of a function, its line, and its net with the checksum
pub record FunctionNotesValue : Type 0 where
  pub name : List ℕ
  pub line : ℕ
  pub checksum : ℕ
  pub net : NetValue

-- the stamp of a program, its limit of paths, and its functions
pub record NotesValue : Type 0 where
  pub stamp : ℕ
  pub limit : ℕ
  pub functions : List FunctionNotesValue

-- the greatest limit of paths
abbrev pub path_limit : ℕ
path_limit = 65536

-- the greatest word
abbrev pub word_limit : ℕ
word_limit = 4294967295

-- a letter, a digit or `_`
abbrev pub is_name_byte : ℕ → Bool
is_name_byte b = is_ascii_alphanumeric b || (b == 95)

-- a name of C: letters, digits and `_`, of which the first is no digit
abbrev pub is_name : List ℕ → Bool
is_name [] = false
is_name (b ∷ bytes) = not (is_ascii_digit b) && list_all is_name_byte (b ∷ bytes)

-- a list of lines whose record has a length of one word
abbrev pub FitsRecord : List ℕ → Type 0
FitsRecord lines = 4 + 4 * length lines ≤ word_limit
