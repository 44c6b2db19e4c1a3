-- The names of a program's files.
use Rattle.std.specs.Prelude.{ℕ, ◌-◌, List, ◌++◌, length, take, codes}

-- the code file of a program
abbrev pub code_name : List ℕ → List ℕ
code_name name = name ++ codes ".code"

-- its notes
abbrev pub notes_name : List ℕ → List ℕ
notes_name name = name ++ codes ".gcno"

-- its data
abbrev pub data_name : List ℕ → List ℕ
data_name name = name ++ codes ".gcda"

-- its source
abbrev pub source_name : List ℕ → List ℕ
source_name name = name ++ codes ".c"

-- a source's name without its `.c`
abbrev pub stem : List ℕ → List ℕ
stem source = take (length source - 2) source
