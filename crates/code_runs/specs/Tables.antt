-- The table of a function: the row with which a call begins, and then the rows that PathPass names, one after another.
use Rattle.std.specs.Prelude.{ℕ, zero, suc, ◌+◌, ◌*◌, ◌/◌, nat_lt, nat_le, ◌&&◌, cond, List, [], ◌∷◌, length, take}
use Rattle.std.specs.Prelude.{drop, Option, Some, None, slice_index_or}
use Rattle.std.specs.Option.{option_or}

-- how many words hold a bit for each of so many paths
abbrev pub words_in : ℕ → ℕ
words_in paths = (paths + 63) / 64

-- how many numbers the first row of a table takes: the number of its entries, and then so many for each
abbrev pub row_length : ℕ → List ℕ → ℕ
row_length size table = 1 + size * slice_index_or table 0 0

-- the first row of a table
abbrev pub front_row : ℕ → List ℕ → List ℕ
front_row size table = take (row_length size table) table

-- the table behind its first row
abbrev pub behind_row : ℕ → List ℕ → List ℕ
behind_row size table = drop (row_length size table) table

-- the row with which a call begins, whose entries have three numbers
abbrev pub begin_of : List ℕ → List ℕ
begin_of table = front_row 3 table

-- the table from the row of this number on, whose entries have four numbers
abbrev pub passes_from : ℕ → List ℕ → List ℕ
passes_from zero table = table
passes_from (suc n) table = passes_from n (behind_row 4 table)

-- the row that PathPass names by this number
abbrev pub pass_of : ℕ → List ℕ → List ℕ
pass_of n table = front_row 4 (passes_from n (behind_row 3 table))

-- ---- rules

-- what is wrong with a table, with the place in it: a row has more entries than there are words, or the table ends
-- within a row or has numbers left over
pub data TableFault : Type 0 where
  TooMany : ℕ → TableFault
  OtherLength : ℕ → TableFault

-- The words of these entries, so many numbers each, ascend from the least that may stand, and are below the number of
-- words; else the place of the first that doesn't. The first of the entries is at the place `at`.
abbrev pub word_fault : ℕ → ℕ → ℕ → ℕ → ℕ → List ℕ → Option ℕ
word_fault size words zero least at row = None
word_fault size words (suc n) least at row =
    let i : ℕ = slice_index_or row 0 0 in
    cond (nat_le least i && nat_lt i words) (word_fault size words n (suc i) (at + size) (drop size row)) (Some at)

-- what goes on behind a row that is there, where the row has no more entries than there are words
abbrev pub with_row : ℕ → ℕ → ℕ → List ℕ → (ℕ → List ℕ → Option TableFault) → Option TableFault
with_row size words at [] then = Some (OtherLength at)
with_row size words at (n ∷ rest) then =
    cond (nat_le n words)
    (cond (nat_le (size * n) (length rest)) (then (at + 1 + size * n) (drop (size * n) rest))
    (Some (OtherLength (at + suc (length rest)))))
    (Some (TooMany at))

-- nothing is left behind the last row
abbrev pub ends_there : ℕ → List ℕ → Option TableFault
ends_there at [] = None
ends_there at (n ∷ rest) = Some (OtherLength (at + suc (length rest)))

-- so many rows, whose entries have four numbers
abbrev pub rows_fault : ℕ → ℕ → ℕ → List ℕ → Option TableFault
rows_fault words zero at table = ends_there at table
rows_fault words (suc n) at table = with_row 4 words at table (λ at rest. rows_fault words n at rest)

-- Whether a table is the begin row and so many rows more, none with more entries than there are words: the first place
-- where it isn't. A function without paths has no table.
abbrev pub layout_fault : ℕ → ℕ → List ℕ → Option TableFault
layout_fault zero passes table = ends_there 0 table
layout_fault (suc paths) passes table =
    with_row 3 (words_in (suc paths)) 0 table (λ at rest. rows_fault (words_in (suc paths)) passes at rest)

-- the place of the first entry of these rows whose word doesn't ascend or isn't there
abbrev pub rows_word : ℕ → ℕ → ℕ → List ℕ → Option ℕ
rows_word words zero at table = None
rows_word words (suc n) at table =
    option_or (word_fault 4 words (slice_index_or table 0 0) 0 (at + 1) (drop 1 table))
    (rows_word words n (at + row_length 4 table) (behind_row 4 table))

-- the place of the first entry of a table whose word doesn't ascend or isn't there
abbrev pub table_word : ℕ → ℕ → List ℕ → Option ℕ
table_word zero passes table = None
table_word (suc paths) passes table =
    let words : ℕ = words_in (suc paths) in
    option_or (word_fault 3 words (slice_index_or table 0 0) 0 1 (drop 1 table))
    (rows_word words passes (row_length 3 table) (behind_row 3 table))
