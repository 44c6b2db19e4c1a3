-- What the laws of rows say.
use Rattle.std.specs.Prelude.{◌≡◌, List}
use Rattle.word_rules.specs.WordRules.{BeginEntry, PassEntry, begin_spelled, pass_spelled, begin_row, pass_row}

-- a begin row is read back from what spells it
abbrev pub BeginRowsReadBack : Type 0
BeginRowsReadBack = (row : List BeginEntry) → begin_row (begin_spelled row) ≡ row

-- the row of an arc is read back from what spells it
abbrev pub PassRowsReadBack : Type 0
PassRowsReadBack = (row : List PassEntry) → pass_row (pass_spelled row) ≡ row
