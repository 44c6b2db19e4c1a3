-- What becomes of an output.
use Rattle.std.specs.Prelude.{ℕ, Bool, true, false, List, [], ◌∷◌, ◌++◌}

-- a byte stands behind the others, where it was put
abbrev pub with_byte : Bool → ℕ → List ℕ → List ℕ
with_byte true byte bytes = bytes ++ byte ∷ []
with_byte false byte bytes = bytes
