-- The functions that a source defines, as the check keeps them.
use Rattle.std.specs.Prelude.{◌≡◌, ℕ, List, position, bytes_eq}
use Rattle.std.specs.Map.{lookup}

-- each name has the number of the first function of this name, where there is one
abbrev pub AreNumbers : List (List ℕ) → List (List ℕ × ℕ) → Type 0
AreNumbers names entries = (name : List ℕ) → lookup (bytes_eq name) entries ≡ position (bytes_eq name) names
