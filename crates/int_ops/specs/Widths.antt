-- The widths that numbers are held at.
use Rattle.std.specs.Prelude.{◌≡◌, ◌⊎◌, ℕ}

-- the number of bits is 8, 16, 32 or 64
abbrev pub IsWidth : ℕ → Type 0
IsWidth bits = (bits ≡ 8) ⊎ (bits ≡ 16) ⊎ (bits ≡ 32) ⊎ (bits ≡ 64)
