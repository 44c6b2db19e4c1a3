-- What contracts see of the path bits of all calls.
use Rattle.std.specs.Prelude.{ℕ, List, [], ◌++◌, take, drop, replicate}

-- the words of the calls that wait, those of the innermost call, and for how many words there is room
pub record BitsValue : Type 0 where
  pub below : List ℕ
  pub bits : List ℕ
  pub room : ℕ

-- no words, with room for so many
abbrev pub no_bits_in : ℕ → BitsValue
no_bits_in room = record { below = []; bits = []; room = room }

-- a call begins with so many words, all 0
abbrev pub begun_with : ℕ → BitsValue → BitsValue
begun_with words s = record { below = s.below ++ s.bits; bits = replicate words 0; room = s.room }

-- the call before it, whose words begin in this place
abbrev pub back_to : ℕ → BitsValue → BitsValue
back_to place s = record { below = take place s.below; bits = drop place s.below; room = s.room }
