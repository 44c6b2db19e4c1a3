-- What contracts see of the numbers of all calls.
use Rattle.std.specs.Prelude.{ℕ, ◌+◌, ◌-◌, ℤ, pos, List, [], ◌++◌, length, take, drop, reverse, replicate}

-- the numbers of the calls that wait, the cells of the innermost call, its operands, the top first, and for how many
-- numbers there is room
pub record StoreValue : Type 0 where
  pub below : List ℤ
  pub cells : List ℤ
  pub operands : List ℤ
  pub room : ℕ

-- no numbers, with room for so many
abbrev pub nothing_in : ℕ → StoreValue
nothing_in room = record { below = []; cells = []; operands = []; room = room }

-- how many numbers there are
abbrev pub taken : StoreValue → ℕ
taken s = length s.below + length s.cells + length s.operands

-- a call begins, with its arguments from the top
abbrev pub begun : ℕ → ℕ → StoreValue → StoreValue
begun params cells s = record {
  below = s.below ++ (s.cells ++ reverse (drop params s.operands));
  cells = reverse (take params s.operands) ++ replicate (cells - params) (pos 0);
  operands = [];
  room = s.room;
}

-- the call before it, whose cells and operands begin in these places
abbrev pub ended : ℕ → ℕ → StoreValue → StoreValue
ended base floor s = record {
  below = take base s.below;
  cells = take (floor - base) (drop base s.below);
  operands = reverse (drop floor s.below);
  room = s.room;
}
