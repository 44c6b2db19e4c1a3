-- What contracts see of the operands, and of the input and output of a run.
use Rattle.std.specs.Prelude.{ℕ, ℤ, List, reverse, drop}

-- numbers, the first pushed first, and for how many there is room
pub record StackValue : Type 0 where
  pub numbers : List ℤ
  pub room : ℕ

-- the bytes of the input, how many of them were read, the bytes that were put, and how many may be
pub record IoValue : Type 0 where
  pub input : List ℕ
  pub place : ℕ
  pub output : List ℕ
  pub limit : ℕ

-- the operands: the numbers with the last pushed, the top, first
abbrev pub operands : StackValue → List ℤ
operands stack = reverse stack.numbers

-- the bytes that were not read yet
abbrev pub bytes_left : IoValue → List ℕ
bytes_left io = drop io.place io.input
