-- Graphs of blocks, as plain data.
use Rattle.std.specs.Prelude.{ℕ, ℤ, Bool, List}
use Rattle.stack_ops.specs.declared.operation.Op.{Op}

-- How a block ends: it goes to a block; goes back to one, which takes a turn; takes a number and goes to the first
-- where it isn't 0, and else to the second; takes a number and goes where a case has it, and else to the default; calls
-- a function, whose name stands on this line, and goes to the block; returns; ends the run.
pub data Ending : Type 0 where
  Jump : ℕ → Ending
  Back : ℕ → Ending
  Branch : ℕ → ℕ → Ending
  Switch : List (ℤ × ℕ) → ℕ → Ending
  Call : ℕ → ℕ → ℕ → Ending
  Return : Ending
  Exit : Ending

-- A block: its operations, its ending, and the lines of the source that it is of, ascending.
pub record Block : Type 0 where
  pub ops : List Op
  pub end : Ending
  pub lines : List ℕ

-- The graph of a function. Its first block is block 2; block 0 is the entry and block 1 the exit.
pub record Graph : Type 0 where
  pub name : List ℕ
  pub line : ℕ
  pub params : ℕ
  pub cells : ℕ
  pub gives : Bool
  pub blocks : List Block

-- The graphs of a source's functions, the numbers that its globals begin with, and the number of `main`.
pub record GraphUnit : Type 0 where
  pub globals : List ℤ
  pub main : ℕ
  pub graphs : List Graph
