-- A program as plain lists.
use Rattle.std.specs.Prelude.{ℕ, ℤ, Bool, List}
use Rattle.stack_ops.specs.declared.operation.Op.{Op}

-- a function: how many parameters, cells and operands at most it has, whether it gives a number, the checksum of its
-- net, how many
-- counters, paths and rows of its table there are, its operations, and the words of its table
pub record FunctionValue : Type 0 where
  pub params : ℕ
  pub cells : ℕ
  pub depth : ℕ
  pub gives : Bool
  pub checksum : ℕ
  pub counters : ℕ
  pub paths : ℕ
  pub passes : ℕ
  pub ops : List Op
  pub table : List ℕ

-- a program: its stamp, whether it counts, the number of its main function, its globals as they are at the start, and
-- its functions
pub record CodeValue : Type 0 where
  pub stamp : ℕ
  pub covered : Bool
  pub main : ℕ
  pub globals : List ℤ
  pub functions : List FunctionValue
