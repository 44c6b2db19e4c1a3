-- A source whose names and types are known, as plain data.
use Rattle.std.specs.Prelude.{ℕ, ℤ, List}
use Rattle.int_ops.specs.declared.types.IntType.{IntType}
use Rattle.c_tree.specs.declared.expr.Base.{Base}
use Rattle.c_tree.specs.TypedStmt.{TypedStmts}

-- A function, and how many cells its frame has.
pub record TypedFunction : Type 0 where
  pub name : List ℕ
  pub line : ℕ
  pub result : Base
  pub params : List IntType
  pub cells : ℕ
  pub body : TypedStmts

-- A source: its functions in the order of their definitions, the numbers that its globals begin with, and the number of
-- `main`.
pub record Typed : Type 0 where
  pub functions : List TypedFunction
  pub globals : List ℤ
  pub main : ℕ
