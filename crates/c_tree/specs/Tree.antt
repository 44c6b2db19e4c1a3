-- The tree of a source as plain data.
use Rattle.std.specs.Prelude.{ℕ, List, Option}
use Rattle.c_tree.specs.declared.expr.Base.{Base}
use Rattle.c_tree.specs.Stmt.{Stmts, Var}

-- A parameter. Its place is that of its name, or of its first type word where it has no name.
pub record Param : Type 0 where
  pub base : Base
  pub name : Option (List ℕ)
  pub place : ℕ

-- The head of a function, with the place and line of its name.
pub record Head : Type 0 where
  pub base : Base
  pub name : List ℕ
  pub params : List Param
  pub place : ℕ
  pub line : ℕ

-- A part of a source outside all functions.
pub data Outer : Type 0 where
  Vars : List Var → Outer
  Prototype : Head → Outer
  Function : Head → Stmts → Outer

-- A source: its parts in order, and the end of its last token, or 0 where it has none.
pub record Tree : Type 0 where
  pub outers : List Outer
  pub end : ℕ
