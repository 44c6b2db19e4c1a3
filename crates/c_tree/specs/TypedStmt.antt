-- Statements whose expressions have types, as plain data.
use Rattle.std.specs.Prelude.{ℕ, ℤ, List, Option}
use Rattle.int_ops.specs.declared.types.IntType.{IntType}
use Rattle.c_tree.specs.TypedExpr.{TypedExpr}

-- The initialiser of a local variable.
pub data TypedInit : Type 0 where
  Absent : TypedInit
  One : TypedExpr → TypedInit
  Several : List TypedExpr → TypedInit

-- A local variable: its first cell, its length where it is an array, and the place and line of its name.
pub record TypedVar : Type 0 where
  pub cell : ℕ
  pub number_type : IntType
  pub length : Option ℕ
  pub init : TypedInit
  pub place : ℕ
  pub line : ℕ

mutual
  -- A statement or a declaration. The numbers at the end of some are place and line of their word.
  pub data TypedStmt : Type 0 where
    Vars : List TypedVar → TypedStmt
    Block : TypedStmts → TypedStmt
    Empty : TypedStmt
    Value : TypedExpr → TypedStmt
    If : TypedExpr → TypedStmt → OtherTyped → TypedStmt
    While : TypedExpr → TypedStmt → TypedStmt
    -- the number is the line of its `while`
    DoWhile : TypedStmt → TypedExpr → ℕ → TypedStmt
    For : TypedForHead → TypedStmt → TypedStmt
    Switch : TypedExpr → TypedItems → TypedStmt
    Break : ℕ → ℕ → TypedStmt
    Continue : ℕ → ℕ → TypedStmt
    Return : Option TypedExpr → ℕ → ℕ → TypedStmt

  -- A statement that may be left out.
  pub data OtherTyped : Type 0 where
    Nothing : OtherTyped
    There : TypedStmt → OtherTyped

  -- What stands in the parentheses of a `for`.
  pub data TypedForHead : Type 0 where
    Head : OtherTyped → Option TypedExpr → Option TypedExpr → TypedForHead

  -- A list of statements.
  pub data TypedStmts : Type 0 where
    End : TypedStmts
    More : TypedStmt → TypedStmts → TypedStmts

  -- A label with its place, or an item, in the braces of a `switch`.
  pub data TypedItem : Type 0 where
    Case : ℤ → ℕ → TypedItem
    Default : ℕ → TypedItem
    Item : TypedStmt → TypedItem

  -- A list of them.
  pub data TypedItems : Type 0 where
    Last : TypedItems
    Further : TypedItem → TypedItems → TypedItems
