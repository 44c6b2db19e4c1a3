-- Declarations and statements as plain data.
use Rattle.std.specs.Prelude.{ℕ, List, Option}
use Rattle.c_tree.specs.declared.expr.Base.{Base}
use Rattle.c_tree.specs.Expr.{Expr}

-- What stands behind a variable's name.
pub data Size : Type 0 where
  Scalar : Size
  Unsized : Size
  Len : Expr → Size

-- The initialiser of a variable.
pub data Init : Type 0 where
  Absent : Init
  One : Expr → Init
  Several : List Expr → Init

-- A variable, with the place and line of its name.
pub record Var : Type 0 where
  pub base : Base
  pub name : List ℕ
  pub size : Size
  pub init : Init
  pub place : ℕ
  pub line : ℕ

mutual
  -- A statement or a declaration. The numbers at the end of some are place and line of their word.
  pub data Stmt : Type 0 where
    Vars : List Var → Stmt
    Block : Stmts → Stmt
    Empty : Stmt
    Value : Expr → Stmt
    If : Expr → Stmt → OtherStmt → Stmt
    While : Expr → Stmt → Stmt
    -- the number is the line of its `while`
    DoWhile : Stmt → Expr → ℕ → Stmt
    For : ForHead → Stmt → Stmt
    Switch : Expr → SwitchItems → Stmt
    Break : ℕ → ℕ → Stmt
    Continue : ℕ → ℕ → Stmt
    Return : Option Expr → ℕ → ℕ → Stmt

  -- A statement that may be left out.
  pub data OtherStmt : Type 0 where
    Nothing : OtherStmt
    There : Stmt → OtherStmt

  -- What stands in the parentheses of a `for`.
  pub data ForHead : Type 0 where
    Head : OtherStmt → Option Expr → Option Expr → ForHead

  -- A list of statements.
  pub data Stmts : Type 0 where
    End : Stmts
    More : Stmt → Stmts → Stmts

  -- A label with its place, or an item, in the braces of a `switch`.
  pub data SwitchItem : Type 0 where
    Case : Expr → ℕ → SwitchItem
    Default : ℕ → SwitchItem
    Item : Stmt → SwitchItem

  -- A list of them.
  pub data SwitchItems : Type 0 where
    Last : SwitchItems
    Further : SwitchItem → SwitchItems → SwitchItems
