-- What the grammar says of a tree, beyond its form (C17 6.4 to 6.9): lines are those of a source, numbers lie in their
-- types, steps are by
-- `+` or `-`, no comparison is joined to `=`, and what the grammar asks to be there is there.
use Rattle.std.specs.Prelude.{◌≤◌, List, length, Option, Some, None}
use Rattle.int_ops.specs.declared.operators.BinOp.{BinOp}
use Rattle.int_ops.specs.Ranges.{Range}
use Rattle.c_tree.specs.Expr.{Expr, Kind, Exprs}
use Rattle.c_tree.specs.Stmt.{Size, Init, Var, Stmt, OtherStmt, ForHead, Stmts, SwitchItem, SwitchItems}
use Rattle.c_tree.specs.Tree.{Head, Outer, Tree}
use Rattle.cov_base.specs.Limits.{level_limit}
use Rattle.c_tree.specs.Levels.{tree_levels}
use Rattle.c_tree.specs.Sound.{IsLine, IsName, IsStep, Each}
use Rattle.c_tree.specs.TypedParts.{Class, class, compares, shifts, computes}

-- the operator is none that compares
abbrev pub IsNoComparison : Class → Type 0
IsNoComparison compares = ⊥
IsNoComparison shifts = Unit {0}
IsNoComparison computes = Unit {0}

-- the operator of an assignment (C17 6.5.16)
abbrev pub Assigns : Option BinOp → Type 0
Assigns None = Unit {0}
Assigns (Some o) = IsNoComparison (class o)

abbrev mutual
  -- an expression
  pub FormedExpr : Expr → Type 0
  FormedExpr (Expr.At kind place line) = IsLine line × FormedKind kind

  -- its form
  pub FormedKind : Kind → Type 0
  FormedKind (Kind.Name name) = Unit {0}
  FormedKind (Kind.Number n t) = Range t n
  FormedKind Kind.EofName = Unit {0}
  FormedKind (Kind.Paren e) = FormedExpr e
  FormedKind (Kind.Call name args) = FormedExprs args
  FormedKind (Kind.Index name place line e) = IsLine line × FormedExpr e
  FormedKind (Kind.Plus e) = FormedExpr e
  FormedKind (Kind.Minus e) = FormedExpr e
  FormedKind (Kind.Complement e) = FormedExpr e
  FormedKind (Kind.Not e) = FormedExpr e
  FormedKind (Kind.Cast to e) = FormedExpr e
  FormedKind (Kind.Binary o l r) = FormedExpr l × FormedExpr r
  FormedKind (Kind.AndAlso l r) = FormedExpr l × FormedExpr r
  FormedKind (Kind.OrElse l r) = FormedExpr l × FormedExpr r
  FormedKind (Kind.Choose c x y) = FormedExpr c × FormedExpr x × FormedExpr y
  FormedKind (Kind.Assign o l r) = Assigns o × FormedExpr l × FormedExpr r
  FormedKind (Kind.Before o e) = IsStep o × FormedExpr e
  FormedKind (Kind.After o e) = IsStep o × FormedExpr e
  FormedKind (Kind.Comma l r) = FormedExpr l × FormedExpr r

  -- expressions
  pub FormedExprs : Exprs → Type 0
  FormedExprs Exprs.End = Unit {0}
  FormedExprs (Exprs.More e es) = FormedExpr e × FormedExprs es

-- an expression that may be left out
abbrev pub FormedIf : Option Expr → Type 0
FormedIf None = Unit {0}
FormedIf (Some e) = FormedExpr e

-- what stands behind a variable's name
abbrev pub FormedSize : Size → Type 0
FormedSize (Size.Len e) = FormedExpr e
FormedSize Size.Scalar = Unit {0}
FormedSize Size.Unsized = Unit {0}

-- an initialiser; a list isn't empty (C17 6.7.9)
abbrev pub FormedInit : Init → Type 0
FormedInit Init.Absent = Unit {0}
FormedInit (Init.One e) = FormedExpr e
FormedInit (Init.Several es) = (1 ≤ length es) × Each FormedExpr es

-- a variable
pub record FormedVar (v : Var) : Type 0 where
  pub line : IsLine v.line
  pub size : FormedSize v.size
  pub init : FormedInit v.init

-- the variables of a declaration: there is one at least (C17 6.7)
abbrev pub FormedVars : List Var → Type 0
FormedVars vars = (1 ≤ length vars) × Each FormedVar vars

-- the first part of a `for` is a declaration or an expression (C17 6.8.5)
abbrev pub IsFirstPart : OtherStmt → Type 0
IsFirstPart OtherStmt.Nothing = Unit {0}
IsFirstPart (OtherStmt.There (Stmt.Vars vars)) = Unit {0}
IsFirstPart (OtherStmt.There (Stmt.Value e)) = Unit {0}
IsFirstPart _ = ⊥

abbrev mutual
  -- a statement
  pub FormedStmt : Stmt → Type 0
  FormedStmt (Stmt.Vars vars) = FormedVars vars
  FormedStmt (Stmt.Block ss) = FormedStmts ss
  FormedStmt Stmt.Empty = Unit {0}
  FormedStmt (Stmt.Value e) = FormedExpr e
  FormedStmt (Stmt.If e s other) = FormedExpr e × FormedStmt s × FormedOther other
  FormedStmt (Stmt.While e s) = FormedExpr e × FormedStmt s
  FormedStmt (Stmt.DoWhile s e line) = FormedStmt s × FormedExpr e × IsLine line
  FormedStmt (Stmt.For head s) = FormedForHead head × FormedStmt s
  FormedStmt (Stmt.Switch e is) = FormedExpr e × FormedItems is
  FormedStmt (Stmt.Break place line) = IsLine line
  FormedStmt (Stmt.Continue place line) = IsLine line
  FormedStmt (Stmt.Return e place line) = IsLine line × FormedIf e

  -- a statement that may be left out
  pub FormedOther : OtherStmt → Type 0
  FormedOther OtherStmt.Nothing = Unit {0}
  FormedOther (OtherStmt.There s) = FormedStmt s

  -- the parentheses of a `for`
  pub FormedForHead : ForHead → Type 0
  FormedForHead (ForHead.Head first test step) = IsFirstPart first × FormedOther first × FormedIf test × FormedIf step

  -- statements
  pub FormedStmts : Stmts → Type 0
  FormedStmts Stmts.End = Unit {0}
  FormedStmts (Stmts.More s ss) = FormedStmt s × FormedStmts ss

  -- a label or an item of a `switch`
  pub FormedItem : SwitchItem → Type 0
  FormedItem (SwitchItem.Case e place) = FormedExpr e
  FormedItem (SwitchItem.Default place) = Unit {0}
  FormedItem (SwitchItem.Item s) = FormedStmt s

  -- labels and items
  pub FormedItems : SwitchItems → Type 0
  FormedItems SwitchItems.Last = Unit {0}
  FormedItems (SwitchItems.Further i is) = FormedItem i × FormedItems is

-- the head of a function
pub record FormedHead (h : Head) : Type 0 where
  pub name : IsName h.name
  pub line : IsLine h.line

-- a part of a source
abbrev pub FormedOuter : Outer → Type 0
FormedOuter (Outer.Vars vars) = FormedVars vars
FormedOuter (Outer.Prototype head) = FormedHead head
FormedOuter (Outer.Function head body) = FormedHead head × FormedStmts body

-- all parts of a source
abbrev pub Formed : Tree → Type 0
Formed tree = Each FormedOuter tree.outers

-- a tree that a parser gives
pub record IsTree (tree : Tree) : Type 0 where
  pub formed : Formed tree
  pub levels : tree_levels tree ≤ level_limit
