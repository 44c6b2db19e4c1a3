-- How deep a tree goes: the greatest number of statements and expressions on a way to a leaf. Parentheses count, a
-- conversion that the source doesn't write doesn't.
use Rattle.std.specs.Prelude.{ℕ, ◌+◌, max, List, [], ◌∷◌, Option, Some, None}
use Rattle.c_tree.specs.Expr.{Expr, Kind, Exprs}
use Rattle.c_tree.specs.Stmt.{Size, Init, Var, Stmt, OtherStmt, ForHead, Stmts, SwitchItem, SwitchItems}
use Rattle.c_tree.specs.Tree.{Outer, Tree}
use Rattle.c_tree.specs.TypedExpr.{TypedExpr, TypedKind, TypedExprs}
use Rattle.c_tree.specs.TypedStmt.{TypedInit, TypedStmt, OtherTyped, TypedForHead, TypedStmts, TypedItem, TypedItems}
use Rattle.c_tree.specs.Typed.{Typed}

-- the levels of an expression: one more than those of its deepest part
abbrev mutual
  -- those of an expression
  pub levels : Expr → ℕ
  levels (Expr.At kind place line) = 1 + kind_levels kind

  -- those of its parts
  pub kind_levels : Kind → ℕ
  kind_levels (Kind.Name name) = 0
  kind_levels (Kind.Number number type) = 0
  kind_levels Kind.EofName = 0
  kind_levels (Kind.Paren e) = levels e
  kind_levels (Kind.Call name args) = args_levels args
  kind_levels (Kind.Index name place line e) = levels e
  kind_levels (Kind.Plus e) = levels e
  kind_levels (Kind.Minus e) = levels e
  kind_levels (Kind.Complement e) = levels e
  kind_levels (Kind.Not e) = levels e
  kind_levels (Kind.Cast base e) = levels e
  kind_levels (Kind.Binary op a b) = max (levels a) (levels b)
  kind_levels (Kind.AndAlso a b) = max (levels a) (levels b)
  kind_levels (Kind.OrElse a b) = max (levels a) (levels b)
  kind_levels (Kind.Choose c a b) = max (levels c) (max (levels a) (levels b))
  kind_levels (Kind.Assign op a b) = max (levels a) (levels b)
  kind_levels (Kind.Before op e) = levels e
  kind_levels (Kind.After op e) = levels e
  kind_levels (Kind.Comma a b) = max (levels a) (levels b)

  -- the greatest of a list
  pub args_levels : Exprs → ℕ
  args_levels Exprs.End = 0
  args_levels (Exprs.More e es) = max (levels e) (args_levels es)

-- those of a part that may be left out
abbrev pub levels_if : Option Expr → ℕ
levels_if None = 0
levels_if (Some e) = levels e

-- the greatest of a list of numbers, each computed from an element
abbrev pub most : {A : Type 0} → (A → ℕ) → List A → ℕ
most f [] = 0
most f (x ∷ xs) = max (f x) (most f xs)

-- those in a variable's length and initialiser
abbrev pub size_levels : Size → ℕ
size_levels (Size.Len e) = levels e
size_levels _ = 0

-- the levels of an initialiser
abbrev pub init_levels : Init → ℕ
init_levels Init.Absent = 0
init_levels (Init.One e) = levels e
init_levels (Init.Several es) = most levels es

-- the levels of a variable
abbrev pub var_levels : Var → ℕ
var_levels v = max (size_levels v.size) (init_levels v.init)

-- the levels of a statement: one more than those of its deepest part
abbrev mutual
  -- those of a statement
  pub stmt_levels : Stmt → ℕ
  stmt_levels (Stmt.Vars vars) = 1 + most var_levels vars
  stmt_levels (Stmt.Block ss) = 1 + stmts_levels ss
  stmt_levels Stmt.Empty = 1
  stmt_levels (Stmt.Value e) = 1 + levels e
  stmt_levels (Stmt.If e s other) = 1 + max (levels e) (max (stmt_levels s) (other_levels other))
  stmt_levels (Stmt.While e s) = 1 + max (levels e) (stmt_levels s)
  stmt_levels (Stmt.DoWhile s e line) = 1 + max (stmt_levels s) (levels e)
  stmt_levels (Stmt.For head s) = 1 + max (head_levels head) (stmt_levels s)
  stmt_levels (Stmt.Switch e is) = 1 + max (levels e) (items_levels is)
  stmt_levels (Stmt.Break place line) = 1
  stmt_levels (Stmt.Continue place line) = 1
  stmt_levels (Stmt.Return e place line) = 1 + levels_if e

  -- of a statement that may be left out
  pub other_levels : OtherStmt → ℕ
  other_levels OtherStmt.Nothing = 0
  other_levels (OtherStmt.There s) = stmt_levels s

  -- of the parentheses of a `for`
  pub head_levels : ForHead → ℕ
  head_levels (ForHead.Head first test step) = max (other_levels first) (max (levels_if test) (levels_if step))

  -- of statements: those of the deepest
  pub stmts_levels : Stmts → ℕ
  stmts_levels Stmts.End = 0
  stmts_levels (Stmts.More s ss) = max (stmt_levels s) (stmts_levels ss)

  -- of a label or an item of a `switch`
  pub item_levels : SwitchItem → ℕ
  item_levels (SwitchItem.Case e place) = levels e
  item_levels (SwitchItem.Default place) = 0
  item_levels (SwitchItem.Item s) = stmt_levels s

  -- of labels and items: those of the deepest
  pub items_levels : SwitchItems → ℕ
  items_levels SwitchItems.Last = 0
  items_levels (SwitchItems.Further i is) = max (item_levels i) (items_levels is)

-- the levels of a part of a source
abbrev pub outer_levels : Outer → ℕ
outer_levels (Outer.Vars vars) = most var_levels vars
outer_levels (Outer.Prototype head) = 0
outer_levels (Outer.Function head body) = stmts_levels body

-- those of a source
abbrev pub tree_levels : Tree → ℕ
tree_levels t = most outer_levels t.outers

-- the levels of a typed expression: a conversion that the source doesn't write adds none
abbrev mutual
  -- the same of a typed expression
  pub typed_levels : TypedExpr → ℕ
  typed_levels (TypedExpr.At kind base place line) = typed_kind_levels kind

  -- with the form's own level
  pub typed_kind_levels : TypedKind → ℕ
  typed_kind_levels (TypedKind.Name cell) = 1
  typed_kind_levels (TypedKind.Number number type) = 1
  typed_kind_levels TypedKind.EofName = 1
  typed_kind_levels (TypedKind.Call callee args) = 1 + typed_args_levels args
  typed_kind_levels (TypedKind.Index cell length place line e) = 1 + typed_levels e
  typed_kind_levels (TypedKind.Convert e) = typed_levels e
  typed_kind_levels (TypedKind.Plus e) = 1 + typed_levels e
  typed_kind_levels (TypedKind.Minus e) = 1 + typed_levels e
  typed_kind_levels (TypedKind.Complement e) = 1 + typed_levels e
  typed_kind_levels (TypedKind.Not e) = 1 + typed_levels e
  typed_kind_levels (TypedKind.Cast base e) = 1 + typed_levels e
  typed_kind_levels (TypedKind.Binary op a b) = 1 + max (typed_levels a) (typed_levels b)
  typed_kind_levels (TypedKind.AndAlso a b) = 1 + max (typed_levels a) (typed_levels b)
  typed_kind_levels (TypedKind.OrElse a b) = 1 + max (typed_levels a) (typed_levels b)
  typed_kind_levels (TypedKind.Choose c a b) = 1 + max (typed_levels c) (max (typed_levels a) (typed_levels b))
  typed_kind_levels (TypedKind.Assign op a b) = 1 + max (typed_levels a) (typed_levels b)
  typed_kind_levels (TypedKind.Before op e) = 1 + typed_levels e
  typed_kind_levels (TypedKind.After op e) = 1 + typed_levels e
  typed_kind_levels (TypedKind.Comma a b) = 1 + max (typed_levels a) (typed_levels b)

  -- of arguments: those of the deepest
  pub typed_args_levels : TypedExprs → ℕ
  typed_args_levels TypedExprs.End = 0
  typed_args_levels (TypedExprs.More e es) = max (typed_levels e) (typed_args_levels es)

-- the levels of an expression that may be left out
abbrev pub typed_levels_if : Option TypedExpr → ℕ
typed_levels_if None = 0
typed_levels_if (Some e) = typed_levels e

-- the levels of an initialiser
abbrev pub typed_init_levels : TypedInit → ℕ
typed_init_levels TypedInit.Absent = 0
typed_init_levels (TypedInit.One e) = typed_levels e
typed_init_levels (TypedInit.Several es) = most typed_levels es

-- the levels of a typed statement: one more than those of its deepest part
abbrev mutual
  -- the same of a typed statement
  pub typed_stmt_levels : TypedStmt → ℕ
  typed_stmt_levels (TypedStmt.Vars vars) = 1 + most (λ v. typed_init_levels v.init) vars
  typed_stmt_levels (TypedStmt.Block ss) = 1 + typed_stmts_levels ss
  typed_stmt_levels TypedStmt.Empty = 1
  typed_stmt_levels (TypedStmt.Value e) = 1 + typed_levels e
  typed_stmt_levels (TypedStmt.If e s other) =
      1 + max (typed_levels e) (max (typed_stmt_levels s) (other_typed_levels other))
  typed_stmt_levels (TypedStmt.While e s) = 1 + max (typed_levels e) (typed_stmt_levels s)
  typed_stmt_levels (TypedStmt.DoWhile s e line) = 1 + max (typed_stmt_levels s) (typed_levels e)
  typed_stmt_levels (TypedStmt.For head s) = 1 + max (typed_head_levels head) (typed_stmt_levels s)
  typed_stmt_levels (TypedStmt.Switch e is) = 1 + max (typed_levels e) (typed_items_levels is)
  typed_stmt_levels (TypedStmt.Break place line) = 1
  typed_stmt_levels (TypedStmt.Continue place line) = 1
  typed_stmt_levels (TypedStmt.Return e place line) = 1 + typed_levels_if e

  -- of a statement that may be left out
  pub other_typed_levels : OtherTyped → ℕ
  other_typed_levels OtherTyped.Nothing = 0
  other_typed_levels (OtherTyped.There s) = typed_stmt_levels s

  -- of the parentheses of a `for`
  pub typed_head_levels : TypedForHead → ℕ
  typed_head_levels (TypedForHead.Head first test step) =
      max (other_typed_levels first) (max (typed_levels_if test) (typed_levels_if step))

  -- of statements: those of the deepest
  pub typed_stmts_levels : TypedStmts → ℕ
  typed_stmts_levels TypedStmts.End = 0
  typed_stmts_levels (TypedStmts.More s ss) = max (typed_stmt_levels s) (typed_stmts_levels ss)

  -- of a label or an item of a `switch`
  pub typed_item_levels : TypedItem → ℕ
  typed_item_levels (TypedItem.Case number place) = 0
  typed_item_levels (TypedItem.Default place) = 0
  typed_item_levels (TypedItem.Item s) = typed_stmt_levels s

  -- of labels and items: those of the deepest
  pub typed_items_levels : TypedItems → ℕ
  typed_items_levels TypedItems.Last = 0
  typed_items_levels (TypedItems.Further i is) = max (typed_item_levels i) (typed_items_levels is)

-- the same of a typed source
abbrev pub source_levels : Typed → ℕ
source_levels t = most (λ f. typed_stmts_levels f.body) t.functions
