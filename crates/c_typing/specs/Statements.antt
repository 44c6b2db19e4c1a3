-- What is in scope behind a statement, and its typed form (C17 6.8). Where a declaration stands, its names are in scope
-- to the end of the
-- list that it stands in; each block, each `for` and `switch`, and each statement in an `if` or a loop is a scope of
-- its own (C17 6.2.1
-- paragraph 4, 6.8.2, 6.8.4 paragraph 3, 6.8.5 paragraph 5).
use Rattle.std.specs.Prelude.{ℤ, pos, List, Option, option_map, unwrap_or}
use Rattle.int_ops.specs.Conversion.{convert}
use Rattle.c_tree.specs.declared.expr.Base.{Base}
use Rattle.c_tree.specs.declared.typed_expr.CellAt.TheVariants as cell
use Rattle.c_tree.specs.Expr.{Expr}
use Rattle.c_tree.specs.Stmt.{Stmt, OtherStmt, ForHead, Stmts, SwitchItem, SwitchItems}
use Rattle.c_tree.specs.TypedExpr.{TypedExpr}
use Rattle.c_tree.specs.TypedStmt.{TypedStmt, OtherTyped, TypedForHead, TypedStmts, TypedItem, TypedItems}
use Rattle.c_tree.specs.TypedParts.{base_of}
use Rattle.c_typing.specs.Names.{Scope, Here, inner, leaving}
use Rattle.c_typing.specs.TypedForms.{typed, converted, number_type, promoted_base}
use Rattle.c_typing.specs.Constants.{constant}
use Rattle.c_typing.specs.Declarations.{declare_vars, typed_vars}

abbrev mutual
  -- the point behind a statement
  pub after : Here → Stmt → Here
  after h (Stmt.Vars vars) = declare_vars cell.Local h vars
  after h (Stmt.Block ss) = leaving h (after_all (inner h) ss)
  after h Stmt.Empty = h
  after h (Stmt.Value e) = h
  after h (Stmt.If e s other) = leaving h (after_other (inner (leaving h (after (inner h) s))) other)
  after h (Stmt.While e s) = leaving h (after (inner h) s)
  after h (Stmt.DoWhile s e line) = leaving h (after (inner h) s)
  after h (Stmt.For head s) = leaving h (after (after_head (inner h) head) s)
  after h (Stmt.Switch e is) = leaving h (after_items (inner h) is)
  after h (Stmt.Break place line) = h
  after h (Stmt.Continue place line) = h
  after h (Stmt.Return e place line) = h

  -- behind a statement that may be left out
  pub after_other : Here → OtherStmt → Here
  after_other h OtherStmt.Nothing = h
  after_other h (OtherStmt.There s) = after h s

  -- behind the first part of a `for` (C17 6.8.5.3)
  pub after_head : Here → ForHead → Here
  after_head h (ForHead.Head first test step) = after_other h first

  -- behind all statements of a list
  pub after_all : Here → Stmts → Here
  after_all h Stmts.End = h
  after_all h (Stmts.More s ss) = after_all (after h s) ss

  -- behind labels and items of a `switch`
  pub after_item : Here → SwitchItem → Here
  after_item h (SwitchItem.Case e place) = h
  after_item h (SwitchItem.Default place) = h
  after_item h (SwitchItem.Item s) = after h s

  -- behind all of them
  pub after_items : Here → SwitchItems → Here
  after_items h SwitchItems.Last = h
  after_items h (SwitchItems.Further i is) = after_items (after_item h i) is

-- the value that a `switch` is over, promoted (C17 6.8.4.2 paragraph 5)
abbrev pub switched : TypedExpr → TypedExpr
switched e = converted e (promoted_base (base_of e))

-- the number of a case, converted to the type that the `switch` is over (C17 6.8.4.2 paragraph 5)
abbrev pub case_number : List Scope → Base → Expr → ℤ
case_number n b e = convert (number_type b) (unwrap_or (constant (typed n e)) (pos 0))

-- what a `return` gives, converted to the function's result (C17 6.8.6.4 paragraph 3)
abbrev pub returned : Base → List Scope → Option Expr → Option TypedExpr
returned result n e = option_map (λ x. converted (typed n x) result) e

abbrev mutual
  -- the typed form of a statement in a function with this result
  pub typed_stmt : Base → Here → Stmt → TypedStmt
  typed_stmt result h (Stmt.Vars vars) = TypedStmt.Vars (typed_vars h vars)
  typed_stmt result h (Stmt.Block ss) = TypedStmt.Block (typed_stmts result (inner h) ss)
  typed_stmt result h Stmt.Empty = TypedStmt.Empty
  typed_stmt result h (Stmt.Value e) = TypedStmt.Value (typed h.scopes e)
  typed_stmt result h (Stmt.If e s other) =
      TypedStmt.If (typed h.scopes e) (typed_stmt result (inner h) s)
      (typed_other result (inner (leaving h (after (inner h) s))) other)
  typed_stmt result h (Stmt.While e s) = TypedStmt.While (typed h.scopes e) (typed_stmt result (inner h) s)
  typed_stmt result h (Stmt.DoWhile s e line) =
      TypedStmt.DoWhile (typed_stmt result (inner h) s) (typed h.scopes e) line
  typed_stmt result h (Stmt.For head s) =
      TypedStmt.For (typed_head result (inner h) head) (typed_stmt result (after_head (inner h) head) s)
  typed_stmt result h (Stmt.Switch e is) =
      TypedStmt.Switch (switched (typed h.scopes e)) (typed_items result (inner h)
      (promoted_base (base_of (typed h.scopes e))) is)
  typed_stmt result h (Stmt.Break place line) = TypedStmt.Break place line
  typed_stmt result h (Stmt.Continue place line) = TypedStmt.Continue place line
  typed_stmt result h (Stmt.Return e place line) = TypedStmt.Return (returned result h.scopes e) place line

  -- that of a statement that may be left out
  pub typed_other : Base → Here → OtherStmt → OtherTyped
  typed_other result h OtherStmt.Nothing = OtherTyped.Nothing
  typed_other result h (OtherStmt.There s) = OtherTyped.There (typed_stmt result h s)

  -- that of the parentheses of a `for`
  pub typed_head : Base → Here → ForHead → TypedForHead
  typed_head result h (ForHead.Head first test step) =
      TypedForHead.Head (typed_other result h first) (option_map (typed (after_other h first).scopes) test)
      (option_map (typed (after_other h first).scopes) step)

  -- that of a list of statements
  pub typed_stmts : Base → Here → Stmts → TypedStmts
  typed_stmts result h Stmts.End = TypedStmts.End
  typed_stmts result h (Stmts.More s ss) = TypedStmts.More (typed_stmt result h s) (typed_stmts result (after h s) ss)

  -- that of a label or an item of a `switch` over this type
  pub typed_item : Base → Here → Base → SwitchItem → TypedItem
  typed_item result h b (SwitchItem.Case e place) = TypedItem.Case (case_number h.scopes b e) place
  typed_item result h b (SwitchItem.Default place) = TypedItem.Default place
  typed_item result h b (SwitchItem.Item s) = TypedItem.Item (typed_stmt result h s)

  -- that of all labels and items
  pub typed_items : Base → Here → Base → SwitchItems → TypedItems
  typed_items result h b SwitchItems.Last = TypedItems.Last
  typed_items result h b (SwitchItems.Further i is) =
      TypedItems.Further (typed_item result h b i) (typed_items result (after_item h i) b is)
