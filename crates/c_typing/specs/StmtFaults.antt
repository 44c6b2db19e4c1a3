-- The faults of names and types that stand in a statement (C17 6.8; the C profile).
use Rattle.std.specs.Prelude.{ℕ, ℤ, Bool, true, false, cond, ◌||◌, List, [], ◌∷◌, ◌++◌, Option, Some, None}
use Rattle.std.specs.Ordering.{int_eq}
use Rattle.int_ops.specs.declared.types.IntType.{IntType}
use Rattle.int_ops.specs.Conversion.{convert}
use Rattle.c_tree.specs.declared.expr.Base.{Base}
use Rattle.c_tree.specs.declared.expr.Base.TheVariants as base
use Rattle.c_tree.specs.Expr.{Expr}
use Rattle.c_tree.specs.Stmt.{Stmt, OtherStmt, ForHead, Stmts, SwitchItem, SwitchItems}
use Rattle.c_tree.specs.Sound.{Inside, looped}
use Rattle.c_tree.specs.TypedParts.{base_of}
use Rattle.c_typing.specs.declared.fault.TypeFault.{TypeFault}
use Rattle.c_typing.specs.declared.fault.TypeFault.TheVariants as fault
use Rattle.c_typing.specs.Names.{Scope, Here, inner, leaving}
use Rattle.c_typing.specs.TypedForms.{typed, number_type, promoted_base}
use Rattle.c_typing.specs.Constants.{constant}
use Rattle.c_typing.specs.ExprFaults.{faults, counted, value_faults}
use Rattle.c_typing.specs.Declarations.{vars_faults}
use Rattle.c_typing.specs.Statements.{after, after_other, after_head, after_item}

-- The labels of a `switch` so far: the numbers of its cases, and whether a default was there.
pub record Labels : Type 0 where
  pub values : List ℤ
  pub default : Bool

-- the number is among them
abbrev pub is_among : ℤ → List ℤ → Bool
is_among n [] = false
is_among n (m ∷ ms) = int_eq n m || is_among n ms

-- no label yet
abbrev pub no_labels : Labels
no_labels = record { values = []; default = false }

-- a case with this value: it is a constant, and no earlier one has its number (C17 6.8.4.2 paragraph 3)
abbrev pub case_faults : IntType → Labels → Option ℤ → ℕ → List TypeFault
case_faults t labels None place = fault.BadCase place ∷ []
case_faults t labels (Some n) place = cond (is_among (convert t n) labels.values) (fault.TwiceCase place ∷ []) []

-- the labels behind it
abbrev pub with_case : IntType → Labels → Option ℤ → Labels
with_case t labels None = labels
with_case t labels (Some n) = record { values = labels.values ++ convert t n ∷ []; default = labels.default }

-- the labels behind a label or an item
abbrev pub labelled : IntType → List Scope → Labels → SwitchItem → Labels
labelled t n labels (SwitchItem.Case e place) = with_case t labels (constant (typed n e))
labelled t n labels (SwitchItem.Default place) = record { values = labels.values; default = true }
labelled t n labels (SwitchItem.Item s) = labels

-- what may be left out has no fault where it is
abbrev pub faults_if : List Scope → Option Expr → List TypeFault
faults_if n None = []
faults_if n (Some e) = faults n e

-- what may be left out and is a condition where it is there
abbrev pub test_faults : List Scope → Option Expr → List TypeFault
test_faults n None = []
test_faults n (Some e) = value_faults n e

-- a `return` with its place, for the function's result (C17 6.8.6.4 paragraph 1)
abbrev pub return_faults : Base → List Scope → Option Expr → ℕ → List TypeFault
return_faults base.Void n None place = []
return_faults base.Void n (Some e) place = fault.VoidValue place ∷ faults n e
return_faults (base.Int t) n None place = fault.VoidValue place ∷ []
return_faults (base.Int t) n (Some e) place = value_faults n e

-- a `break` or `continue` stands where it may (C17 6.8.6.2, 6.8.6.3)
abbrev pub jump_faults : Bool → ℕ → List TypeFault
jump_faults inside place = cond inside [] (fault.OutsideLoop place ∷ [])

-- the type that a `switch` is over, where its expression has these faults
abbrev pub switch_type : List TypeFault → Base → IntType
switch_type fs b = number_type (promoted_base (counted fs b))

-- inside a `switch`
abbrev pub switching : Inside → Inside
switching i = record { breaks = true; continues = i.continues }

abbrev mutual
  -- The faults in a statement, in a function with this result. A value is wanted of a condition (C17 6.8.4.1 paragraph
  -- 1, 6.8.5
  -- paragraph 2) and of what a `switch` is over (6.8.4.2 paragraph 1).
  pub stmt_faults : Base → Inside → Here → Stmt → List TypeFault
  stmt_faults result i h (Stmt.Vars vars) = vars_faults h vars
  stmt_faults result i h (Stmt.Block ss) = stmts_faults result i (inner h) ss
  stmt_faults result i h Stmt.Empty = []
  stmt_faults result i h (Stmt.Value e) = faults h.scopes e
  stmt_faults result i h (Stmt.If e s other) =
      value_faults h.scopes e
      ++ (stmt_faults result i (inner h) s ++ other_faults result i (inner (leaving h (after (inner h) s))) other)
  stmt_faults result i h (Stmt.While e s) = value_faults h.scopes e ++ stmt_faults result looped (inner h) s
  stmt_faults result i h (Stmt.DoWhile s e line) = stmt_faults result looped (inner h) s ++ value_faults h.scopes e
  stmt_faults result i h (Stmt.For head s) =
      head_faults result i (inner h) head ++ stmt_faults result looped (after_head (inner h) head) s
  stmt_faults result i h (Stmt.Switch e is) =
      value_faults h.scopes e
      ++ items_faults result (switching i) (inner h) (switch_type (faults h.scopes e) (base_of (typed h.scopes e)))
      no_labels is
  stmt_faults result i h (Stmt.Break place line) = jump_faults i.breaks place
  stmt_faults result i h (Stmt.Continue place line) = jump_faults i.continues place
  stmt_faults result i h (Stmt.Return e place line) = return_faults result h.scopes e place

  -- those in a statement that may be left out
  pub other_faults : Base → Inside → Here → OtherStmt → List TypeFault
  other_faults result i h OtherStmt.Nothing = []
  other_faults result i h (OtherStmt.There s) = stmt_faults result i h s

  -- those in the parentheses of a `for`
  pub head_faults : Base → Inside → Here → ForHead → List TypeFault
  head_faults result i h (ForHead.Head first test step) =
      other_faults result i h first
      ++ (test_faults (after_other h first).scopes test ++ faults_if (after_other h first).scopes step)

  -- those in a list of statements
  pub stmts_faults : Base → Inside → Here → Stmts → List TypeFault
  stmts_faults result i h Stmts.End = []
  stmts_faults result i h (Stmts.More s ss) = stmt_faults result i h s ++ stmts_faults result i (after h s) ss

  -- those of a label or an item of a `switch` over this type, behind these labels
  pub item_faults : Base → Inside → Here → IntType → Labels → SwitchItem → List TypeFault
  item_faults result i h t labels (SwitchItem.Case e place) =
      value_faults h.scopes e ++ case_faults t labels (constant (typed h.scopes e)) place
  item_faults result i h t labels (SwitchItem.Default place) = cond labels.default (fault.TwiceCase place ∷ []) []
  item_faults result i h t labels (SwitchItem.Item s) = stmt_faults result i h s

  -- those of all labels and items
  pub items_faults : Base → Inside → Here → IntType → Labels → SwitchItems → List TypeFault
  items_faults result i h t labels SwitchItems.Last = []
  items_faults result i h t labels (SwitchItems.Further item is) =
      item_faults result i h t labels item
      ++ items_faults result i (after_item h item) t (labelled t h.scopes labels item) is
