-- How many operands stand below each node of a function's tree, and what the node gives; and so how many stand where a
-- block begins.
use Rattle.std.proofs.Common.{◌≡◌, refl, sym, ap, subst, ◌∙◌, ℕ, zero, suc, ◌+◌, ◌==◌, ◌||◌, Bool, true, false, cond}
use Rattle.std.proofs.Common.{List, [], ◌∷◌, ◌++◌, length, length-append, Option, Some, None, slice_get, arith}
use Rattle.c_tree.specs.declared.expr.Base.{Base}
use Rattle.c_tree.specs.declared.expr.Base.TheVariants as base
use Rattle.int_ops.specs.declared.operators.BinOp.{BinOp}
use Rattle.c_tree.specs.TypedExpr.{TypedExpr, TypedKind, TypedExprs}
use Rattle.c_tree.specs.TypedStmt.{
  TypedInit,
  TypedVar,
  TypedStmt,
  OtherTyped,
  TypedForHead,
  TypedStmts,
  TypedItem,
  TypedItems,
}
use Rattle.c_lower.specs.Items.{Name, nodes, kind_nodes, all_nodes, nodes_if, sum, init_nodes, vars_nodes}
use Rattle.c_lower.specs.Items.{stmt_nodes, other_nodes, stmts_nodes, item_nodes, items_nodes}

-- the operands below a node, and those that it gives
abbrev pub Row : Type 0
Row = ℕ × ℕ

-- one where there is a value
abbrev pub pushed : Base → ℕ
pushed (base.Int t) = 1
pushed base.Void = 0

-- the index of what is assigned to stands below the value
abbrev pub indexed : TypedExpr → ℕ
indexed (TypedExpr.At (TypedKind.Index c n place named e) result p line) = 1
indexed (TypedExpr.At kind result p line) = 0

-- what stands below an assigned value: the index, and the old value
abbrev pub below : Option BinOp → TypedExpr → ℕ
below None target = indexed target
below (Some o) target = suc (indexed target)

-- the rows of an expression's nodes, where so many operands stand below it
abbrev mutual
  pub rows : TypedExpr → ℕ → List Row
  rows (TypedExpr.At kind b place line) d = (d, pushed b) ∷ kind_rows kind d

  pub kind_rows : TypedKind → ℕ → List Row
  kind_rows (TypedKind.Name c) d = []
  kind_rows (TypedKind.Number n t) d = []
  kind_rows TypedKind.EofName d = []
  kind_rows (TypedKind.Call f args) d = all_rows args d
  kind_rows (TypedKind.Index c n place line e) d = rows e d
  kind_rows (TypedKind.Convert e) d = rows e d
  kind_rows (TypedKind.Plus e) d = rows e d
  kind_rows (TypedKind.Minus e) d = rows e d
  kind_rows (TypedKind.Complement e) d = rows e d
  kind_rows (TypedKind.Not e) d = rows e d
  kind_rows (TypedKind.Cast b e) d = rows e d
  kind_rows (TypedKind.Binary o a b) d = rows a d ++ rows b (suc d)
  kind_rows (TypedKind.AndAlso a b) d = rows a d ++ rows b d
  kind_rows (TypedKind.OrElse a b) d = rows a d ++ rows b d
  kind_rows (TypedKind.Choose c a b) d = (rows c d ++ rows a d) ++ rows b d
  kind_rows (TypedKind.Assign o a b) d = rows a d ++ rows b (d + below o a)
  kind_rows (TypedKind.Before o e) d = rows e d
  kind_rows (TypedKind.After o e) d = rows e d
  kind_rows (TypedKind.Comma a b) d = rows a d ++ rows b d

  pub all_rows : TypedExprs → ℕ → List Row
  all_rows TypedExprs.End d = []
  all_rows (TypedExprs.More e es) d = rows e d ++ all_rows es (suc d)

-- no operand stands below a statement
abbrev pub plain_row : Row
plain_row = (0, 0)

abbrev pub rows_if : Option TypedExpr → List Row
rows_if None = []
rows_if (Some e) = rows e 0

-- the index of an element stands below its initialiser
abbrev pub element_rows : List TypedExpr → List Row
element_rows [] = []
element_rows (e ∷ es) = rows e 1 ++ element_rows es

abbrev pub init_rows : TypedInit → List Row
init_rows TypedInit.Absent = []
init_rows (TypedInit.One e) = rows e 0
init_rows (TypedInit.Several es) = element_rows es

abbrev pub vars_rows : List TypedVar → List Row
vars_rows [] = []
vars_rows (v ∷ vs) = init_rows v.init ++ vars_rows vs

abbrev mutual
  pub stmt_rows : TypedStmt → List Row
  stmt_rows (TypedStmt.Vars vars) = plain_row ∷ vars_rows vars
  stmt_rows (TypedStmt.Block ss) = plain_row ∷ stmts_rows ss
  stmt_rows TypedStmt.Empty = plain_row ∷ []
  stmt_rows (TypedStmt.Value e) = plain_row ∷ rows e 0
  stmt_rows (TypedStmt.If c s other) = plain_row ∷ (rows c 0 ++ stmt_rows s) ++ other_rows other
  stmt_rows (TypedStmt.While c s) = plain_row ∷ rows c 0 ++ stmt_rows s
  stmt_rows (TypedStmt.DoWhile s c line) = plain_row ∷ stmt_rows s ++ rows c 0
  stmt_rows (TypedStmt.For (TypedForHead.Head first test step) s) =
      plain_row ∷ ((other_rows first ++ rows_if test) ++ stmt_rows s) ++ rows_if step
  stmt_rows (TypedStmt.Switch e is) = plain_row ∷ rows e 0 ++ items_rows is
  stmt_rows (TypedStmt.Break place line) = plain_row ∷ []
  stmt_rows (TypedStmt.Continue place line) = plain_row ∷ []
  stmt_rows (TypedStmt.Return e place line) = plain_row ∷ rows_if e

  pub other_rows : OtherTyped → List Row
  other_rows OtherTyped.Nothing = []
  other_rows (OtherTyped.There s) = stmt_rows s

  pub stmts_rows : TypedStmts → List Row
  stmts_rows TypedStmts.End = []
  stmts_rows (TypedStmts.More s ss) = stmt_rows s ++ stmts_rows ss

  pub item_rows : TypedItem → List Row
  item_rows (TypedItem.Case n place) = plain_row ∷ []
  item_rows (TypedItem.Default place) = plain_row ∷ []
  item_rows (TypedItem.Item s) = stmt_rows s

  pub items_rows : TypedItems → List Row
  items_rows TypedItems.Last = []
  items_rows (TypedItems.Further i is) = item_rows i ++ items_rows is

-- ---- as many rows as nodes

pub append_long : {A : Type 0} (xs ys : List A) (m n : ℕ) → length xs ≡ m → length ys ≡ n → length (xs ++ ys) ≡ m + n
append_long xs ys m n e f = let h = length-append xs ys in omega (arith, h, e, f)

mutual
  pub long : (e : TypedExpr) (d : ℕ) → length (rows e d) ≡ nodes e
  long (TypedExpr.At kind b place line) d = ap suc (kind_long kind d)

  kind_long : (kind : TypedKind) (d : ℕ) → length (kind_rows kind d) ≡ kind_nodes kind
  kind_long (TypedKind.Name c) d = refl
  kind_long (TypedKind.Number n t) d = refl
  kind_long TypedKind.EofName d = refl
  kind_long (TypedKind.Call f args) d = all_long args d
  kind_long (TypedKind.Index c n place line e) d = long e d
  kind_long (TypedKind.Convert e) d = long e d
  kind_long (TypedKind.Plus e) d = long e d
  kind_long (TypedKind.Minus e) d = long e d
  kind_long (TypedKind.Complement e) d = long e d
  kind_long (TypedKind.Not e) d = long e d
  kind_long (TypedKind.Cast b e) d = long e d
  kind_long (TypedKind.Binary o a b) d = append_long (rows a d) (rows b (suc d)) _ _ (long a d) (long b (suc d))
  kind_long (TypedKind.AndAlso a b) d = append_long (rows a d) (rows b d) _ _ (long a d) (long b d)
  kind_long (TypedKind.OrElse a b) d = append_long (rows a d) (rows b d) _ _ (long a d) (long b d)
  kind_long (TypedKind.Choose c a b) d =
      append_long (rows c d ++ rows a d) (rows b d) _ _ (append_long (rows c d) (rows a d) _ _ (long c d) (long a d))
      (long b d)
  kind_long (TypedKind.Assign o a b) d =
      append_long (rows a d) (rows b (d + below o a)) _ _ (long a d) (long b (d + below o a))
  kind_long (TypedKind.Before o e) d = long e d
  kind_long (TypedKind.After o e) d = long e d
  kind_long (TypedKind.Comma a b) d = append_long (rows a d) (rows b d) _ _ (long a d) (long b d)

  all_long : (es : TypedExprs) (d : ℕ) → length (all_rows es d) ≡ all_nodes es
  all_long TypedExprs.End d = refl
  all_long (TypedExprs.More e es) d =
      append_long (rows e d) (all_rows es (suc d)) _ _ (long e d) (all_long es (suc d))

pub long_if : (e : Option TypedExpr) → length (rows_if e) ≡ nodes_if e
long_if None = refl
long_if (Some e) = long e 0

pub elements_long : (es : List TypedExpr) → length (element_rows es) ≡ sum es
elements_long [] = refl
elements_long (e ∷ es) = append_long (rows e 1) (element_rows es) _ _ (long e 1) (elements_long es)

pub init_long : (i : TypedInit) → length (init_rows i) ≡ init_nodes i
init_long TypedInit.Absent = refl
init_long (TypedInit.One e) = long e 0
init_long (TypedInit.Several es) = elements_long es

pub vars_long : (vs : List TypedVar) → length (vars_rows vs) ≡ vars_nodes vs
vars_long [] = refl
vars_long (v ∷ vs) = append_long (init_rows v.init) (vars_rows vs) _ _ (init_long v.init) (vars_long vs)

mutual
  pub stmt_long : (s : TypedStmt) → length (stmt_rows s) ≡ stmt_nodes s
  stmt_long (TypedStmt.Vars vars) = ap suc (vars_long vars)
  stmt_long (TypedStmt.Block ss) = ap suc (stmts_long ss)
  stmt_long TypedStmt.Empty = refl
  stmt_long (TypedStmt.Value e) = ap suc (long e 0)
  stmt_long (TypedStmt.If c s other) =
      ap suc (append_long (rows c 0 ++ stmt_rows s) (other_rows other) _ _
      (append_long (rows c 0) (stmt_rows s) _ _ (long c 0) (stmt_long s)) (other_long other))
  stmt_long (TypedStmt.While c s) = ap suc (append_long (rows c 0) (stmt_rows s) _ _ (long c 0) (stmt_long s))
  stmt_long (TypedStmt.DoWhile s c line) = ap suc (append_long (stmt_rows s) (rows c 0) _ _ (stmt_long s) (long c 0))
  stmt_long (TypedStmt.For (TypedForHead.Head first test step) s) =
      ap suc (append_long ((other_rows first ++ rows_if test) ++ stmt_rows s) (rows_if step) _ _
      (append_long (other_rows first ++ rows_if test) (stmt_rows s) _ _
      (append_long (other_rows first) (rows_if test) _ _ (other_long first) (long_if test)) (stmt_long s))
      (long_if step))
  stmt_long (TypedStmt.Switch e is) = ap suc (append_long (rows e 0) (items_rows is) _ _ (long e 0) (items_long is))
  stmt_long (TypedStmt.Break place line) = refl
  stmt_long (TypedStmt.Continue place line) = refl
  stmt_long (TypedStmt.Return e place line) = ap suc (long_if e)

  pub other_long : (s : OtherTyped) → length (other_rows s) ≡ other_nodes s
  other_long OtherTyped.Nothing = refl
  other_long (OtherTyped.There s) = stmt_long s

  pub stmts_long : (ss : TypedStmts) → length (stmts_rows ss) ≡ stmts_nodes ss
  stmts_long TypedStmts.End = refl
  stmts_long (TypedStmts.More s ss) =
      append_long (stmt_rows s) (stmts_rows ss) _ _ (stmt_long s) (stmts_long ss)

  pub item_long : (i : TypedItem) → length (item_rows i) ≡ item_nodes i
  item_long (TypedItem.Case n place) = refl
  item_long (TypedItem.Default place) = refl
  item_long (TypedItem.Item s) = stmt_long s

  pub items_long : (is : TypedItems) → length (items_rows is) ≡ items_nodes is
  items_long TypedItems.Last = refl
  items_long (TypedItems.Further i is) =
      append_long (item_rows i) (items_rows is) _ _ (item_long i) (items_long is)

-- ---- rows in a table

-- the operands at a block of a node: where the ways through an expression meet, and behind a call, its value is one
abbrev pub at_row : Option Row → ℕ → ℕ
at_row None part = 0
at_row (Some row) part = cond (part == 6 || part == 9) (row.0 + row.1) row.0

-- the operands where the block of a name begins
abbrev pub begun_at : List Row → Name → ℕ
begun_at table l = at_row (slice_get table l.node) l.part

-- from this node on the table has these rows
abbrev pub From : List Row → ℕ → List Row → Type 0
From table m [] = Unit {0}
From table m (row ∷ more) = (slice_get table m ≡ Some row) × From table (suc m) more

pub from_left : (table xs ys : List Row) (m : ℕ) → From table m (xs ++ ys) → From table m xs
from_left table [] ys m h = tt
from_left table (x ∷ xs) ys m h = (h.0, from_left table xs ys (suc m) h.1)

from_behind : (table xs ys : List Row) (m : ℕ) → From table m (xs ++ ys) → From table (m + length xs) ys
from_behind table [] ys m h = subst (λ (k : ℕ). From table k ys) (omega arith) h
from_behind table (x ∷ xs) ys m h =
    subst (λ (k : ℕ). From table k ys) (omega arith) (from_behind table xs ys (suc m) h.1)

pub from_right : (table xs ys : List Row) (m k : ℕ) → length xs ≡ k → From table m (xs ++ ys) → From table (m + k) ys
from_right table xs ys m k e h = subst (λ (n : ℕ). From table (m + n) ys) e (from_behind table xs ys m h)

one_more : (front : List Row) (row : Row) (rest : List Row) → (front ++ row ∷ []) ++ rest ≡ front ++ row ∷ rest
one_more [] row rest = refl
one_more (f ∷ front) row rest = ap (λ (l : List Row). f ∷ l) (one_more front row rest)

-- what stands behind so many stands at their number
pub there : {A : Type 0} (front : List A) (x : A) (rest : List A) → slice_get (front ++ x ∷ rest) (length front) ≡ Some x
there [] x rest = refl
there (f ∷ front) x rest = there front x rest

-- a table has its own rows
own_rows : (front rows : List Row) → From (front ++ rows) (length front) rows
own_rows front [] = tt
own_rows front (row ∷ rest) = (
  there front row rest,
  subst (λ (t : List Row). From t (suc (length front)) rest) (one_more front row rest)
      (subst (λ (k : ℕ). From ((front ++ row ∷ []) ++ rest) k rest)
      (let h = length-append front (row ∷ []) in omega (arith, h)) (own_rows (front ++ row ∷ []) rest)),
)

pub all_from : (rows : List Row) → From rows 0 rows
all_from rows = own_rows [] rows
