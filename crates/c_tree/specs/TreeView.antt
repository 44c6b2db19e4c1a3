-- What the definitions see of the program's trees.
use Rattle.std.specs.Prelude.{List, [], ◌∷◌, map, Option, Some, None, option_map}
use Rattle.c_tree.specs.declared.expr.ExprKind.{ExprKind as KindHeld, fold-ExprKind}
use Rattle.c_tree.specs.declared.expr.ExprKind.TheOpen.{ExprKind-F, Expr-F}
use Rattle.c_tree.specs.declared.expr.Expr.{Expr as ExprHeld}
use Rattle.c_tree.specs.declared.stmt.Size.{Size as SizeHeld}
use Rattle.c_tree.specs.declared.stmt.Init.{Init as InitHeld}
use Rattle.c_tree.specs.declared.stmt.Var.{Var as VarHeld}
use Rattle.c_tree.specs.declared.stmt.Stmt.{Stmt as StmtHeld, fold-Stmt}
use Rattle.c_tree.specs.declared.stmt.Stmt.TheOpen.{Stmt-F, ForHead-F, SwitchItem-F}
use Rattle.c_tree.specs.declared.stmt.SwitchItem.{SwitchItem as ItemHeld}
use Rattle.c_tree.specs.declared.stmt.ForHead.{ForHead as ForHeld}
use Rattle.c_tree.specs.declared.tree.Param.{Param as ParamHeld}
use Rattle.c_tree.specs.declared.tree.Head.{Head as HeadHeld}
use Rattle.c_tree.specs.declared.tree.Outer.{Outer as OuterHeld}
use Rattle.c_tree.specs.declared.tree.Tree.{Tree as TreeHeld}
use Rattle.c_tree.specs.Expr.{Expr, Kind, Exprs}
use Rattle.c_tree.specs.Stmt.{Size, Init, Var, Stmt, OtherStmt, ForHead, Stmts, SwitchItem, SwitchItems}
use Rattle.c_tree.specs.Tree.{Param, Head, Outer, Tree}

-- the list of expressions with these members
abbrev pub exprs_of : List Expr → Exprs
exprs_of [] = Exprs.End
exprs_of (e ∷ es) = Exprs.More e (exprs_of es)

-- a form whose parts are seen
abbrev pub kind_step : ExprKind-F Kind Expr → Kind
kind_step (ExprKind-F.Name name) = Kind.Name name
kind_step (ExprKind-F.Number number type) = Kind.Number number type
kind_step ExprKind-F.EofName = Kind.EofName
kind_step (ExprKind-F.Paren e) = Kind.Paren e
kind_step (ExprKind-F.Call name args) = Kind.Call name (exprs_of args)
kind_step (ExprKind-F.Index name place line e) = Kind.Index name place line e
kind_step (ExprKind-F.Plus e) = Kind.Plus e
kind_step (ExprKind-F.Minus e) = Kind.Minus e
kind_step (ExprKind-F.Complement e) = Kind.Complement e
kind_step (ExprKind-F.Not e) = Kind.Not e
kind_step (ExprKind-F.Cast base e) = Kind.Cast base e
kind_step (ExprKind-F.Binary op a b) = Kind.Binary op a b
kind_step (ExprKind-F.AndAlso a b) = Kind.AndAlso a b
kind_step (ExprKind-F.OrElse a b) = Kind.OrElse a b
kind_step (ExprKind-F.Choose c a b) = Kind.Choose c a b
kind_step (ExprKind-F.Assign op a b) = Kind.Assign op a b
kind_step (ExprKind-F.Before op e) = Kind.Before op e
kind_step (ExprKind-F.After op e) = Kind.After op e
kind_step (ExprKind-F.Comma a b) = Kind.Comma a b

-- a form with its place and line
abbrev pub expr_step : Expr-F Kind Expr → Expr
expr_step e = Expr.At e.kind e.place e.line

-- the form that the program holds
abbrev pub kind_view : KindHeld → Kind
kind_view = fold-ExprKind Kind Expr kind_step expr_step

-- the expression that the program holds
abbrev pub expr_view : ExprHeld → Expr
expr_view e = Expr.At (kind_view e.kind) e.place e.line

-- what stands behind a variable's name
abbrev pub size_view : SizeHeld → Size
size_view (SizeHeld.Scalar) = Size.Scalar
size_view (SizeHeld.Unsized) = Size.Unsized
size_view (SizeHeld.Len e) = Size.Len (expr_view e)

-- a variable's initialiser
abbrev pub init_view : InitHeld → Init
init_view (InitHeld.Absent) = Init.Absent
init_view (InitHeld.One e) = Init.One (expr_view e)
init_view (InitHeld.List es) = Init.Several (map expr_view es)

-- a variable
abbrev pub var_view : VarHeld → Var
var_view v = record {
  base = v.base;
  name = v.name;
  size = size_view v.size;
  init = init_view v.init;
  place = v.place;
  line = v.line;
}

-- the list of statements with these members
abbrev pub stmts_of : List Stmt → Stmts
stmts_of [] = Stmts.End
stmts_of (s ∷ ss) = Stmts.More s (stmts_of ss)

-- a statement that may be left out
abbrev pub other_of : Option Stmt → OtherStmt
other_of None = OtherStmt.Nothing
other_of (Some s) = OtherStmt.There s

-- the list of labels and items with these members
abbrev pub items_of : List SwitchItem → SwitchItems
items_of [] = SwitchItems.Last
items_of (i ∷ is) = SwitchItems.Further i (items_of is)

-- a statement whose parts are seen
abbrev pub stmt_step : Stmt-F Stmt SwitchItem ForHead → Stmt
stmt_step (Stmt-F.Vars vars) = Stmt.Vars (map var_view vars)
stmt_step (Stmt-F.Block ss) = Stmt.Block (stmts_of ss)
stmt_step Stmt-F.Empty = Stmt.Empty
stmt_step (Stmt-F.Value e) = Stmt.Value (expr_view e)
stmt_step (Stmt-F.If e s other) = Stmt.If (expr_view e) s (other_of other)
stmt_step (Stmt-F.While e s) = Stmt.While (expr_view e) s
stmt_step (Stmt-F.DoWhile s e line) = Stmt.DoWhile s (expr_view e) line
stmt_step (Stmt-F.For head s) = Stmt.For head s
stmt_step (Stmt-F.Switch e is) = Stmt.Switch (expr_view e) (items_of is)
stmt_step (Stmt-F.Break place line) = Stmt.Break place line
stmt_step (Stmt-F.Continue place line) = Stmt.Continue place line
stmt_step (Stmt-F.Return e place line) = Stmt.Return (option_map expr_view e) place line

-- the parentheses of a `for` whose parts are seen
abbrev pub head_step : ForHead-F Stmt SwitchItem ForHead → ForHead
head_step h = ForHead.Head (other_of h.first) (option_map expr_view h.test) (option_map expr_view h.step)

-- a label or an item whose parts are seen
abbrev pub item_step : SwitchItem-F Stmt SwitchItem ForHead → SwitchItem
item_step (SwitchItem-F.Case e place) = SwitchItem.Case (expr_view e) place
item_step (SwitchItem-F.Default place) = SwitchItem.Default place
item_step (SwitchItem-F.Item s) = SwitchItem.Item s

-- the statement that the program holds
abbrev pub stmt_view : StmtHeld → Stmt
stmt_view = fold-Stmt Stmt SwitchItem ForHead stmt_step item_step head_step

-- the label or item of a `switch` that the program holds
abbrev pub item_view : ItemHeld → SwitchItem
item_view (ItemHeld.Case e place) = SwitchItem.Case (expr_view e) place
item_view (ItemHeld.Default place) = SwitchItem.Default place
item_view (ItemHeld.Item s) = SwitchItem.Item (stmt_view s)

-- the parentheses of a `for` that the program holds
abbrev pub for_view : ForHeld → ForHead
for_view h =
    ForHead.Head (other_of (option_map stmt_view h.first)) (option_map expr_view h.test) (option_map expr_view h.step)

-- a parameter
abbrev pub param_view : ParamHeld → Param
param_view p = record { base = p.base; name = p.name; place = p.place }

-- the head of a function
abbrev pub head_view : HeadHeld → Head
head_view h = record { base = h.base; name = h.name; params = map param_view h.params; place = h.place; line = h.line }

-- a part of a source
abbrev pub outer_view : OuterHeld → Outer
outer_view (OuterHeld.Vars vars) = Outer.Vars (map var_view vars)
outer_view (OuterHeld.Prototype h) = Outer.Prototype (head_view h)
outer_view (OuterHeld.Function h body) = Outer.Function (head_view h) (stmts_of (map stmt_view body))

-- the tree that the program holds
abbrev pub tree_view : TreeHeld → Tree
tree_view t = record { outers = map outer_view t.outers; end = t.end }
