-- What the definitions see of the program's typed trees.
use Rattle.std.specs.Prelude.{List, [], ◌∷◌, map, Option, Some, None, option_map}
use Rattle.c_tree.specs.declared.typed_expr.TypedKind.{TypedKind as KindHeld, fold-TypedKind}
use Rattle.c_tree.specs.declared.typed_expr.TypedKind.TheOpen.{TypedKind-F, TypedExpr-F}
use Rattle.c_tree.specs.declared.typed_expr.TypedExpr.{TypedExpr as ExprHeld}
use Rattle.c_tree.specs.declared.typed_stmt.TypedInit.{TypedInit as InitHeld}
use Rattle.c_tree.specs.declared.typed_stmt.TypedVar.{TypedVar as VarHeld}
use Rattle.c_tree.specs.declared.typed_stmt.TypedStmt.{TypedStmt as StmtHeld, fold-TypedStmt}
use Rattle.c_tree.specs.declared.typed_stmt.TypedStmt.TheOpen.{TypedStmt-F, TypedForHead-F, TypedSwitchItem-F}
use Rattle.c_tree.specs.declared.typed.TypedFunction.{TypedFunction as FunctionHeld}
use Rattle.c_tree.specs.declared.typed.Typed.{Typed as TypedHeld}
use Rattle.c_tree.specs.TypedExpr.{TypedExpr, TypedKind, TypedExprs}
use Rattle.c_tree.specs.TypedStmt.{
  TypedInit,
  TypedVar,
  TypedStmt,
  OtherTyped,
  TypedForHead,
  TypedStmts,
  TypedItem,
  TypedItems,
}
use Rattle.c_tree.specs.Typed.{TypedFunction, Typed}

-- the list of expressions with these members
abbrev pub typed_exprs_of : List TypedExpr → TypedExprs
typed_exprs_of [] = TypedExprs.End
typed_exprs_of (e ∷ es) = TypedExprs.More e (typed_exprs_of es)

-- a form whose parts are seen
abbrev pub typed_kind_step : TypedKind-F TypedKind TypedExpr → TypedKind
typed_kind_step (TypedKind-F.Name cell) = TypedKind.Name cell
typed_kind_step (TypedKind-F.Number number type) = TypedKind.Number number type
typed_kind_step TypedKind-F.EofName = TypedKind.EofName
typed_kind_step (TypedKind-F.Call callee args) = TypedKind.Call callee (typed_exprs_of args)
typed_kind_step (TypedKind-F.Index cell length place line e) = TypedKind.Index cell length place line e
typed_kind_step (TypedKind-F.Convert e) = TypedKind.Convert e
typed_kind_step (TypedKind-F.Plus e) = TypedKind.Plus e
typed_kind_step (TypedKind-F.Minus e) = TypedKind.Minus e
typed_kind_step (TypedKind-F.Complement e) = TypedKind.Complement e
typed_kind_step (TypedKind-F.Not e) = TypedKind.Not e
typed_kind_step (TypedKind-F.Cast base e) = TypedKind.Cast base e
typed_kind_step (TypedKind-F.Binary op a b) = TypedKind.Binary op a b
typed_kind_step (TypedKind-F.AndAlso a b) = TypedKind.AndAlso a b
typed_kind_step (TypedKind-F.OrElse a b) = TypedKind.OrElse a b
typed_kind_step (TypedKind-F.Choose c a b) = TypedKind.Choose c a b
typed_kind_step (TypedKind-F.Assign op a b) = TypedKind.Assign op a b
typed_kind_step (TypedKind-F.Before op e) = TypedKind.Before op e
typed_kind_step (TypedKind-F.After op e) = TypedKind.After op e
typed_kind_step (TypedKind-F.Comma a b) = TypedKind.Comma a b

-- a form with its type, place and line
abbrev pub typed_expr_step : TypedExpr-F TypedKind TypedExpr → TypedExpr
typed_expr_step e = TypedExpr.At e.kind e.base e.place e.line

-- the form that the program holds
abbrev pub typed_kind_view : KindHeld → TypedKind
typed_kind_view = fold-TypedKind TypedKind TypedExpr typed_kind_step typed_expr_step

-- the expression that the program holds
abbrev pub typed_expr_view : ExprHeld → TypedExpr
typed_expr_view e = TypedExpr.At (typed_kind_view e.kind) e.base e.place e.line

-- a variable's initialiser
abbrev pub typed_init_view : InitHeld → TypedInit
typed_init_view InitHeld.Absent = TypedInit.Absent
typed_init_view (InitHeld.One e) = TypedInit.One (typed_expr_view e)
typed_init_view (InitHeld.List es) = TypedInit.Several (map typed_expr_view es)

-- a variable
abbrev pub typed_var_view : VarHeld → TypedVar
typed_var_view v =
    record {
      cell = v.cell;
      number_type = v.number_type;
      length = v.length;
      init = typed_init_view v.init;
      place = v.place;
      line = v.line;
    }

-- the list of statements with these members
abbrev pub typed_stmts_of : List TypedStmt → TypedStmts
typed_stmts_of [] = TypedStmts.End
typed_stmts_of (s ∷ ss) = TypedStmts.More s (typed_stmts_of ss)

-- a statement that may be left out
abbrev pub other_typed_of : Option TypedStmt → OtherTyped
other_typed_of None = OtherTyped.Nothing
other_typed_of (Some s) = OtherTyped.There s

-- the list of labels and items with these members
abbrev pub typed_items_of : List TypedItem → TypedItems
typed_items_of [] = TypedItems.Last
typed_items_of (i ∷ is) = TypedItems.Further i (typed_items_of is)

-- a statement whose parts are seen
abbrev pub typed_stmt_step : TypedStmt-F TypedStmt TypedItem TypedForHead → TypedStmt
typed_stmt_step (TypedStmt-F.Vars vars) = TypedStmt.Vars (map typed_var_view vars)
typed_stmt_step (TypedStmt-F.Block ss) = TypedStmt.Block (typed_stmts_of ss)
typed_stmt_step TypedStmt-F.Empty = TypedStmt.Empty
typed_stmt_step (TypedStmt-F.Value e) = TypedStmt.Value (typed_expr_view e)
typed_stmt_step (TypedStmt-F.If e s other) = TypedStmt.If (typed_expr_view e) s (other_typed_of other)
typed_stmt_step (TypedStmt-F.While e s) = TypedStmt.While (typed_expr_view e) s
typed_stmt_step (TypedStmt-F.DoWhile s e line) = TypedStmt.DoWhile s (typed_expr_view e) line
typed_stmt_step (TypedStmt-F.For head s) = TypedStmt.For head s
typed_stmt_step (TypedStmt-F.Switch e is) = TypedStmt.Switch (typed_expr_view e) (typed_items_of is)
typed_stmt_step (TypedStmt-F.Break place line) = TypedStmt.Break place line
typed_stmt_step (TypedStmt-F.Continue place line) = TypedStmt.Continue place line
typed_stmt_step (TypedStmt-F.Return e place line) = TypedStmt.Return (option_map typed_expr_view e) place line

-- the parentheses of a `for` whose parts are seen
abbrev pub typed_head_step : TypedForHead-F TypedStmt TypedItem TypedForHead → TypedForHead
typed_head_step h =
    TypedForHead.Head (other_typed_of h.first) (option_map typed_expr_view h.test) (option_map typed_expr_view h.step)

-- a label or an item whose parts are seen
abbrev pub typed_item_step : TypedSwitchItem-F TypedStmt TypedItem TypedForHead → TypedItem
typed_item_step (TypedSwitchItem-F.Case number place) = TypedItem.Case number place
typed_item_step (TypedSwitchItem-F.Default place) = TypedItem.Default place
typed_item_step (TypedSwitchItem-F.Item s) = TypedItem.Item s

-- the statement that the program holds
abbrev pub typed_stmt_view : StmtHeld → TypedStmt
typed_stmt_view = fold-TypedStmt TypedStmt TypedItem TypedForHead typed_stmt_step typed_item_step typed_head_step

-- a function
abbrev pub function_view : FunctionHeld → TypedFunction
function_view f =
    record {
      name = f.name;
      line = f.line;
      result = f.result;
      params = f.params;
      cells = f.cells;
      body = typed_stmts_of
          (map typed_stmt_view f.body);
    }

-- the typed tree that the program holds
abbrev pub typed_view : TypedHeld → Typed
typed_view t = record { functions = map function_view t.functions; globals = t.globals; main = t.main }
