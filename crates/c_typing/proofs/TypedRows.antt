-- Sources and their typed trees, computed.
use Rattle.std.proofs.Common.{◌≡◌, refl, pos, [], ◌∷◌, Some, None}
use Rattle.std.specs.Prelude.{codes}
use Rattle.int_ops.specs.declared.types.IntType.TheVariants as type
use Rattle.int_ops.specs.declared.operators.BinOp.TheVariants as op
use Rattle.c_tree.specs.declared.expr.Base.TheVariants as base
use Rattle.c_tree.specs.declared.typed_expr.CellAt.TheVariants as cell
use Rattle.c_tree.specs.declared.typed_expr.Callee.TheVariants as callee
use Rattle.c_tree.specs.Expr.{Kind, Exprs}
use Rattle.c_tree.specs.Stmt.{Size, Init, Stmt, OtherStmt, ForHead, Stmts, SwitchItem, SwitchItems}
use Rattle.c_tree.specs.Tree.{Outer, Tree}
use Rattle.c_tree.specs.TypedExpr.{TypedExpr, TypedKind, TypedExprs}
use Rattle.c_tree.specs.TypedStmt.{TypedInit, TypedStmt, OtherTyped, TypedForHead, TypedStmts, TypedItem, TypedItems}
use Rattle.c_typing.specs.TypedForms.{int}
use Rattle.c_typing.specs.Sources.{type_faults, typed_of}
use Rattle.c_typing.proofs.Trees.{at, variable, parameter, function, source}

-- `int main(void) { char c; c = c + 1; return c; }`
abbrev char_stepped_by_hand : Tree
char_stepped_by_hand =
    source (Outer.Function (function int (codes "main") [] 4) (Stmts.More (Stmt.Vars
    (variable (base.Int type.Char) (codes "c") Size.Scalar Init.Absent 22 ∷ [])) (Stmts.More (Stmt.Value (at
    (Kind.Assign None (at (Kind.Name (codes "c")) 25) (at (Kind.Binary op.Add (at (Kind.Name (codes "c")) 29) (at
    (Kind.Number (pos 1) type.Int) 33)) 31)) 27)) (Stmts.More (Stmt.Return (Some (at (Kind.Name (codes "c")) 43)) 36
    1) Stmts.End))) ∷ []) 47

char_stepped_by_hand_has_no_fault : type_faults char_stepped_by_hand ≡ []
char_stepped_by_hand_has_no_fault = refl

char_stepped_by_hand_typed : typed_of char_stepped_by_hand ≡ record {
  functions = (record {
    name = codes "main";
    line
        = 1;
    result = int;
    params = [];
    cells = 1;
    body = (TypedStmts.More (TypedStmt.Vars (record {
      cell = 0;
      number_type
          = type.Char;
      length = None;
      init = TypedInit.Absent;
      place = 22;
      line = 1;
    } ∷ [])) (TypedStmts.More
        (TypedStmt.Value (TypedExpr.At (TypedKind.Assign None (TypedExpr.At (TypedKind.Name (cell.Local 0)) (base.Int
        type.Char) 25 1) (TypedExpr.At (TypedKind.Convert (TypedExpr.At (TypedKind.Binary op.Add (TypedExpr.At
        (TypedKind.Convert (TypedExpr.At (TypedKind.Name (cell.Local 0)) (base.Int type.Char) 29 1)) int 29 1)
        (TypedExpr.At (TypedKind.Number (pos 1) type.Int) int 33 1)) int 31 1)) (base.Int type.Char) 31 1)) (base.Int
        type.Char) 27 1)) (TypedStmts.More (TypedStmt.Return (Some (TypedExpr.At (TypedKind.Convert (TypedExpr.At
        (TypedKind.Name (cell.Local 0)) (base.Int type.Char) 43 1)) int 43 1)) 36 1) TypedStmts.End)));
  } ∷ []);
  globals =
      [];
  main = 0;
}
char_stepped_by_hand_typed = refl

-- `int main(void) { unsigned u = 1; long l = u; l += u; u <<= l; return u < l; }`
abbrev shift_and_compound : Tree
shift_and_compound =
    source (Outer.Function (function int (codes "main") [] 4) (Stmts.More (Stmt.Vars
    (variable (base.Int type.UnsignedInt) (codes "u") Size.Scalar (Init.One (at (Kind.Number (pos 1) type.Int) 30))
    26 ∷ [])) (Stmts.More (Stmt.Vars (variable (base.Int type.Long) (codes "l") Size.Scalar (Init.One (at (Kind.Name
    (codes "u")) 42)) 38 ∷ [])) (Stmts.More (Stmt.Value (at (Kind.Assign (Some op.Add) (at (Kind.Name (codes "l"))
    45) (at (Kind.Name (codes "u")) 50)) 47)) (Stmts.More (Stmt.Value (at (Kind.Assign (Some op.Shl) (at (Kind.Name
    (codes "u")) 53) (at (Kind.Name (codes "l")) 59)) 55)) (Stmts.More (Stmt.Return (Some (at (Kind.Binary op.Less
    (at (Kind.Name (codes "u")) 69) (at (Kind.Name (codes "l")) 73)) 71)) 62 1) Stmts.End))))) ∷ []) 77

shift_and_compound_has_no_fault : type_faults shift_and_compound ≡ []
shift_and_compound_has_no_fault = refl

shift_and_compound_typed : typed_of shift_and_compound ≡ record {
  functions = (record {
    name = codes "main";
    line =
        1;
    result = int;
    params = [];
    cells = 2;
    body = (TypedStmts.More (TypedStmt.Vars (record {
      cell = 0;
      number_type =
          type.UnsignedInt;
      length = None;
      init = (TypedInit.One (TypedExpr.At (TypedKind.Convert (TypedExpr.At
          (TypedKind.Number (pos 1) type.Int) int 30 1)) (base.Int type.UnsignedInt) 30 1));
      place = 26;
      line = 1;
    } ∷ []))
        (TypedStmts.More (TypedStmt.Vars (record {
          cell = 1;
          number_type = type.Long;
          length = None;
          init = (TypedInit.One
              (TypedExpr.At (TypedKind.Convert (TypedExpr.At (TypedKind.Name (cell.Local 0)) (base.Int type.UnsignedInt) 42 1))
              (base.Int type.Long) 42 1));
          place = 38;
          line = 1;
        } ∷ [])) (TypedStmts.More (TypedStmt.Value (TypedExpr.At
        (TypedKind.Assign (Some op.Add) (TypedExpr.At (TypedKind.Name (cell.Local 1)) (base.Int type.Long) 45 1)
        (TypedExpr.At (TypedKind.Convert (TypedExpr.At (TypedKind.Name (cell.Local 0)) (base.Int type.UnsignedInt) 50 1))
        (base.Int type.Long) 50 1)) (base.Int type.Long) 47 1)) (TypedStmts.More (TypedStmt.Value (TypedExpr.At
        (TypedKind.Assign (Some op.Shl) (TypedExpr.At (TypedKind.Name (cell.Local 0)) (base.Int type.UnsignedInt) 53 1)
        (TypedExpr.At (TypedKind.Name (cell.Local 1)) (base.Int type.Long) 59 1)) (base.Int type.UnsignedInt) 55 1))
        (TypedStmts.More (TypedStmt.Return (Some (TypedExpr.At (TypedKind.Binary op.Less (TypedExpr.At (TypedKind.Convert
        (TypedExpr.At (TypedKind.Name (cell.Local 0)) (base.Int type.UnsignedInt) 69 1)) (base.Int type.Long) 69 1)
        (TypedExpr.At (TypedKind.Name (cell.Local 1)) (base.Int type.Long) 73 1)) int 71 1)) 62 1) TypedStmts.End)))));
  } ∷
      []);
  globals = [];
  main = 0;
}
shift_and_compound_typed = refl

-- `long f(char c, int n) { return n; } int a[3] = {1, 300}; int main(void) { return 1 ? f(a[1], 2) : a[0]; }`
abbrev call_index_choice : Tree
call_index_choice =
    source (Outer.Function (function (base.Int type.Long) (codes "f") (parameter (base.Int
    type.Char) (Some (codes "c")) 12 ∷ parameter int (Some (codes "n")) 19 ∷ []) 5) (Stmts.More (Stmt.Return (Some
    (at (Kind.Name (codes "n")) 31)) 24 1) Stmts.End) ∷ Outer.Vars (variable int (codes "a") (Size.Len (at
    (Kind.Number (pos 3) type.Int) 42)) (Init.Several ((at (Kind.Number (pos 1) type.Int) 48) ∷ (at (Kind.Number (pos
    300) type.Int) 51) ∷ [])) 40 ∷ []) ∷ Outer.Function (function int (codes "main") [] 61) (Stmts.More (Stmt.Return
    (Some (at (Kind.Choose (at (Kind.Number (pos 1) type.Int) 81) (at (Kind.Call (codes "f") (Exprs.More (at
    (Kind.Index (codes "a") 87 1 (at (Kind.Number (pos 1) type.Int) 89)) 88) (Exprs.More (at (Kind.Number (pos 2)
    type.Int) 93) Exprs.End))) 85) (at (Kind.Index (codes "a") 98 1 (at (Kind.Number (pos 0) type.Int) 100)) 99))
    83)) 74 1) Stmts.End) ∷ []) 105

call_index_choice_has_no_fault : type_faults call_index_choice ≡ []
call_index_choice_has_no_fault = refl

call_index_choice_typed : typed_of call_index_choice ≡ record {
  functions = (record {
    name = codes "f";
    line = 1;
    result = base.Int type.Long;
    params = (type.Char ∷ type.Int ∷ []);
    cells = 2;
    body = (TypedStmts.More
        (TypedStmt.Return (Some (TypedExpr.At (TypedKind.Convert (TypedExpr.At (TypedKind.Name (cell.Local 1)) int 31 1))
        (base.Int type.Long) 31 1)) 24 1) TypedStmts.End);
  } ∷ record {
    name = codes "main";
    line = 1;
    result = int;
    params = [];
    cells = 0;
    body = (TypedStmts.More (TypedStmt.Return (Some (TypedExpr.At (TypedKind.Convert
        (TypedExpr.At (TypedKind.Choose (TypedExpr.At (TypedKind.Number (pos 1) type.Int) int 81 1) (TypedExpr.At
        (TypedKind.Call (callee.Function 0) (TypedExprs.More (TypedExpr.At (TypedKind.Convert (TypedExpr.At
        (TypedKind.Index (cell.Global 0) 3 87 1 (TypedExpr.At (TypedKind.Number (pos 1) type.Int) int 89 1)) int 88 1))
        (base.Int type.Char) 88 1) (TypedExprs.More (TypedExpr.At (TypedKind.Number (pos 2) type.Int) int 93 1)
        TypedExprs.End))) (base.Int type.Long) 85 1) (TypedExpr.At (TypedKind.Convert (TypedExpr.At (TypedKind.Index
        (cell.Global 0) 3 98 1 (TypedExpr.At (TypedKind.Number (pos 0) type.Int) int 100 1)) int 99 1)) (base.Int
        type.Long) 99 1)) (base.Int type.Long) 83 1)) int 83 1)) 74 1) TypedStmts.End);
  } ∷ []);
  globals = (pos 1 ∷ pos 300
      ∷ pos 0 ∷ []);
  main = 1;
}
call_index_choice_typed = refl

-- `int main(void) { int x = 1; for (int i = 0; i < 2; i++) { int x[2]; x[i] = i; } switch (x) { char y; case (char)257:
-- y = 2; default: ; } }`
abbrev switch_and_scopes : Tree
switch_and_scopes =
    source (Outer.Function (function int (codes "main") [] 4) (Stmts.More (Stmt.Vars (variable
    int (codes "x") Size.Scalar (Init.One (at (Kind.Number (pos 1) type.Int) 25)) 21 ∷ [])) (Stmts.More (Stmt.For
    (ForHead.Head (OtherStmt.There (Stmt.Vars (variable int (codes "i") Size.Scalar (Init.One (at (Kind.Number (pos
    0) type.Int) 41)) 37 ∷ []))) (Some (at (Kind.Binary op.Less (at (Kind.Name (codes "i")) 44) (at (Kind.Number (pos
    2) type.Int) 48)) 46)) (Some (at (Kind.After op.Add (at (Kind.Name (codes "i")) 51)) 52))) (Stmt.Block
    (Stmts.More (Stmt.Vars (variable int (codes "x") (Size.Len (at (Kind.Number (pos 2) type.Int) 64)) Init.Absent 62
    ∷ [])) (Stmts.More (Stmt.Value (at (Kind.Assign None (at (Kind.Index (codes "x") 68 1 (at (Kind.Name (codes "i"
    )) 70)) 69) (at (Kind.Name (codes "i")) 75)) 73)) Stmts.End)))) (Stmts.More (Stmt.Switch (at (Kind.Name (codes
    "x")) 88) (SwitchItems.Further (SwitchItem.Item (Stmt.Vars (variable (base.Int type.Char) (codes "y")
    Size.Scalar Init.Absent 98 ∷ []))) (SwitchItems.Further (SwitchItem.Case (at (Kind.Cast (base.Int type.Char) (at
    (Kind.Number (pos 257) type.Int) 112)) 106) 101) (SwitchItems.Further (SwitchItem.Item (Stmt.Value (at
    (Kind.Assign None (at (Kind.Name (codes "y")) 117) (at (Kind.Number (pos 2) type.Int) 121)) 119)))
    (SwitchItems.Further (SwitchItem.Default 124) (SwitchItems.Further (SwitchItem.Item Stmt.Empty)
    SwitchItems.Last)))))) Stmts.End))) ∷ []) 138

switch_and_scopes_has_no_fault : type_faults switch_and_scopes ≡ []
switch_and_scopes_has_no_fault = refl

switch_and_scopes_typed : typed_of switch_and_scopes ≡ record {
  functions = (record {
    name = codes "main";
    line = 1;
    result = int;
    params = [];
    cells = 5;
    body = (TypedStmts.More (TypedStmt.Vars (record {
      cell = 0;
      number_type =
          type.Int;
      length = None;
      init = (TypedInit.One (TypedExpr.At (TypedKind.Number (pos 1) type.Int) int 25 1));
      place
          = 21;
      line = 1;
    } ∷ [])) (TypedStmts.More (TypedStmt.For (TypedForHead.Head (OtherTyped.There (TypedStmt.Vars
        (record {
          cell = 1;
          number_type = type.Int;
          length = None;
          init = (TypedInit.One (TypedExpr.At (TypedKind.Number
              (pos 0) type.Int) int 41 1));
          place = 37;
          line = 1;
        } ∷ []))) (Some (TypedExpr.At (TypedKind.Binary op.Less
        (TypedExpr.At (TypedKind.Name (cell.Local 1)) int 44 1) (TypedExpr.At (TypedKind.Number (pos 2) type.Int) int 48
        1)) int 46 1)) (Some (TypedExpr.At (TypedKind.After op.Add (TypedExpr.At (TypedKind.Name (cell.Local 1)) int 51
        1)) int 52 1))) (TypedStmt.Block (TypedStmts.More (TypedStmt.Vars (record {
          cell = 2;
          number_type = type.Int;
          length = Some 2;
          init = TypedInit.Absent;
          place = 62;
          line = 1;
        } ∷ [])) (TypedStmts.More (TypedStmt.Value
        (TypedExpr.At (TypedKind.Assign None (TypedExpr.At (TypedKind.Index (cell.Local 2) 2 68 1 (TypedExpr.At
        (TypedKind.Name (cell.Local 1)) int 70 1)) int 69 1) (TypedExpr.At (TypedKind.Name (cell.Local 1)) int 75 1)) int
        73 1)) TypedStmts.End)))) (TypedStmts.More (TypedStmt.Switch (TypedExpr.At (TypedKind.Name (cell.Local 0)) int 88
        1) (TypedItems.Further (TypedItem.Item (TypedStmt.Vars (record {
          cell = 4;
          number_type = type.Char;
          length = None;
          init = TypedInit.Absent;
          place = 98;
          line = 1;
        } ∷ []))) (TypedItems.Further (TypedItem.Case (pos 1) 101)
        (TypedItems.Further (TypedItem.Item (TypedStmt.Value (TypedExpr.At (TypedKind.Assign None (TypedExpr.At
        (TypedKind.Name (cell.Local 4)) (base.Int type.Char) 117 1) (TypedExpr.At (TypedKind.Convert (TypedExpr.At
        (TypedKind.Number (pos 2) type.Int) int 121 1)) (base.Int type.Char) 121 1)) (base.Int type.Char) 119 1)))
        (TypedItems.Further (TypedItem.Default 124) (TypedItems.Further (TypedItem.Item TypedStmt.Empty)
        TypedItems.Last)))))) TypedStmts.End)));
  } ∷ []);
  globals = [];
  main = 0;
}
switch_and_scopes_typed = refl
