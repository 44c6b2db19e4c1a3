-- Sources that look odd and have no fault.
use Rattle.std.proofs.Common.{◌≡◌, refl, pos, [], ◌∷◌, Some, None}
use Rattle.std.specs.Prelude.{codes}
use Rattle.int_ops.specs.declared.types.IntType.TheVariants as type
use Rattle.int_ops.specs.declared.operators.BinOp.TheVariants as op
use Rattle.c_tree.specs.declared.expr.Base.TheVariants as base
use Rattle.c_tree.specs.Expr.{Kind, Exprs}
use Rattle.c_tree.specs.Stmt.{Size, Init, Stmt, OtherStmt, ForHead, Stmts, SwitchItem, SwitchItems}
use Rattle.c_tree.specs.Tree.{Outer}
use Rattle.c_typing.specs.TypedForms.{int}
use Rattle.c_typing.specs.Sources.{type_faults}
use Rattle.c_typing.proofs.Trees.{at, variable, parameter, function, source}

-- `int f(int a) { { int a; } return a; } int main(void) {}`
inner_name_hides_a_parameter : type_faults (source (Outer.Function (function int (codes "f") (parameter int (Some
    (codes "a")) 10 ∷ []) 4) (Stmts.More (Stmt.Block (Stmts.More (Stmt.Vars (variable int (codes "a") Size.Scalar
    Init.Absent 21 ∷ [])) Stmts.End)) (Stmts.More (Stmt.Return (Some (at (Kind.Name (codes "a")) 33)) 26 1)
    Stmts.End)) ∷ Outer.Function (function int (codes "main") [] 42) Stmts.End ∷ []) 55) ≡ []
inner_name_hides_a_parameter = refl

-- `int f(int a); int f(int); int f(int b) { return b; } int main(void) {}`
declarations_agree : type_faults (source (Outer.Prototype (function int (codes "f") (parameter int (Some (codes "a"
    )) 10 ∷ []) 4) ∷ Outer.Prototype (function int (codes "f") (parameter int None 20 ∷ []) 18) ∷ Outer.Function
    (function int (codes "f") (parameter int (Some (codes "b")) 36 ∷ []) 30) (Stmts.More (Stmt.Return (Some (at
    (Kind.Name (codes "b")) 48)) 41 1) Stmts.End) ∷ Outer.Function (function int (codes "main") [] 57) Stmts.End ∷
    []) 70) ≡ []
declarations_agree = refl

-- `int getchar(void); int putchar(int); void exit(int); int main(void) {}`
built_ins_declared : type_faults (source (Outer.Prototype (function int (codes "getchar") [] 4) ∷ Outer.Prototype
    (function int (codes "putchar") (parameter int None 31 ∷ []) 23) ∷ Outer.Prototype (function base.Void (codes
    "exit") (parameter int None 47 ∷ []) 42) ∷ Outer.Function (function int (codes "main") [] 57) Stmts.End ∷ [])
    70) ≡ []
built_ins_declared = refl

-- `int f(void); int main(void) {}`
prototype_never_called : type_faults (source (Outer.Prototype (function int (codes "f") [] 4) ∷ Outer.Function
    (function int (codes "main") [] 17) Stmts.End ∷ []) 30) ≡ []
prototype_never_called = refl

-- `int main(void) { int y = y; return y; }`
reads_its_own_cell : type_faults (source (Outer.Function (function int (codes "main") [] 4) (Stmts.More (Stmt.Vars
    (variable int (codes "y") Size.Scalar (Init.One (at (Kind.Name (codes "y")) 25)) 21 ∷ [])) (Stmts.More
    (Stmt.Return (Some (at (Kind.Name (codes "y")) 35)) 28 1) Stmts.End)) ∷ []) 39) ≡ []
reads_its_own_cell = refl

-- `int main(void) { int putchar = 1, getchar[2], exit; putchar = exit; return getchar[0]; }`
built_in_names_as_variables : type_faults (source (Outer.Function (function int (codes "main") [] 4) (Stmts.More
    (Stmt.Vars (variable int (codes "putchar") Size.Scalar (Init.One (at (Kind.Number (pos 1) type.Int) 31)) 21 ∷
    variable int (codes "getchar") (Size.Len (at (Kind.Number (pos 2) type.Int) 42)) Init.Absent 34 ∷ variable int
    (codes "exit") Size.Scalar Init.Absent 46 ∷ [])) (Stmts.More (Stmt.Value (at (Kind.Assign None (at (Kind.Name
    (codes "putchar")) 52) (at (Kind.Name (codes "exit")) 62)) 60)) (Stmts.More (Stmt.Return (Some (at (Kind.Index
    (codes "getchar") 75 1 (at (Kind.Number (pos 0) type.Int) 83)) 82)) 68 1) Stmts.End))) ∷ []) 88) ≡ []
built_in_names_as_variables = refl

-- `int main(void) { int x, a[2]; (x) = 1; ((a[1]))--; return (x); }`
parentheses_assigned : type_faults (source (Outer.Function (function int (codes "main") [] 4) (Stmts.More (Stmt.Vars
    (variable int (codes "x") Size.Scalar Init.Absent 21 ∷ variable int (codes "a") (Size.Len (at (Kind.Number (pos
    2) type.Int) 26)) Init.Absent 24 ∷ [])) (Stmts.More (Stmt.Value (at (Kind.Assign None (at (Kind.Paren (at
    (Kind.Name (codes "x")) 31)) 30) (at (Kind.Number (pos 1) type.Int) 36)) 34)) (Stmts.More (Stmt.Value (at
    (Kind.After op.Sub (at (Kind.Paren (at (Kind.Paren (at (Kind.Index (codes "a") 41 1 (at (Kind.Number (pos 1)
    type.Int) 43)) 42)) 40)) 39)) 47)) (Stmts.More (Stmt.Return (Some (at (Kind.Paren (at (Kind.Name (codes "x"))
    59)) 58)) 51 1) Stmts.End)))) ∷ []) 64) ≡ []
parentheses_assigned = refl

-- `void v(void) {} int main(void) { v(), v(); (v()); 1 ? v() : v(); for (v(); ; v()) break; (void)(void)v(); return
-- (v(), 3); }`
void_where_it_may : type_faults (source (Outer.Function (function base.Void (codes "v") [] 5) Stmts.End ∷
    Outer.Function (function int (codes "main") [] 20) (Stmts.More (Stmt.Value (at (Kind.Comma (at (Kind.Call (codes
    "v") Exprs.End) 33) (at (Kind.Call (codes "v") Exprs.End) 38)) 36)) (Stmts.More (Stmt.Value (at (Kind.Paren (at
    (Kind.Call (codes "v") Exprs.End) 44)) 43)) (Stmts.More (Stmt.Value (at (Kind.Choose (at (Kind.Number (pos 1)
    type.Int) 50) (at (Kind.Call (codes "v") Exprs.End) 54) (at (Kind.Call (codes "v") Exprs.End) 60)) 52))
    (Stmts.More (Stmt.For (ForHead.Head (OtherStmt.There (Stmt.Value (at (Kind.Call (codes "v") Exprs.End) 70))) None
    (Some (at (Kind.Call (codes "v") Exprs.End) 77))) (Stmt.Break 82 1)) (Stmts.More (Stmt.Value (at (Kind.Cast
    base.Void (at (Kind.Cast base.Void (at (Kind.Call (codes "v") Exprs.End) 101)) 95)) 89)) (Stmts.More (Stmt.Return
    (Some (at (Kind.Paren (at (Kind.Comma (at (Kind.Call (codes "v") Exprs.End) 114) (at (Kind.Number (pos 3)
    type.Int) 119)) 117)) 113)) 106 1) Stmts.End)))))) ∷ []) 124) ≡ []
void_where_it_may = refl

-- `int main(void) { return 1 / 0; }`
traps_only_when_run : type_faults (source (Outer.Function (function int (codes "main") [] 4) (Stmts.More (Stmt.Return
    (Some (at (Kind.Binary op.Div (at (Kind.Number (pos 1) type.Int) 24) (at (Kind.Number (pos 0) type.Int) 28)) 26))
    17 1) Stmts.End) ∷ []) 32) ≡ []
traps_only_when_run = refl

-- `int a[(char)2], b[1 ? 3 : 1 / 0], c[0 || 1], d[EOF + 2]; int main(void) {}`
lengths_computed : type_faults (source (Outer.Vars (variable int (codes "a") (Size.Len (at (Kind.Cast (base.Int
    type.Char) (at (Kind.Number (pos 2) type.Int) 12)) 6)) Init.Absent 4 ∷ variable int (codes "b") (Size.Len (at
    (Kind.Choose (at (Kind.Number (pos 1) type.Int) 18) (at (Kind.Number (pos 3) type.Int) 22) (at (Kind.Binary op.Div
    (at (Kind.Number (pos 1) type.Int) 26) (at (Kind.Number (pos 0) type.Int) 30)) 28)) 20)) Init.Absent 16 ∷ variable
    int (codes "c") (Size.Len (at (Kind.OrElse (at (Kind.Number (pos 0) type.Int) 36) (at (Kind.Number (pos 1)
    type.Int) 41)) 38)) Init.Absent 34 ∷ variable int (codes "d") (Size.Len (at (Kind.Binary op.Add (at Kind.EofName
    47) (at (Kind.Number (pos 2) type.Int) 53)) 51)) Init.Absent 45 ∷ []) ∷ Outer.Function (function int (codes "main"
    ) [] 61) Stmts.End ∷ []) 74) ≡ []
lengths_computed = refl

-- `int main(void) { switch ((char)3) { case 259: ; case 3: ; case -253: ; } return 0; }`
cases_apart_in_char : type_faults (source (Outer.Function (function int (codes "main") [] 4) (Stmts.More (Stmt.Switch
    (at (Kind.Cast (base.Int type.Char) (at (Kind.Number (pos 3) type.Int) 31)) 25) (SwitchItems.Further
    (SwitchItem.Case (at (Kind.Number (pos 259) type.Int) 41) 36) (SwitchItems.Further (SwitchItem.Item Stmt.Empty)
    (SwitchItems.Further (SwitchItem.Case (at (Kind.Number (pos 3) type.Int) 53) 48) (SwitchItems.Further
    (SwitchItem.Item Stmt.Empty) (SwitchItems.Further (SwitchItem.Case (at (Kind.Minus (at (Kind.Number (pos 253)
    type.Int) 64)) 63) 58) (SwitchItems.Further (SwitchItem.Item Stmt.Empty) SwitchItems.Last))))))) (Stmts.More
    (Stmt.Return (Some (at (Kind.Number (pos 0) type.Int) 80)) 73 1) Stmts.End)) ∷ []) 84) ≡ []
cases_apart_in_char = refl

-- `int main(void) { int a = 1; { int a[2] = {a[1]}; } return a; }`
length_sees_the_outer_name : type_faults (source (Outer.Function (function int (codes "main") [] 4) (Stmts.More
    (Stmt.Vars (variable int (codes "a") Size.Scalar (Init.One (at (Kind.Number (pos 1) type.Int) 25)) 21 ∷ []))
    (Stmts.More (Stmt.Block (Stmts.More (Stmt.Vars (variable int (codes "a") (Size.Len (at (Kind.Number (pos 2)
    type.Int) 36)) (Init.Several ((at (Kind.Index (codes "a") 42 1 (at (Kind.Number (pos 1) type.Int) 44)) 43) ∷ []))
    34 ∷ [])) Stmts.End)) (Stmts.More (Stmt.Return (Some (at (Kind.Name (codes "a")) 58)) 51 1) Stmts.End))) ∷ [])
    62) ≡ []
length_sees_the_outer_name = refl
