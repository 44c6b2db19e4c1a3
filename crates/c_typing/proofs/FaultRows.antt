-- Sources with faults, for each row of the table of faults at least one: the faults and their places, computed.
use Rattle.std.proofs.Common.{◌≡◌, refl, pos, [], ◌∷◌, Some, None}
use Rattle.std.specs.Prelude.{codes}
use Rattle.int_ops.specs.declared.types.IntType.TheVariants as type
use Rattle.int_ops.specs.declared.operators.BinOp.TheVariants as op
use Rattle.c_tree.specs.declared.expr.Base.TheVariants as base
use Rattle.c_tree.specs.Expr.{Kind, Exprs}
use Rattle.c_tree.specs.Stmt.{Size, Init, Stmt, Stmts, SwitchItem, SwitchItems}
use Rattle.c_tree.specs.Tree.{Outer}
use Rattle.c_typing.specs.declared.fault.TypeFault.TheVariants as fault
use Rattle.c_typing.specs.TypedForms.{int}
use Rattle.c_typing.specs.Sources.{type_faults}
use Rattle.c_typing.proofs.Trees.{at, variable, parameter, function, source}

-- `int main(void) { return x; }`
name_without_declaration : type_faults (source (Outer.Function (function int (codes "main") [] 4) (Stmts.More
    (Stmt.Return (Some (at (Kind.Name (codes "x")) 24)) 17 1) Stmts.End) ∷ []) 28) ≡ fault.Unknown 24 ∷ []
name_without_declaration = refl

-- `int main(void) { { int x; } x; }`
name_out_of_its_block : type_faults (source (Outer.Function (function int (codes "main") [] 4) (Stmts.More
    (Stmt.Block (Stmts.More (Stmt.Vars (variable int (codes "x") Size.Scalar Init.Absent 23 ∷ [])) Stmts.End))
    (Stmts.More (Stmt.Value (at (Kind.Name (codes "x")) 28)) Stmts.End)) ∷ []) 32) ≡ fault.Unknown 28 ∷ []
name_out_of_its_block = refl

-- `int f(void) { return g(); } int g(void) { return 1; } int main(void) {}`
called_before_its_declaration : type_faults (source (Outer.Function (function int (codes "f") [] 4) (Stmts.More
    (Stmt.Return (Some (at (Kind.Call (codes "g") Exprs.End) 21)) 14 1) Stmts.End) ∷ Outer.Function (function int
    (codes "g") [] 32) (Stmts.More (Stmt.Return (Some (at (Kind.Number (pos 1) type.Int) 49)) 42 1) Stmts.End) ∷
    Outer.Function (function int (codes "main") [] 58) Stmts.End ∷ []) 71) ≡ fault.Unknown 21 ∷ []
called_before_its_declaration = refl

-- `int x; int x; int main(void) {}`
declared_twice : type_faults (source (Outer.Vars (variable int (codes "x") Size.Scalar Init.Absent 4 ∷ []) ∷
    Outer.Vars (variable int (codes "x") Size.Scalar Init.Absent 11 ∷ []) ∷ Outer.Function (function int (codes
    "main") [] 18) Stmts.End ∷ []) 31) ≡ fault.Redeclared 11 ∷ []
declared_twice = refl

-- `int f(int a) { int a; return a; } int main(void) {}`
parameter_declared_again : type_faults (source (Outer.Function (function int (codes "f") (parameter int (Some (codes
    "a")) 10 ∷ []) 4) (Stmts.More (Stmt.Vars (variable int (codes "a") Size.Scalar Init.Absent 19 ∷ [])) (Stmts.More
    (Stmt.Return (Some (at (Kind.Name (codes "a")) 29)) 22 1) Stmts.End)) ∷ Outer.Function (function int (codes
    "main") [] 38) Stmts.End ∷ []) 51) ≡ fault.Redeclared 19 ∷ []
parameter_declared_again = refl

-- `int f(int a); int f(long a); int main(void) {}`
other_parameter_type : type_faults (source (Outer.Prototype (function int (codes "f") (parameter int (Some (codes "a"
    )) 10 ∷ []) 4) ∷ Outer.Prototype (function int (codes "f") (parameter (base.Int type.Long) (Some (codes "a")) 25
    ∷ []) 18) ∷ Outer.Function (function int (codes "main") [] 33) Stmts.End ∷ []) 46) ≡ fault.Redeclared 18 ∷ []
other_parameter_type = refl

-- `void f(void) {} void f(void) {} int main(void) {}`
defined_twice : type_faults (source (Outer.Function (function base.Void (codes "f") [] 5) Stmts.End ∷ Outer.Function
    (function base.Void (codes "f") [] 21) Stmts.End ∷ Outer.Function (function int (codes "main") [] 36) Stmts.End
    ∷ []) 49) ≡ fault.Redeclared 21 ∷ []
defined_twice = refl

-- `int getchar(void) { return 0; } int main(void) {}`
built_in_defined : type_faults (source (Outer.Function (function int (codes "getchar") [] 4) (Stmts.More (Stmt.Return
    (Some (at (Kind.Number (pos 0) type.Int) 27)) 20 1) Stmts.End) ∷ Outer.Function (function int (codes "main") []
    36) Stmts.End ∷ []) 49) ≡ fault.Redeclared 4 ∷ []
built_in_defined = refl

-- `int exit(int); int main(void) {}`
built_in_with_another_result : type_faults (source (Outer.Prototype (function int (codes "exit") (parameter int None
    9 ∷ []) 4) ∷ Outer.Function (function int (codes "main") [] 19) Stmts.End ∷ []) 32) ≡ fault.Redeclared 4 ∷ []
built_in_with_another_result = refl

-- `int f(int a, int a); int main(void) { return f(1); }`
two_parameters_of_one_name : type_faults (source (Outer.Prototype (function int (codes "f") (parameter int (Some
    (codes "a")) 10 ∷ parameter int (Some (codes "a")) 17 ∷ []) 4) ∷ Outer.Function (function int (codes "main") []
    25) (Stmts.More (Stmt.Return (Some (at (Kind.Call (codes "f") (Exprs.More (at (Kind.Number (pos 1) type.Int) 47)
    Exprs.End)) 45)) 38 1) Stmts.End) ∷ []) 52) ≡ fault.Redeclared 17 ∷ fault.NoBody 45 ∷ fault.ArgCount 45 ∷ []
two_parameters_of_one_name = refl

-- `int f(void); int main(void) { f(); }`
never_defined : type_faults (source (Outer.Prototype (function int (codes "f") [] 4) ∷ Outer.Function (function int
    (codes "main") [] 17) (Stmts.More (Stmt.Value (at (Kind.Call (codes "f") Exprs.End) 30)) Stmts.End) ∷ []) 36) ≡
    fault.NoBody 30 ∷ []
never_defined = refl

-- `void f(void); int main(void) { return f(); }`
void_and_never_defined : type_faults (source (Outer.Prototype (function base.Void (codes "f") [] 5) ∷ Outer.Function
    (function int (codes "main") [] 18) (Stmts.More (Stmt.Return (Some (at (Kind.Call (codes "f") Exprs.End) 38)) 31
    1) Stmts.End) ∷ []) 44) ≡ fault.NoBody 38 ∷ []
void_and_never_defined = refl

-- `int f(int a) { return a; } int main(void) { f(); f(1, 2); }`
other_number_of_arguments : type_faults (source (Outer.Function (function int (codes "f") (parameter int (Some (codes
    "a")) 10 ∷ []) 4) (Stmts.More (Stmt.Return (Some (at (Kind.Name (codes "a")) 22)) 15 1) Stmts.End) ∷
    Outer.Function (function int (codes "main") [] 31) (Stmts.More (Stmt.Value (at (Kind.Call (codes "f") Exprs.End)
    44)) (Stmts.More (Stmt.Value (at (Kind.Call (codes "f") (Exprs.More (at (Kind.Number (pos 1) type.Int) 51)
    (Exprs.More (at (Kind.Number (pos 2) type.Int) 54) Exprs.End))) 49)) Stmts.End)) ∷ []) 59) ≡ fault.ArgCount 44 ∷
    fault.ArgCount 49 ∷ []
other_number_of_arguments = refl

-- `int x; int main(void) { x(); }`
variable_called : type_faults (source (Outer.Vars (variable int (codes "x") Size.Scalar Init.Absent 4 ∷ []) ∷
    Outer.Function (function int (codes "main") [] 11) (Stmts.More (Stmt.Value (at (Kind.Call (codes "x") Exprs.End)
    24)) Stmts.End) ∷ []) 30) ≡ fault.NotAFunction 24 ∷ []
variable_called = refl

-- `int x; int main(void) { x[0]; main[0]; }`
no_array_indexed : type_faults (source (Outer.Vars (variable int (codes "x") Size.Scalar Init.Absent 4 ∷ []) ∷
    Outer.Function (function int (codes "main") [] 11) (Stmts.More (Stmt.Value (at (Kind.Index (codes "x") 24 1 (at
    (Kind.Number (pos 0) type.Int) 26)) 25)) (Stmts.More (Stmt.Value (at (Kind.Index (codes "main") 30 1 (at
    (Kind.Number (pos 0) type.Int) 35)) 34)) Stmts.End)) ∷ []) 40) ≡ fault.NotAnArray 24 ∷ fault.NotAnArray 30 ∷ []
no_array_indexed = refl

-- `int main(void) { main; }`
function_as_a_value : type_faults (source (Outer.Function (function int (codes "main") [] 4) (Stmts.More (Stmt.Value
    (at (Kind.Name (codes "main")) 17)) Stmts.End) ∷ []) 24) ≡ fault.NotAVariable 17 ∷ []
function_as_a_value = refl

-- `int main(void) { 1 = 2; }`
number_assigned : type_faults (source (Outer.Function (function int (codes "main") [] 4) (Stmts.More (Stmt.Value (at
    (Kind.Assign None (at (Kind.Number (pos 1) type.Int) 17) (at (Kind.Number (pos 2) type.Int) 21)) 19)) Stmts.End) ∷
    []) 25) ≡ fault.NotAVariable 19 ∷ []
number_assigned = refl

-- `int main(void) { int a; (a) = 1; (a + 1)++; }`
sum_stepped : type_faults (source (Outer.Function (function int (codes "main") [] 4) (Stmts.More (Stmt.Vars (variable
    int (codes "a") Size.Scalar Init.Absent 21 ∷ [])) (Stmts.More (Stmt.Value (at (Kind.Assign None (at (Kind.Paren
    (at (Kind.Name (codes "a")) 25)) 24) (at (Kind.Number (pos 1) type.Int) 30)) 28)) (Stmts.More (Stmt.Value (at
    (Kind.After op.Add (at (Kind.Paren (at (Kind.Binary op.Add (at (Kind.Name (codes "a")) 34) (at (Kind.Number (pos
    1) type.Int) 38)) 36)) 33)) 40)) Stmts.End))) ∷ []) 45) ≡ fault.NotAVariable 40 ∷ []
sum_stepped = refl

-- `int main(void) { main = 1; }`
function_assigned : type_faults (source (Outer.Function (function int (codes "main") [] 4) (Stmts.More (Stmt.Value
    (at (Kind.Assign None (at (Kind.Name (codes "main")) 17) (at (Kind.Number (pos 1) type.Int) 24)) 22)) Stmts.End)
    ∷ []) 28) ≡ fault.NotAVariable 22 ∷ []
function_assigned = refl

-- `int a[2]; int main(void) { a; a = 1; a++; }`
array_without_index : type_faults (source (Outer.Vars (variable int (codes "a") (Size.Len (at (Kind.Number (pos 2)
    type.Int) 6)) Init.Absent 4 ∷ []) ∷ Outer.Function (function int (codes "main") [] 14) (Stmts.More (Stmt.Value
    (at (Kind.Name (codes "a")) 27)) (Stmts.More (Stmt.Value (at (Kind.Assign None (at (Kind.Name (codes "a")) 30)
    (at (Kind.Number (pos 1) type.Int) 34)) 32)) (Stmts.More (Stmt.Value (at (Kind.After op.Add (at (Kind.Name (codes
    "a")) 37)) 38)) Stmts.End))) ∷ []) 43) ≡ fault.ArrayValue 27 ∷ fault.ArrayValue 30 ∷ fault.ArrayValue 37 ∷ []
array_without_index = refl

-- `int main(void) { int a[2] = 1; int b = {1}; }`
initialiser_of_the_other_form : type_faults (source (Outer.Function (function int (codes "main") [] 4) (Stmts.More
    (Stmt.Vars (variable int (codes "a") (Size.Len (at (Kind.Number (pos 2) type.Int) 23)) (Init.One (at (Kind.Number
    (pos 1) type.Int) 28)) 21 ∷ [])) (Stmts.More (Stmt.Vars (variable int (codes "b") Size.Scalar (Init.Several ((at
    (Kind.Number (pos 1) type.Int) 40) ∷ [])) 35 ∷ [])) Stmts.End)) ∷ []) 45) ≡ fault.ArrayValue 21 ∷ fault.ArrayValue
    35 ∷ []
initialiser_of_the_other_form = refl

-- `void f(void) {} int main(void) { return (f()); }`
void_in_parentheses_returned : type_faults (source (Outer.Function (function base.Void (codes "f") [] 5) Stmts.End ∷
    Outer.Function (function int (codes "main") [] 20) (Stmts.More (Stmt.Return (Some (at (Kind.Paren (at (Kind.Call
    (codes "f") Exprs.End) 41)) 40)) 33 1) Stmts.End) ∷ []) 48) ≡ fault.VoidValue 40 ∷ []
void_in_parentheses_returned = refl

-- `void f(void) {} int main(void) { 1 ? f() : 2; 1 ? f() : f(); (void)f(); f(), f(); }`
one_side_void : type_faults (source (Outer.Function (function base.Void (codes "f") [] 5) Stmts.End ∷ Outer.Function
    (function int (codes "main") [] 20) (Stmts.More (Stmt.Value (at (Kind.Choose (at (Kind.Number (pos 1) type.Int)
    33) (at (Kind.Call (codes "f") Exprs.End) 37) (at (Kind.Number (pos 2) type.Int) 43)) 35)) (Stmts.More
    (Stmt.Value (at (Kind.Choose (at (Kind.Number (pos 1) type.Int) 46) (at (Kind.Call (codes "f") Exprs.End) 50) (at
    (Kind.Call (codes "f") Exprs.End) 56)) 48)) (Stmts.More (Stmt.Value (at (Kind.Cast base.Void (at (Kind.Call
    (codes "f") Exprs.End) 67)) 61)) (Stmts.More (Stmt.Value (at (Kind.Comma (at (Kind.Call (codes "f") Exprs.End)
    72) (at (Kind.Call (codes "f") Exprs.End) 77)) 75)) Stmts.End)))) ∷ []) 83) ≡ fault.VoidValue 37 ∷ []
one_side_void = refl

-- `void x; int f(void a, int); int main(void) {}`
void_variable_and_parameter : type_faults (source (Outer.Vars (variable base.Void (codes "x") Size.Scalar Init.Absent
    5 ∷ []) ∷ Outer.Prototype (function int (codes "f") (parameter base.Void (Some (codes "a")) 19 ∷ parameter int
    None 22 ∷ []) 12) ∷ Outer.Function (function int (codes "main") [] 32) Stmts.End ∷ []) 45) ≡ fault.VoidValue 5 ∷
    fault.VoidValue 19 ∷ []
void_variable_and_parameter = refl

-- `void f(void) { return 1; } int main(void) { return; }`
returns_of_the_other_form : type_faults (source (Outer.Function (function base.Void (codes "f") [] 5) (Stmts.More
    (Stmt.Return (Some (at (Kind.Number (pos 1) type.Int) 22)) 15 1) Stmts.End) ∷ Outer.Function (function int (codes
    "main") [] 31) (Stmts.More (Stmt.Return None 44 1) Stmts.End) ∷ []) 53) ≡ fault.VoidValue 15 ∷ fault.VoidValue 44
    ∷ []
returns_of_the_other_form = refl

-- `void f(void) { return f(); } int main(void) {}`
void_returned_in_void : type_faults (source (Outer.Function (function base.Void (codes "f") [] 5) (Stmts.More
    (Stmt.Return (Some (at (Kind.Call (codes "f") Exprs.End) 22)) 15 1) Stmts.End) ∷ Outer.Function (function int
    (codes "main") [] 33) Stmts.End ∷ []) 46) ≡ fault.VoidValue 15 ∷ []
void_returned_in_void = refl

-- `int main(void) { int x; switch (1) { case x: ; case 1 / 0: ; case 1 || 1 / 0: ; } }`
cases_without_value : type_faults (source (Outer.Function (function int (codes "main") [] 4) (Stmts.More (Stmt.Vars
    (variable int (codes "x") Size.Scalar Init.Absent 21 ∷ [])) (Stmts.More (Stmt.Switch (at (Kind.Number (pos 1)
    type.Int) 32) (SwitchItems.Further (SwitchItem.Case (at (Kind.Name (codes "x")) 42) 37) (SwitchItems.Further
    (SwitchItem.Item Stmt.Empty) (SwitchItems.Further (SwitchItem.Case (at (Kind.Binary op.Div (at (Kind.Number (pos
    1) type.Int) 52) (at (Kind.Number (pos 0) type.Int) 56)) 54) 47) (SwitchItems.Further (SwitchItem.Item Stmt.Empty)
    (SwitchItems.Further (SwitchItem.Case (at (Kind.OrElse (at (Kind.Number (pos 1) type.Int) 66) (at (Kind.Binary
    op.Div (at (Kind.Number (pos 1) type.Int) 71) (at (Kind.Number (pos 0) type.Int) 75)) 73)) 68) 61)
    (SwitchItems.Further (SwitchItem.Item Stmt.Empty) SwitchItems.Last))))))) Stmts.End)) ∷ []) 83) ≡ fault.BadCase 37
    ∷ fault.BadCase 47 ∷ []
cases_without_value = refl

-- `int x = 1; int y = x; int z = getchar(); int w = (1, 2); int main(void) {}`
globals_without_value : type_faults (source (Outer.Vars (variable int (codes "x") Size.Scalar (Init.One (at
    (Kind.Number (pos 1) type.Int) 8)) 4 ∷ []) ∷ Outer.Vars (variable int (codes "y") Size.Scalar (Init.One (at
    (Kind.Name (codes "x")) 19)) 15 ∷ []) ∷ Outer.Vars (variable int (codes "z") Size.Scalar (Init.One (at
    (Kind.Call (codes "getchar") Exprs.End) 30)) 26 ∷ []) ∷ Outer.Vars (variable int (codes "w") Size.Scalar
    (Init.One (at (Kind.Paren (at (Kind.Comma (at (Kind.Number (pos 1) type.Int) 50) (at (Kind.Number (pos 2)
    type.Int) 53)) 51)) 49)) 45 ∷ []) ∷ Outer.Function (function int (codes "main") [] 61) Stmts.End ∷ []) 74) ≡
    fault.NotConstant 15 ∷ fault.NotConstant 26 ∷ fault.NotConstant 45 ∷ []
globals_without_value = refl

-- `int y = 2147483647 + 1; int z = 0 ? 1 / 0 : 3; int a[2] = {1, 1 / 0}; int main(void) {}`
globals_that_trap : type_faults (source (Outer.Vars (variable int (codes "y") Size.Scalar (Init.One (at (Kind.Binary
    op.Add (at (Kind.Number (pos 2147483647) type.Int) 8) (at (Kind.Number (pos 1) type.Int) 21)) 19)) 4 ∷ []) ∷
    Outer.Vars (variable int (codes "z") Size.Scalar (Init.One (at (Kind.Choose (at (Kind.Number (pos 0) type.Int)
    32) (at (Kind.Binary op.Div (at (Kind.Number (pos 1) type.Int) 36) (at (Kind.Number (pos 0) type.Int) 40)) 38) (at
    (Kind.Number (pos 3) type.Int) 44)) 34)) 28 ∷ []) ∷ Outer.Vars (variable int (codes "a") (Size.Len (at
    (Kind.Number (pos 2) type.Int) 53)) (Init.Several ((at (Kind.Number (pos 1) type.Int) 59) ∷ (at (Kind.Binary
    op.Div (at (Kind.Number (pos 1) type.Int) 62) (at (Kind.Number (pos 0) type.Int) 66)) 64) ∷ [])) 51 ∷ []) ∷
    Outer.Function (function int (codes "main") [] 74) Stmts.End ∷ []) 87) ≡ fault.NotConstant 4 ∷ fault.NotConstant
    51 ∷ []
globals_that_trap = refl

-- `int main(void) { switch (1) { case 1: case 1: ; } }`
case_twice : type_faults (source (Outer.Function (function int (codes "main") [] 4) (Stmts.More (Stmt.Switch (at
    (Kind.Number (pos 1) type.Int) 25) (SwitchItems.Further (SwitchItem.Case (at (Kind.Number (pos 1) type.Int) 35)
    30) (SwitchItems.Further (SwitchItem.Case (at (Kind.Number (pos 1) type.Int) 43) 38) (SwitchItems.Further
    (SwitchItem.Item Stmt.Empty) SwitchItems.Last)))) Stmts.End) ∷ []) 51) ≡ fault.TwiceCase 38 ∷ []
case_twice = refl

-- `int main(void) { switch ((char)1) { case 1: case 4294967297: default: default: ; } }`
case_twice_once_converted : type_faults (source (Outer.Function (function int (codes "main") [] 4) (Stmts.More
    (Stmt.Switch (at (Kind.Cast (base.Int type.Char) (at (Kind.Number (pos 1) type.Int) 31)) 25) (SwitchItems.Further
    (SwitchItem.Case (at (Kind.Number (pos 1) type.Int) 41) 36) (SwitchItems.Further (SwitchItem.Case (at (Kind.Number
    (pos 4294967297) type.Long) 49) 44) (SwitchItems.Further (SwitchItem.Default 61) (SwitchItems.Further
    (SwitchItem.Default 70) (SwitchItems.Further (SwitchItem.Item Stmt.Empty) SwitchItems.Last)))))) Stmts.End) ∷ [])
    84) ≡ fault.TwiceCase 44 ∷ fault.TwiceCase 70 ∷ []
case_twice_once_converted = refl

-- `int main(void) { break; continue; switch (1) { default: break; continue; } while (0) { break; continue; } }`
outside_of_loops : type_faults (source (Outer.Function (function int (codes "main") [] 4) (Stmts.More (Stmt.Break 17
    1) (Stmts.More (Stmt.Continue 24 1) (Stmts.More (Stmt.Switch (at (Kind.Number (pos 1) type.Int) 42)
    (SwitchItems.Further (SwitchItem.Default 47) (SwitchItems.Further (SwitchItem.Item (Stmt.Break 56 1))
    (SwitchItems.Further (SwitchItem.Item (Stmt.Continue 63 1)) SwitchItems.Last)))) (Stmts.More (Stmt.While (at
    (Kind.Number (pos 0) type.Int) 82) (Stmt.Block (Stmts.More (Stmt.Break 87 1) (Stmts.More (Stmt.Continue 94 1)
    Stmts.End)))) Stmts.End)))) ∷ []) 107) ≡ fault.OutsideLoop 17 ∷ fault.OutsideLoop 24 ∷ fault.OutsideLoop 63 ∷ []
outside_of_loops = refl

-- `int main(void) { break; }`
break_outside : type_faults (source (Outer.Function (function int (codes "main") [] 4) (Stmts.More (Stmt.Break 17 1)
    Stmts.End) ∷ []) 25) ≡ fault.OutsideLoop 17 ∷ []
break_outside = refl

-- `int a[0]; int main(void) {}`
length_of_nothing : type_faults (source (Outer.Vars (variable int (codes "a") (Size.Len (at (Kind.Number (pos 0)
    type.Int) 6)) Init.Absent 4 ∷ []) ∷ Outer.Function (function int (codes "main") [] 14) Stmts.End ∷ []) 27) ≡
    fault.ArraySize 4 ∷ []
length_of_nothing = refl

-- `int a[0]; int b[]; int c[1] = {1, 2}; int d[1048577]; int e[] = {1, 2,}; int f[-1]; int main(void) {}`
lengths : type_faults (source (Outer.Vars (variable int (codes "a") (Size.Len (at (Kind.Number (pos 0) type.Int) 6))
    Init.Absent 4 ∷ []) ∷ Outer.Vars (variable int (codes "b") Size.Unsized Init.Absent 14 ∷ []) ∷ Outer.Vars
    (variable int (codes "c") (Size.Len (at (Kind.Number (pos 1) type.Int) 25)) (Init.Several ((at (Kind.Number (pos
    1) type.Int) 31) ∷ (at (Kind.Number (pos 2) type.Int) 34) ∷ [])) 23 ∷ []) ∷ Outer.Vars (variable int (codes "d")
    (Size.Len (at (Kind.Number (pos 1048577) type.Int) 44)) Init.Absent 42 ∷ []) ∷ Outer.Vars (variable int (codes "e"
    ) Size.Unsized (Init.Several ((at (Kind.Number (pos 1) type.Int) 65) ∷ (at (Kind.Number (pos 2) type.Int) 68) ∷
    [])) 58 ∷ []) ∷ Outer.Vars (variable int (codes "f") (Size.Len (at (Kind.Minus (at (Kind.Number (pos 1) type.Int)
    80)) 79)) Init.Absent 77 ∷ []) ∷ Outer.Function (function int (codes "main") [] 88) Stmts.End ∷ []) 101) ≡
    fault.ArraySize 4 ∷ fault.ArraySize 14 ∷ fault.ArraySize 23 ∷ fault.ArraySize 42 ∷ fault.ArraySize 77 ∷ []
lengths = refl

-- `void main(void) {}`
main_without_result : type_faults (source (Outer.Function (function base.Void (codes "main") [] 5) Stmts.End ∷ [])
    18) ≡ fault.NoMain 18 ∷ []
main_without_result = refl

-- `int main(int a) {} `
main_with_a_parameter : type_faults (source (Outer.Function (function int (codes "main") (parameter int (Some (codes
    "a")) 13 ∷ []) 4) Stmts.End ∷ []) 18) ≡ fault.NoMain 18 ∷ []
main_with_a_parameter = refl

-- `int main(void);`
main_never_defined : type_faults (source (Outer.Prototype (function int (codes "main") [] 4) ∷ []) 15) ≡ fault.NoMain
    15 ∷ []
main_never_defined = refl

-- the empty text
empty_text : type_faults (source [] 0) ≡ fault.NoMain 0 ∷ []
empty_text = refl
