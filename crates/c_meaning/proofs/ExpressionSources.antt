-- Typed sources of expressions: every operator, the order of evaluation, logic, calls and statuses. Each has its text.
use Rattle.std.specs.Prelude.{pos, [], ◌∷◌, Some, None, codes}
use Rattle.int_ops.specs.declared.types.IntType.TheVariants as type
use Rattle.int_ops.specs.declared.operators.BinOp.TheVariants as op
use Rattle.c_tree.specs.declared.expr.Base.TheVariants as base
use Rattle.c_tree.specs.declared.typed_expr.CellAt.TheVariants as cell
use Rattle.c_tree.specs.declared.typed_expr.Callee.TheVariants as callee
use Rattle.c_tree.specs.TypedExpr.{TypedKind, TypedExprs}
use Rattle.c_tree.specs.TypedStmt.{TypedInit, TypedStmt}
use Rattle.c_tree.specs.Typed.{Typed}
use Rattle.c_meaning.proofs.Sources.{
  int,
  at,
  number,
  local,
  global,
  element,
  two,
  set,
  up,
  calls,
  get,
  one_arg,
  put,
  var,
  declare,
  give,
  no_else,
  function,
  source,
  program,
  array_of,
  at_void,
}

-- 1 int main(void) {
-- 2 return putchar(-1) + putchar(321);
-- 3 }
abbrev pub puts_bytes : Typed
puts_bytes = source 0
    (give (two op.Add (put (at (TypedKind.Minus (number 1 2)) 2) 2) (put (number 321 2) 2) 2) 2 ∷ [])

-- 1 int f(void) {}
-- 2 int main(void) {
-- 3 return f() + 5;
-- 4 }
abbrev pub without_return : Typed
without_return = program 1 []
    (function (codes "f") 1 int [] 0 []
    ∷ function (codes "main") 2 int [] 0
    (give (two op.Add (calls (callee.Function 0) TypedExprs.End 3) (number 5 3) 3) 3 ∷ []) ∷ [])

-- 1 int main(void) {
-- 2 int c;
-- 3 while ((c = getchar()) != EOF)
-- 4 putchar(c);
-- 5 return c + 3;
-- 6 }
abbrev pub copies : Typed
copies = source 1
    (declare (var 0 TypedInit.Absent 2 ∷ [])
    ∷ TypedStmt.While (two op.NotEqual (set (local 0 3) (get 3) 3) (at TypedKind.EofName 3) 3)
    (TypedStmt.Value (put (local 0 4) 4))
    ∷ give (two op.Add (local 0 5) (number 3 5) 5) 5 ∷ [])

-- 1 int main(void) {
-- 2 int x = 1;
-- 3 x += (x = 5);
-- 4 return x;
-- 5 }
abbrev pub adds_to_itself : Typed
adds_to_itself = source 1
    (declare (var 0 (TypedInit.One (number 1 2)) 2 ∷ [])
    ∷ TypedStmt.Value (at (TypedKind.Assign (Some op.Add) (local 0 3) (set (local 0 3) (number 5 3) 3)) 3)
    ∷ give (local 0 4) 4 ∷ [])

-- 1 int g[2] = {5};
-- 2 int f(void) { g[0] = 100; return 1; }
-- 3 int main(void) {
-- 4 g[0] += f();
-- 5 return g[0];
-- 6 }
abbrev pub adds_to_an_element : Typed
adds_to_an_element = program 1 (pos 5 ∷ pos 0 ∷ [])
    (function (codes "f") 2 int [] 0
    (TypedStmt.Value (set (element (cell.Global 0) 2 (number 0 2) 2) (number 100 2) 2)
    ∷ give (number 1 2) 2 ∷ [])
    ∷ function (codes "main") 3 int [] 0
    (TypedStmt.Value (at (TypedKind.Assign (Some op.Add) (element (cell.Global 0) 2 (number 0 4) 4)
    (calls (callee.Function 0) TypedExprs.End 4)) 4)
    ∷ give (element (cell.Global 0) 2 (number 0 5) 5) 5 ∷ []) ∷ [])

-- 1 int g = 5;
-- 2 int f(void) { g = 100; return 1; }
-- 3 int main(void) {
-- 4 return (g -= f()) + g;
-- 5 }
abbrev pub takes_from_a_global : Typed
takes_from_a_global = program 1 (pos 5 ∷ [])
    (function (codes "f") 2 int [] 0
    (TypedStmt.Value (set (global 0 2) (number 100 2) 2)
    ∷ give (number 1 2) 2 ∷ [])
    ∷ function (codes "main") 3 int [] 0
    (give (two op.Add (at (TypedKind.Assign (Some op.Sub) (global 0 4) (calls (callee.Function 0) TypedExprs.End 4)) 4)
    (global 0 4) 4) 4 ∷ []) ∷ [])

-- 1 int main(void) {
-- 2 int i = 0, a[2];
-- 3 a[i] = (i = 1);
-- 4 return a[0] * 10 + a[1];
-- 5 }
abbrev pub assigns_an_element : Typed
assigns_an_element = source 3
    (declare (var 0 (TypedInit.One (number 0 2)) 2 ∷ array_of type.Int 1 2 TypedInit.Absent 2 ∷ [])
    ∷ TypedStmt.Value (set (element (cell.Local 1) 2 (local 0 3) 3) (set (local 0 3) (number 1 3) 3) 3)
    ∷ give (two op.Add (two op.Mul (element (cell.Local 1) 2 (number 0 4) 4) (number 10 4) 4)
    (element (cell.Local 1) 2 (number 1 4) 4) 4) 4 ∷ [])

-- 1 int main(void) {
-- 2 int x = 4;
-- 3 putchar(++x);
-- 4 putchar(x--);
-- 5 putchar(--x);
-- 6 putchar(x++);
-- 7 return x;
-- 8 }
abbrev pub all_steps : Typed
all_steps = source 1
    (declare (var 0 (TypedInit.One (number 4 2)) 2 ∷ [])
    ∷ TypedStmt.Value (put (at (TypedKind.Before op.Add (local 0 3)) 3) 3)
    ∷ TypedStmt.Value (put (at (TypedKind.After op.Sub (local 0 4)) 4) 4)
    ∷ TypedStmt.Value (put (at (TypedKind.Before op.Sub (local 0 5)) 5) 5)
    ∷ TypedStmt.Value (put (up (local 0 6) 6) 6)
    ∷ give (local 0 7) 7 ∷ [])

-- 1 int main(void) {
-- 2 int x = 1;
-- 3 return x++ * 100 + x++ * 10 + x;
-- 4 }
abbrev pub steps_in_a_sum : Typed
steps_in_a_sum = source 1
    (declare (var 0 (TypedInit.One (number 1 2)) 2 ∷ [])
    ∷ give (two op.Add (two op.Add (two op.Mul (up (local 0 3) 3) (number 100 3) 3)
    (two op.Mul (up (local 0 3) 3) (number 10 3) 3) 3) (local 0 3) 3) 3 ∷ [])

-- 1 int main(void) {
-- 2 int a = 29, b = 6;
-- 3 putchar(a + b); putchar(a - b); putchar(a * b); putchar(a / b); putchar(a % b);
-- 4 putchar(a << 2); putchar(a >> 2);
-- 5 putchar(a & b); putchar(a ^ b); putchar(a | b);
-- 6 return 0;
-- 7 }
abbrev pub all_operators : Typed
all_operators = source 2
    (declare (var 0 (TypedInit.One (number 29 2)) 2 ∷ var 1 (TypedInit.One (number 6 2)) 2 ∷ [])
    ∷ TypedStmt.Value (put (two op.Add (local 0 3) (local 1 3) 3) 3)
    ∷ TypedStmt.Value (put (two op.Sub (local 0 3) (local 1 3) 3) 3)
    ∷ TypedStmt.Value (put (two op.Mul (local 0 3) (local 1 3) 3) 3)
    ∷ TypedStmt.Value (put (two op.Div (local 0 3) (local 1 3) 3) 3)
    ∷ TypedStmt.Value (put (two op.Rem (local 0 3) (local 1 3) 3) 3)
    ∷ TypedStmt.Value (put (two op.Shl (local 0 4) (number 2 4) 4) 4)
    ∷ TypedStmt.Value (put (two op.Shr (local 0 4) (number 2 4) 4) 4)
    ∷ TypedStmt.Value (put (two op.And (local 0 5) (local 1 5) 5) 5)
    ∷ TypedStmt.Value (put (two op.Xor (local 0 5) (local 1 5) 5) 5)
    ∷ TypedStmt.Value (put (two op.Or (local 0 5) (local 1 5) 5) 5)
    ∷ give (number 0 6) 6 ∷ [])

-- 1 int main(void) {
-- 2 int a = -7;
-- 3 putchar(a / 2 + 10); putchar(a % 2 + 10); putchar((a >> 1) + 10);
-- 4 putchar(a & 13); putchar((a | 2) + 10); putchar((a ^ 1) + 10);
-- 5 putchar(a < 1); putchar(7 / -2 + 10); putchar(7 % -2 + 10);
-- 6 return a * a;
-- 7 }
abbrev pub below_zero : Typed
below_zero = source 1
    (declare (var 0 (TypedInit.One (at (TypedKind.Minus (number 7 2)) 2)) 2 ∷ [])
    ∷ TypedStmt.Value (put (two op.Add (two op.Div (local 0 3) (number 2 3) 3) (number 10 3) 3) 3)
    ∷ TypedStmt.Value (put (two op.Add (two op.Rem (local 0 3) (number 2 3) 3) (number 10 3) 3) 3)
    ∷ TypedStmt.Value (put (two op.Add (two op.Shr (local 0 3) (number 1 3) 3) (number 10 3) 3) 3)
    ∷ TypedStmt.Value (put (two op.And (local 0 4) (number 13 4) 4) 4)
    ∷ TypedStmt.Value (put (two op.Add (two op.Or (local 0 4) (number 2 4) 4) (number 10 4) 4) 4)
    ∷ TypedStmt.Value (put (two op.Add (two op.Xor (local 0 4) (number 1 4) 4) (number 10 4) 4) 4)
    ∷ TypedStmt.Value (put (two op.Less (local 0 5) (number 1 5) 5) 5)
    ∷ TypedStmt.Value (put (two op.Add (two op.Div (number 7 5) (at (TypedKind.Minus (number 2 5)) 5) 5) (number 10 5)
    5) 5)
    ∷ TypedStmt.Value (put (two op.Add (two op.Rem (number 7 5) (at (TypedKind.Minus (number 2 5)) 5) 5) (number 10 5)
    5) 5)
    ∷ give (two op.Mul (local 0 6) (local 0 6) 6) 6 ∷ [])

-- 1 int main(void) {
-- 2 int a = 29, b = 6;
-- 3 putchar(a < b); putchar(b < a); putchar(a < 29);
-- 4 putchar(a <= b); putchar(b <= a); putchar(a <= 29);
-- 5 putchar(a > b); putchar(b > a); putchar(a > 29);
-- 6 putchar(a >= b); putchar(b >= a); putchar(a >= 29);
-- 7 putchar(a == b); putchar(a == 29); putchar(a != b); putchar(a != 29);
-- 8 return 0;
-- 9 }
abbrev pub all_comparisons : Typed
all_comparisons = source 2
    (declare (var 0 (TypedInit.One (number 29 2)) 2 ∷ var 1 (TypedInit.One (number 6 2)) 2 ∷ [])
    ∷ TypedStmt.Value (put (two op.Less (local 0 3) (local 1 3) 3) 3)
    ∷ TypedStmt.Value (put (two op.Less (local 1 3) (local 0 3) 3) 3)
    ∷ TypedStmt.Value (put (two op.Less (local 0 3) (number 29 3) 3) 3)
    ∷ TypedStmt.Value (put (two op.LessEqual (local 0 4) (local 1 4) 4) 4)
    ∷ TypedStmt.Value (put (two op.LessEqual (local 1 4) (local 0 4) 4) 4)
    ∷ TypedStmt.Value (put (two op.LessEqual (local 0 4) (number 29 4) 4) 4)
    ∷ TypedStmt.Value (put (two op.Greater (local 0 5) (local 1 5) 5) 5)
    ∷ TypedStmt.Value (put (two op.Greater (local 1 5) (local 0 5) 5) 5)
    ∷ TypedStmt.Value (put (two op.Greater (local 0 5) (number 29 5) 5) 5)
    ∷ TypedStmt.Value (put (two op.GreaterEqual (local 0 6) (local 1 6) 6) 6)
    ∷ TypedStmt.Value (put (two op.GreaterEqual (local 1 6) (local 0 6) 6) 6)
    ∷ TypedStmt.Value (put (two op.GreaterEqual (local 0 6) (number 29 6) 6) 6)
    ∷ TypedStmt.Value (put (two op.Equal (local 0 7) (local 1 7) 7) 7)
    ∷ TypedStmt.Value (put (two op.Equal (local 0 7) (number 29 7) 7) 7)
    ∷ TypedStmt.Value (put (two op.NotEqual (local 0 7) (local 1 7) 7) 7)
    ∷ TypedStmt.Value (put (two op.NotEqual (local 0 7) (number 29 7) 7) 7)
    ∷ give (number 0 8) 8 ∷ [])

-- 1 int main(void) {
-- 2 int x = 100;
-- 3 putchar(x += 23); putchar(x -= 3); putchar(x *= 2); putchar(x /= 7); putchar(x %= 20);
-- 4 putchar(x <<= 3); putchar(x >>= 1); putchar(x &= 50); putchar(x ^= 21); putchar(x |= 10);
-- 5 return x;
-- 6 }
abbrev pub all_changes : Typed
all_changes = source 1
    (declare (var 0 (TypedInit.One (number 100 2)) 2 ∷ [])
    ∷ TypedStmt.Value (put (at (TypedKind.Assign (Some op.Add) (local 0 3) (number 23 3)) 3) 3)
    ∷ TypedStmt.Value (put (at (TypedKind.Assign (Some op.Sub) (local 0 3) (number 3 3)) 3) 3)
    ∷ TypedStmt.Value (put (at (TypedKind.Assign (Some op.Mul) (local 0 3) (number 2 3)) 3) 3)
    ∷ TypedStmt.Value (put (at (TypedKind.Assign (Some op.Div) (local 0 3) (number 7 3)) 3) 3)
    ∷ TypedStmt.Value (put (at (TypedKind.Assign (Some op.Rem) (local 0 3) (number 20 3)) 3) 3)
    ∷ TypedStmt.Value (put (at (TypedKind.Assign (Some op.Shl) (local 0 4) (number 3 4)) 4) 4)
    ∷ TypedStmt.Value (put (at (TypedKind.Assign (Some op.Shr) (local 0 4) (number 1 4)) 4) 4)
    ∷ TypedStmt.Value (put (at (TypedKind.Assign (Some op.And) (local 0 4) (number 50 4)) 4) 4)
    ∷ TypedStmt.Value (put (at (TypedKind.Assign (Some op.Xor) (local 0 4) (number 21 4)) 4) 4)
    ∷ TypedStmt.Value (put (at (TypedKind.Assign (Some op.Or) (local 0 4) (number 10 4)) 4) 4)
    ∷ give (local 0 5) 5 ∷ [])

-- 1 int main(void) {
-- 2 int x = 5;
-- 3 putchar(-x + 10); putchar(~x + 10); putchar(+x); putchar(!x); putchar(!!x); putchar(!0 + 2);
-- 4 return - -x;
-- 5 }
abbrev pub all_signs : Typed
all_signs = source 1
    (declare (var 0 (TypedInit.One (number 5 2)) 2 ∷ [])
    ∷ TypedStmt.Value (put (two op.Add (at (TypedKind.Minus (local 0 3)) 3) (number 10 3) 3) 3)
    ∷ TypedStmt.Value (put (two op.Add (at (TypedKind.Complement (local 0 3)) 3) (number 10 3) 3) 3)
    ∷ TypedStmt.Value (put (at (TypedKind.Plus (local 0 3)) 3) 3)
    ∷ TypedStmt.Value (put (at (TypedKind.Not (local 0 3)) 3) 3)
    ∷ TypedStmt.Value (put (at (TypedKind.Not (at (TypedKind.Not (local 0 3)) 3)) 3) 3)
    ∷ TypedStmt.Value (put (two op.Add (at (TypedKind.Not (number 0 3)) 3) (number 2 3) 3) 3)
    ∷ give (at (TypedKind.Minus (at (TypedKind.Minus (local 0 4)) 4)) 4) 4 ∷ [])

-- 1 int g = 3, h[2] = {1, 4};
-- 2 int main(void) {
-- 3 putchar(++g); putchar(g++); putchar(--g); putchar(g--); putchar(g *= 7); putchar(g <<= 1);
-- 4 putchar(++h[0]); putchar(h[0]++); putchar(--h[1]); putchar(h[1]--);
-- 5 putchar(h[0] <<= 3);
-- 6 h[1] -= 5;
-- 7 putchar(h[1] = h[1] + 10);
-- 8 g = h[0] + h[1];
-- 9 return g;
-- 10 }
abbrev pub steps_globals : Typed
steps_globals = program 0 (pos 3 ∷ pos 1 ∷ pos 4 ∷ [])
    (function (codes "main") 2 int [] 0
    (TypedStmt.Value (put (at (TypedKind.Before op.Add (global 0 3)) 3) 3)
    ∷ TypedStmt.Value (put (up (global 0 3) 3) 3)
    ∷ TypedStmt.Value (put (at (TypedKind.Before op.Sub (global 0 3)) 3) 3)
    ∷ TypedStmt.Value (put (at (TypedKind.After op.Sub (global 0 3)) 3) 3)
    ∷ TypedStmt.Value (put (at (TypedKind.Assign (Some op.Mul) (global 0 3) (number 7 3)) 3) 3)
    ∷ TypedStmt.Value (put (at (TypedKind.Assign (Some op.Shl) (global 0 3) (number 1 3)) 3) 3)
    ∷ TypedStmt.Value (put (at (TypedKind.Before op.Add (element (cell.Global 1) 2 (number 0 4) 4)) 4) 4)
    ∷ TypedStmt.Value (put (up (element (cell.Global 1) 2 (number 0 4) 4) 4) 4)
    ∷ TypedStmt.Value (put (at (TypedKind.Before op.Sub (element (cell.Global 1) 2 (number 1 4) 4)) 4) 4)
    ∷ TypedStmt.Value (put (at (TypedKind.After op.Sub (element (cell.Global 1) 2 (number 1 4) 4)) 4) 4)
    ∷ TypedStmt.Value (put (at (TypedKind.Assign (Some op.Shl) (element (cell.Global 1) 2 (number 0 5) 5) (number 3 5))
    5) 5)
    ∷ TypedStmt.Value (at (TypedKind.Assign (Some op.Sub) (element (cell.Global 1) 2 (number 1 6) 6) (number 5 6)) 6)
    ∷ TypedStmt.Value (put (set (element (cell.Global 1) 2 (number 1 7) 7)
    (two op.Add (element (cell.Global 1) 2 (number 1 7) 7) (number 10 7) 7) 7) 7)
    ∷ TypedStmt.Value (set (global 0 8) (two op.Add (element (cell.Global 1) 2 (number 0 8) 8)
    (element (cell.Global 1) 2 (number 1 8) 8) 8) 8)
    ∷ give (global 0 9) 9 ∷ []) ∷ [])

-- 1 int main(void) {
-- 2 int a[2] = {1, 4};
-- 3 putchar(++a[0]); putchar(a[0]++); putchar(--a[1]); putchar(a[1]--);
-- 4 putchar(a[0] |= 8); putchar(a[1] = 7);
-- 5 return a[0] * 10 + a[1];
-- 6 }
abbrev pub steps_elements : Typed
steps_elements = source 2
    (declare (array_of type.Int 0 2 (TypedInit.Several ((number 1 2) ∷ (number 4 2) ∷ [])) 2 ∷ [])
    ∷ TypedStmt.Value (put (at (TypedKind.Before op.Add (element (cell.Local 0) 2 (number 0 3) 3)) 3) 3)
    ∷ TypedStmt.Value (put (up (element (cell.Local 0) 2 (number 0 3) 3) 3) 3)
    ∷ TypedStmt.Value (put (at (TypedKind.Before op.Sub (element (cell.Local 0) 2 (number 1 3) 3)) 3) 3)
    ∷ TypedStmt.Value (put (at (TypedKind.After op.Sub (element (cell.Local 0) 2 (number 1 3) 3)) 3) 3)
    ∷ TypedStmt.Value (put (at (TypedKind.Assign (Some op.Or) (element (cell.Local 0) 2 (number 0 4) 4) (number 8 4))
    4) 4)
    ∷ TypedStmt.Value (put (set (element (cell.Local 0) 2 (number 1 4) 4) (number 7 4) 4) 4)
    ∷ give (two op.Add (two op.Mul (element (cell.Local 0) 2 (number 0 5) 5) (number 10 5) 5)
    (element (cell.Local 0) 2 (number 1 5) 5) 5) 5 ∷ [])

-- 1 int main(void) {
-- 2 return getchar() - getchar();
-- 3 }
abbrev pub takes_bytes : Typed
takes_bytes = source 0
    (give (two op.Sub (get 2) (get 2) 2) 2 ∷ [])

-- 1 int f(int a, int b) { return a * 10 + b; }
-- 2 int main(void) {
-- 3 return f(getchar(), getchar());
-- 4 }
abbrev pub two_arguments : Typed
two_arguments = program 1 []
    (function (codes "f") 1 int (type.Int ∷ type.Int ∷ []) 2
    (give (two op.Add (two op.Mul (local 0 1) (number 10 1) 1) (local 1 1) 1) 1 ∷ [])
    ∷ function (codes "main") 2 int [] 0
    (give (calls (callee.Function 0) (TypedExprs.More (get 3) (one_arg (get 3))) 3) 3 ∷ []) ∷ [])

-- 1 int f(int n) { putchar('f'); return n; }
-- 2 int g(void) { putchar('g'); return 4; }
-- 3 int main(void) {
-- 4 return f(g());
-- 5 }
abbrev pub call_in_a_call : Typed
call_in_a_call = program 2 []
    (function (codes "f") 1 int (type.Int ∷ []) 1
    (TypedStmt.Value (put (number 102 1) 1)
    ∷ give (local 0 1) 1 ∷ [])
    ∷ function (codes "g") 2 int [] 0
    (TypedStmt.Value (put (number 103 2) 2)
    ∷ give (number 4 2) 2 ∷ [])
    ∷ function (codes "main") 3 int [] 0
    (give (calls (callee.Function 0) (one_arg (calls (callee.Function 1) TypedExprs.End 4)) 4) 4 ∷ []) ∷ [])

-- 1 int f(int a, int b) {
-- 2 int z;
-- 3 a = 50; z = 7;
-- 4 return b + z;
-- 5 }
-- 6 int main(void) {
-- 7 int x = 3, y;
-- 8 y = f(x, 20);
-- 9 return x + y + f(0, 0);
-- 10 }
abbrev pub own_cells : Typed
own_cells = program 1 []
    (function (codes "f") 1 int (type.Int ∷ type.Int ∷ []) 3
    (declare (var 2 TypedInit.Absent 2 ∷ [])
    ∷ TypedStmt.Value (set (local 0 3) (number 50 3) 3)
    ∷ TypedStmt.Value (set (local 2 3) (number 7 3) 3)
    ∷ give (two op.Add (local 1 4) (local 2 4) 4) 4 ∷ [])
    ∷ function (codes "main") 6 int [] 2
    (declare (var 0 (TypedInit.One (number 3 7)) 7 ∷ var 1 TypedInit.Absent 7 ∷ [])
    ∷ TypedStmt.Value (set (local 1 8) (calls (callee.Function 0) (TypedExprs.More (local 0 8) (one_arg (number 20 8)))
    8) 8)
    ∷ give (two op.Add (two op.Add (local 0 9) (local 1 9) 9)
    (calls (callee.Function 0) (TypedExprs.More (number 0 9) (one_arg (number 0 9))) 9) 9) 9 ∷ []) ∷ [])

-- 1 int f(void) {
-- 2 int z;
-- 3 return z++ + z;
-- 4 }
-- 5 int main(void) {
-- 6 return f() * 10 + f();
-- 7 }
abbrev pub fresh_cells : Typed
fresh_cells = program 1 []
    (function (codes "f") 1 int [] 1
    (declare (var 0 TypedInit.Absent 2 ∷ [])
    ∷ give (two op.Add (up (local 0 3) 3) (local 0 3) 3) 3 ∷ [])
    ∷ function (codes "main") 5 int [] 0
    (give (two op.Add (two op.Mul (calls (callee.Function 0) TypedExprs.End 6) (number 10 6) 6)
    (calls (callee.Function 0) TypedExprs.End 6) 6) 6 ∷ []) ∷ [])

-- 1 int g;
-- 2 int main(void) {
-- 3 if (g++ < 2) return main() + 10;
-- 4 return 1;
-- 5 }
abbrev pub main_again : Typed
main_again = program 0 (pos 0 ∷ [])
    (function (codes "main") 2 int [] 0
    (TypedStmt.If (two op.Less (up (global 0 3) 3) (number 2 3) 3)
    (give (two op.Add (calls (callee.Function 0) TypedExprs.End 3) (number 10 3) 3) 3) no_else
    ∷ give (number 1 4) 4 ∷ []) ∷ [])

-- 1 int main(void) {
-- 2 int a = getchar(), b = getchar();
-- 3 if (a && b) putchar('1');
-- 4 if (a || b) putchar('2');
-- 5 if (!a) putchar('3');
-- 6 if (!(a && b) || !b) putchar('4');
-- 7 return (a && b) * 4 + (a || b) * 2 + !a;
-- 8 }
abbrev pub logic : Typed
logic = source 2
    (declare (var 0 (TypedInit.One (get 2)) 2 ∷ var 1 (TypedInit.One (get 2)) 2 ∷ [])
    ∷ TypedStmt.If (at (TypedKind.AndAlso (local 0 3) (local 1 3)) 3) (TypedStmt.Value (put (number 49 3) 3)) no_else
    ∷ TypedStmt.If (at (TypedKind.OrElse (local 0 4) (local 1 4)) 4) (TypedStmt.Value (put (number 50 4) 4)) no_else
    ∷ TypedStmt.If (at (TypedKind.Not (local 0 5)) 5) (TypedStmt.Value (put (number 51 5) 5)) no_else
    ∷ TypedStmt.If (at (TypedKind.OrElse (at (TypedKind.Not (at (TypedKind.AndAlso (local 0 6) (local 1 6)) 6)) 6)
    (at (TypedKind.Not (local 1 6)) 6)) 6) (TypedStmt.Value (put (number 52 6) 6)) no_else
    ∷ give (two op.Add (two op.Add (two op.Mul (at (TypedKind.AndAlso (local 0 7) (local 1 7)) 7) (number 4 7) 7)
    (two op.Mul (at (TypedKind.OrElse (local 0 7) (local 1 7)) 7) (number 2 7) 7) 7)
    (at (TypedKind.Not (local 0 7)) 7) 7) 7 ∷ [])

-- 1 int main(void) {
-- 2 if (0 && putchar('A') || !(2 && !(0 || putchar('B')))) return (5 && 7) + (0 || 9);
-- 3 return 0;
-- 4 }
abbrev pub leaves_out_sides : Typed
leaves_out_sides = source 0
    (TypedStmt.If (at (TypedKind.OrElse (at (TypedKind.AndAlso (number 0 2) (put (number 65 2) 2)) 2)
    (at (TypedKind.Not (at (TypedKind.AndAlso (number 2 2)
    (at (TypedKind.Not (at (TypedKind.OrElse (number 0 2) (put (number 66 2) 2)) 2)) 2)) 2)) 2)) 2)
    (give (two op.Add (at (TypedKind.AndAlso (number 5 2) (number 7 2)) 2)
    (at (TypedKind.OrElse (number 0 2) (number 9 2)) 2) 2) 2) no_else
    ∷ give (number 0 3) 3 ∷ [])

-- 1 int main(void) {
-- 2 int x = 3;
-- 3 return (x = 0) ? putchar('A') : x == 0 ? putchar('B') : putchar('C');
-- 4 }
abbrev pub chooses : Typed
chooses = source 1
    (declare (var 0 (TypedInit.One (number 3 2)) 2 ∷ [])
    ∷ give (at (TypedKind.Choose (set (local 0 3) (number 0 3) 3) (put (number 65 3) 3)
    (at (TypedKind.Choose (two op.Equal (local 0 3) (number 0 3) 3) (put (number 66 3) 3) (put (number 67 3) 3))
    3)) 3) 3 ∷ [])

-- 1 void f(int n) {
-- 2 if (n) return;
-- 3 putchar('0');
-- 4 }
-- 5 int main(void) {
-- 6 0 ? f(0) : f(1);
-- 7 1 ? f(0) : f(1);
-- 8 (void)f(0);
-- 9 (void)putchar('1');
-- 10 putchar('a'), f(0);
-- 11 }
abbrev pub void_sides : Typed
void_sides = program 1 []
    (function (codes "f") 1 base.Void (type.Int ∷ []) 1
    (TypedStmt.If (local 0 2) (TypedStmt.Return None 0 2) no_else
    ∷ TypedStmt.Value (put (number 48 3) 3) ∷ [])
    ∷ function (codes "main") 5 int [] 0
    (TypedStmt.Value (at_void (TypedKind.Choose (number 0 6)
    (at_void (TypedKind.Call (callee.Function 0) (one_arg (number 0 6))) 6)
    (at_void (TypedKind.Call (callee.Function 0) (one_arg (number 1 6))) 6)) 6)
    ∷ TypedStmt.Value (at_void (TypedKind.Choose (number 1 7)
    (at_void (TypedKind.Call (callee.Function 0) (one_arg (number 0 7))) 7)
    (at_void (TypedKind.Call (callee.Function 0) (one_arg (number 1 7))) 7)) 7)
    ∷ TypedStmt.Value (at_void (TypedKind.Cast base.Void
    (at_void (TypedKind.Call (callee.Function 0) (one_arg (number 0 8))) 8)) 8)
    ∷ TypedStmt.Value (at_void (TypedKind.Cast base.Void (put (number 49 9) 9)) 9)
    ∷ TypedStmt.Value (at_void (TypedKind.Comma (put (number 97 10) 10)
    (at_void (TypedKind.Call (callee.Function 0) (one_arg (number 0 10))) 10)) 10) ∷ []) ∷ [])

-- 1 int main(void) { return -1; }
abbrev pub gives_minus_one : Typed
gives_minus_one = source 0
    (give (at (TypedKind.Minus (number 1 1)) 1) 1 ∷ [])

-- 1 int main(void) { return -256; }
abbrev pub gives_minus_256 : Typed
gives_minus_256 = source 0
    (give (at (TypedKind.Minus (number 256 1)) 1) 1 ∷ [])

-- 1 int main(void) { return 511; }
abbrev pub gives_511 : Typed
gives_511 = source 0
    (give (number 511 1) 1 ∷ [])

-- 1 int main(void) {
-- 2 exit(-1);
-- 3 return 0;
-- 4 }
abbrev pub exits_below_zero : Typed
exits_below_zero = source 0
    (TypedStmt.Value (at_void (TypedKind.Call callee.Exit (one_arg (at (TypedKind.Minus (number 1 2)) 2))) 2)
    ∷ give (number 0 3) 3 ∷ [])

-- 1 int main(void) { exit(300); }
abbrev pub exits_with_300 : Typed
exits_with_300 = source 0
    (TypedStmt.Value (at_void (TypedKind.Call callee.Exit (one_arg (number 300 1))) 1) ∷ [])

-- 1 int main(void) {
-- 2 while (exit(putchar('A')), 1) break;
-- 3 }
abbrev pub exits_in_a_test : Typed
exits_in_a_test = source 0
    (TypedStmt.While (at (TypedKind.Comma (at_void (TypedKind.Call callee.Exit (one_arg (put (number 65 2) 2))) 2)
    (number 1 2)) 2) (TypedStmt.Break 0 2) ∷ [])

-- 1 int main(void) {
-- 2 int a[2] = {putchar('A'), (exit(3), 1)};
-- 3 }
abbrev pub exits_in_a_list : Typed
exits_in_a_list = source 2
    (declare (array_of type.Int 0 2 (TypedInit.Several ((put (number 65 2) 2) ∷
    (at (TypedKind.Comma (at_void (TypedKind.Call callee.Exit (one_arg (number 3 2))) 2) (number 1 2)) 2) ∷ [])) 2
    ∷ []) ∷ [])

-- 1 int main(void) {
-- 2 int a[4] = {1, a[0] + 1, a[1] + 1};
-- 3 return a[2] * 10 + a[3];
-- 4 }
abbrev pub list_reads_itself : Typed
list_reads_itself = source 4
    (declare (array_of type.Int 0 4 (TypedInit.Several ((number 1 2) ∷
    (two op.Add (element (cell.Local 0) 4 (number 0 2) 2) (number 1 2) 2) ∷
    (two op.Add (element (cell.Local 0) 4 (number 1 2) 2) (number 1 2) 2) ∷ [])) 2 ∷ [])
    ∷ give (two op.Add (two op.Mul (element (cell.Local 0) 4 (number 2 3) 3) (number 10 3) 3)
    (element (cell.Local 0) 4 (number 3 3) 3) 3) 3 ∷ [])

-- 1 int f(int a, int b) { return a + b; }
-- 2 int main(void) { return f(f(1, putchar('A')), (exit(4), 2)); }
abbrev pub exits_as_an_argument : Typed
exits_as_an_argument = record {
  functions =
      function (codes "f") 1 int (type.Int ∷ type.Int ∷ []) 2 (give (two op.Add (local 0 1) (local 1 1) 1) 1 ∷ [])
      ∷ function (codes "main") 2 int [] 0
      (give (calls (callee.Function 0) (TypedExprs.More
      (calls (callee.Function 0) (TypedExprs.More (number 1 2) (one_arg (put (number 65 2) 2))) 2)
      (one_arg (at (TypedKind.Comma (at_void (TypedKind.Call callee.Exit (one_arg (number 4 2))) 2) (number 2 2)) 2)))
      2) 2 ∷ []) ∷ [];
  globals = [];
  main = 1;
}
