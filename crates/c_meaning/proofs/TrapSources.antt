-- Typed sources that trap. Each has its text.
use Rattle.std.specs.Prelude.{pos, [], ◌∷◌, Some, codes}
use Rattle.int_ops.specs.declared.types.IntType.TheVariants as type
use Rattle.int_ops.specs.declared.operators.BinOp.TheVariants as op
use Rattle.c_tree.specs.declared.typed_expr.CellAt.TheVariants as cell
use Rattle.c_tree.specs.declared.typed_expr.Callee.TheVariants as callee
use Rattle.c_tree.specs.TypedExpr.{TypedKind}
use Rattle.c_tree.specs.TypedStmt.{TypedInit, TypedStmt, TypedItem}
use Rattle.c_tree.specs.Typed.{Typed}
use Rattle.c_meaning.proofs.Sources.{
  int,
  at,
  number,
  local,
  element,
  two,
  up,
  calls,
  one_arg,
  put,
  items,
  var,
  declare,
  give,
  function,
  source,
  program,
  of,
  cell_of,
  to,
  var_of,
  array_of,
}

-- 1 int main(void) {
-- 2 int z = 0;
-- 3 putchar('a');
-- 4 return 1 / z;
-- 5 }
abbrev pub divides : Typed
divides = source 1
    (declare (var 0 (TypedInit.One (number 0 2)) 2 ∷ [])
    ∷ TypedStmt.Value (put (number 97 3) 3)
    ∷ give (two op.Div (number 1 4) (local 0 4) 4) 4 ∷ [])

-- 1 int main(void) {
-- 2 int z = 0;
-- 3 return 1 % z;
-- 4 }
abbrev pub remainder : Typed
remainder = source 1
    (declare (var 0 (TypedInit.One (number 0 2)) 2 ∷ [])
    ∷ give (two op.Rem (number 1 3) (local 0 3) 3) 3 ∷ [])

-- 1 int main(void) {
-- 2 int x = 9;
-- 3 x
-- 4 /= 0;
-- 5 return 0;
-- 6 }
abbrev pub divides_itself : Typed
divides_itself = source 1
    (declare (var 0 (TypedInit.One (number 9 2)) 2 ∷ [])
    ∷ TypedStmt.Value (at (TypedKind.Assign (Some op.Div) (local 0 3) (number 0 4)) 4)
    ∷ give (number 0 5) 5 ∷ [])

-- 1 int main(void) {
-- 2 int x = -2147483647 - 1;
-- 3 return x / -1;
-- 4 }
abbrev pub least_by_minus_one : Typed
least_by_minus_one = source 1
    (declare (var 0 (TypedInit.One (two op.Sub (at (TypedKind.Minus (number 2147483647 2)) 2) (number 1 2) 2)) 2 ∷ [])
    ∷ give (two op.Div (local 0 3) (at (TypedKind.Minus (number 1 3)) 3) 3) 3 ∷ [])

-- 1 int main(void) {
-- 2 int x = 1;
-- 3 return x << 32;
-- 4 }
abbrev pub shifts_too_far : Typed
shifts_too_far = source 1
    (declare (var 0 (TypedInit.One (number 1 2)) 2 ∷ [])
    ∷ give (two op.Shl (local 0 3) (number 32 3) 3) 3 ∷ [])

-- 1 int main(void) {
-- 2 int x = 1;
-- 3 return x >> -1;
-- 4 }
abbrev pub shifts_down_too_far : Typed
shifts_down_too_far = source 1
    (declare (var 0 (TypedInit.One (number 1 2)) 2 ∷ [])
    ∷ give (two op.Shr (local 0 3) (at (TypedKind.Minus (number 1 3)) 3) 3) 3 ∷ [])

-- 1 int main(void) {
-- 2 _Bool b = 1;
-- 3 b <<= 32;
-- 4 return 0;
-- 5 }
abbrev pub bool_shifted_too_far : Typed
bool_shifted_too_far = source 1
    (declare (var_of type.Bool 0 (to type.Bool (number 1 2) 2) 2 ∷ [])
    ∷ TypedStmt.Value (of type.Bool (TypedKind.Assign (Some op.Shl) (cell_of type.Bool 0 3) (number 32 3)) 3)
    ∷ give (number 0 4) 4 ∷ [])

-- 1 int main(void) {
-- 2 int x = -2147483647 - 1;
-- 3 return -x;
-- 4 }
abbrev pub negates_the_least : Typed
negates_the_least = source 1
    (declare (var 0 (TypedInit.One (two op.Sub (at (TypedKind.Minus (number 2147483647 2)) 2) (number 1 2) 2)) 2 ∷ [])
    ∷ give (at (TypedKind.Minus (local 0 3)) 3) 3 ∷ [])

-- 1 int main(void) {
-- 2 int x = -2147483647;
-- 3 return x
-- 4 - 2;
-- 5 }
abbrev pub subtracts : Typed
subtracts = source 1
    (declare (var 0 (TypedInit.One (at (TypedKind.Minus (number 2147483647 2)) 2)) 2 ∷ [])
    ∷ give (two op.Sub (local 0 3) (number 2 4) 4) 3 ∷ [])

-- 1 int main(void) {
-- 2 int x = 65536;
-- 3 return x * 32768;
-- 4 }
abbrev pub multiplies : Typed
multiplies = source 1
    (declare (var 0 (TypedInit.One (number 65536 2)) 2 ∷ [])
    ∷ give (two op.Mul (local 0 3) (number 32768 3) 3) 3 ∷ [])

-- 1 int main(void) {
-- 2 int x = 2147483647;
-- 3 x++;
-- 4 return 0;
-- 5 }
abbrev pub steps_up : Typed
steps_up = source 1
    (declare (var 0 (TypedInit.One (number 2147483647 2)) 2 ∷ [])
    ∷ TypedStmt.Value (up (local 0 3) 3)
    ∷ give (number 0 4) 4 ∷ [])

-- 1 int main(void) {
-- 2 int x = -2147483647 - 1;
-- 3 --x;
-- 4 return 0;
-- 5 }
abbrev pub steps_down : Typed
steps_down = source 1
    (declare (var 0 (TypedInit.One (two op.Sub (at (TypedKind.Minus (number 2147483647 2)) 2) (number 1 2) 2)) 2 ∷ [])
    ∷ TypedStmt.Value (at (TypedKind.Before op.Sub (local 0 3)) 3)
    ∷ give (number 0 4) 4 ∷ [])

-- 1 int main(void) {
-- 2 int x = 2147483647;
-- 3 x += putchar('A');
-- 4 return 0;
-- 5 }
abbrev pub adds : Typed
adds = source 1
    (declare (var 0 (TypedInit.One (number 2147483647 2)) 2 ∷ [])
    ∷ TypedStmt.Value (at (TypedKind.Assign (Some op.Add) (local 0 3) (put (number 65 3) 3)) 3)
    ∷ give (number 0 4) 4 ∷ [])

-- 1 int main(void) {
-- 2 int x = 2147483647;
-- 3 x += putchar('A') / (x - x);
-- 4 return 0;
-- 5 }
abbrev pub adds_a_quotient : Typed
adds_a_quotient = source 1
    (declare (var 0 (TypedInit.One (number 2147483647 2)) 2 ∷ [])
    ∷ TypedStmt.Value (at (TypedKind.Assign (Some op.Add) (local 0 3)
    (two op.Div (put (number 65 3) 3) (two op.Sub (local 0 3) (local 0 3) 3) 3)) 3)
    ∷ give (number 0 4) 4 ∷ [])

-- 1 int main(void) {
-- 2 long l = 9223372036854775807;
-- 3 l += 1;
-- 4 return 0;
-- 5 }
abbrev pub adds_at_long : Typed
adds_at_long = source 1
    (declare (var_of type.Long 0 (of type.Long (TypedKind.Number (pos 9223372036854775807) type.Long) 2) 2 ∷ [])
    ∷ TypedStmt.Value (of type.Long (TypedKind.Assign (Some op.Add) (cell_of type.Long 0 3)
    (to type.Long (number 1 3) 3)) 3)
    ∷ give (number 0 4) 4 ∷ [])

-- 1 int main(void) {
-- 2 int a[2];
-- 3 return putchar('x') + a[-1];
-- 4 }
abbrev pub reads_below : Typed
reads_below = source 2
    (declare (array_of type.Int 0 2 TypedInit.Absent 2 ∷ [])
    ∷ give (two op.Add (put (number 120 3) 3) (element (cell.Local 0) 2 (at (TypedKind.Minus (number 1 3)) 3) 3) 3) 3 ∷
    [])

-- 1 int g[2];
-- 2 int main(void) {
-- 3 int i = 2;
-- 4 return g[i];
-- 5 }
abbrev pub reads_behind : Typed
reads_behind = program 0 (pos 0 ∷ pos 0 ∷ [])
    (function (codes "main") 2 int [] 1
    (declare (var 0 (TypedInit.One (number 2 3)) 3 ∷ [])
    ∷ give (element (cell.Global 0) 2 (local 0 4) 4) 4 ∷ []) ∷ [])

-- 1 int main(void) {
-- 2 int a[2];
-- 3 a[2]++;
-- 4 return 0;
-- 5 }
abbrev pub steps_behind : Typed
steps_behind = source 2
    (declare (array_of type.Int 0 2 TypedInit.Absent 2 ∷ [])
    ∷ TypedStmt.Value (up (element (cell.Local 0) 2 (number 2 3) 3) 3)
    ∷ give (number 0 4) 4 ∷ [])

-- 1 int main(void) {
-- 2 int a[2];
-- 3 a[2] += putchar('A');
-- 4 return 0;
-- 5 }
abbrev pub adds_behind : Typed
adds_behind = source 2
    (declare (array_of type.Int 0 2 TypedInit.Absent 2 ∷ [])
    ∷ TypedStmt.Value (at (TypedKind.Assign (Some op.Add) (element (cell.Local 0) 2 (number 2 3) 3)
    (put (number 65 3) 3)) 3)
    ∷ give (number 0 4) 4 ∷ [])

-- 1 int main(void) {
-- 2 int a[2];
-- 3 return a[-1ul];
-- 4 }
abbrev pub far_behind : Typed
far_behind = source 2
    (declare (array_of type.Int 0 2 TypedInit.Absent 2 ∷ [])
    ∷ give (element (cell.Local 0) 2 (of type.UnsignedLong
    (TypedKind.Minus (of type.UnsignedLong (TypedKind.Number (pos 1) type.UnsignedLong) 3)) 3) 3) 3 ∷ [])

-- 1 int f(int n) {
-- 2 return 1 % n;
-- 3 }
-- 4 int main(void) {
-- 5 return putchar('A') + f(0) + putchar('B');
-- 6 }
abbrev pub traps_in_a_call : Typed
traps_in_a_call = program 1 []
    (function (codes "f") 1 int (type.Int ∷ []) 1
    (give (two op.Rem (number 1 2) (local 0 2) 2) 2 ∷ [])
    ∷ function (codes "main") 4 int [] 0
    (give (two op.Add (two op.Add (put (number 65 5) 5) (calls (callee.Function 0) (one_arg (number 0 5)) 5) 5)
    (put (number 66 5) 5) 5) 5 ∷ []) ∷ [])

-- 1 int f(int n) { putchar('f'); return n; }
-- 2 int main(void) {
-- 3 return f(
-- 4 1 / 0);
-- 5 }
abbrev pub traps_in_an_argument : Typed
traps_in_an_argument = program 1 []
    (function (codes "f") 1 int (type.Int ∷ []) 1
    (TypedStmt.Value (put (number 102 1) 1)
    ∷ give (local 0 1) 1 ∷ [])
    ∷ function (codes "main") 2 int [] 0
    (give (calls (callee.Function 0) (one_arg (two op.Div (number 1 4) (number 0 4) 4)) 3) 3 ∷ []) ∷ [])

-- 1 int main(void) {
-- 2 int n = 2;
-- 3 while (4 / n--) putchar('t');
-- 4 return 0;
-- 5 }
abbrev pub traps_in_a_test : Typed
traps_in_a_test = source 1
    (declare (var 0 (TypedInit.One (number 2 2)) 2 ∷ [])
    ∷ TypedStmt.While (two op.Div (number 4 3) (at (TypedKind.After op.Sub (local 0 3)) 3) 3)
    (TypedStmt.Value (put (number 116 3) 3))
    ∷ give (number 0 4) 4 ∷ [])

-- 1 int main(void) {
-- 2 int a[3] = {putchar('A'), 1 % 0, putchar('B')};
-- 3 return 0;
-- 4 }
abbrev pub traps_in_a_list : Typed
traps_in_a_list = source 3
    (declare (array_of type.Int 0 3 (TypedInit.Several ((put (number 65 2) 2) ∷
    (two op.Rem (number 1 2) (number 0 2) 2) ∷ (put (number 66 2) 2) ∷ [])) 2 ∷ [])
    ∷ give (number 0 3) 3 ∷ [])

-- 1 int main(void) {
-- 2 switch (1 << 31) {
-- 3 default: return 1;
-- 4 }
-- 5 }
abbrev pub traps_in_a_switch : Typed
traps_in_a_switch = source 0
    (TypedStmt.Switch (two op.Shl (number 1 2) (number 31 2) 2) (items (TypedItem.Default 0
    ∷ TypedItem.Item (give (number 1 3) 3) ∷ [])) ∷ [])
