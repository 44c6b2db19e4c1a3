-- Typed sources, written by hand by the rules on types and conversions, each with its text.
use Rattle.std.specs.Prelude.{ℕ, ℤ, pos, List, [], ◌∷◌, Some, None, codes}
use Rattle.int_ops.specs.declared.types.IntType.{IntType}
use Rattle.int_ops.specs.declared.types.IntType.TheVariants as type
use Rattle.int_ops.specs.declared.operators.BinOp.{BinOp}
use Rattle.int_ops.specs.declared.operators.BinOp.TheVariants as op
use Rattle.c_tree.specs.declared.expr.Base.{Base}
use Rattle.c_tree.specs.declared.expr.Base.TheVariants as base
use Rattle.c_tree.specs.declared.typed_expr.CellAt.{CellAt}
use Rattle.c_tree.specs.declared.typed_expr.CellAt.TheVariants as cell
use Rattle.c_tree.specs.declared.typed_expr.Callee.{Callee}
use Rattle.c_tree.specs.declared.typed_expr.Callee.TheVariants as callee
use Rattle.c_tree.specs.TypedExpr.{TypedExpr, TypedKind, TypedExprs}
use Rattle.c_tree.specs.TypedStmt.{
  TypedInit,
  TypedVar,
  TypedStmt,
  OtherTyped,
  TypedForHead,
  TypedStmts,
  TypedItem,
  TypedItems,
}
use Rattle.c_tree.specs.Typed.{TypedFunction, Typed}

-- ---- short words for parts; places don't matter here and are 0

abbrev pub int : Base
int = base.Int type.Int

abbrev pub at : TypedKind → ℕ → TypedExpr
at kind line = TypedExpr.At kind int 0 line

abbrev pub number : ℕ → ℕ → TypedExpr
number n line = at (TypedKind.Number (pos n) type.Int) line

abbrev pub local : ℕ → ℕ → TypedExpr
local c line = at (TypedKind.Name (cell.Local c)) line

abbrev pub global : ℕ → ℕ → TypedExpr
global c line = at (TypedKind.Name (cell.Global c)) line

-- an element of an array of so many ints that begins in this cell
abbrev pub element : CellAt → ℕ → TypedExpr → ℕ → TypedExpr
element c n index line = at (TypedKind.Index c n 0 line index) line

-- a form without a value
abbrev pub at_void : TypedKind → ℕ → TypedExpr
at_void kind line = TypedExpr.At kind base.Void 0 line

abbrev pub two : BinOp → TypedExpr → TypedExpr → ℕ → TypedExpr
two o a b line = at (TypedKind.Binary o a b) line

abbrev pub set : TypedExpr → TypedExpr → ℕ → TypedExpr
set target value line = at (TypedKind.Assign None target value) line

abbrev pub up : TypedExpr → ℕ → TypedExpr
up target line = at (TypedKind.After op.Add target) line

abbrev pub calls : Callee → TypedExprs → ℕ → TypedExpr
calls f args line = at (TypedKind.Call f args) line

abbrev pub get : ℕ → TypedExpr
get line = calls callee.GetChar TypedExprs.End line

abbrev pub one_arg : TypedExpr → TypedExprs
one_arg e = TypedExprs.More e TypedExprs.End

abbrev pub put : TypedExpr → ℕ → TypedExpr
put e line = calls callee.PutChar (one_arg e) line

abbrev pub list : List TypedStmt → TypedStmts
list [] = TypedStmts.End
list (s ∷ ss) = TypedStmts.More s (list ss)

abbrev pub items : List TypedItem → TypedItems
items [] = TypedItems.Last
items (i ∷ is) = TypedItems.Further i (items is)

abbrev pub var : ℕ → TypedInit → ℕ → TypedVar
var c init line = record { cell = c; number_type = type.Int; length = None; init = init; place = 0; line = line }

abbrev pub array_of : IntType → ℕ → ℕ → TypedInit → ℕ → TypedVar
array_of t c n init line = record { cell = c; number_type = t; length = Some n; init = init; place = 0; line = line }

abbrev pub declare : List TypedVar → TypedStmt
declare vs = TypedStmt.Vars vs

abbrev pub give : TypedExpr → ℕ → TypedStmt
give e line = TypedStmt.Return (Some e) 0 line

abbrev pub no_else : OtherTyped
no_else = OtherTyped.Nothing

abbrev pub function : List ℕ → ℕ → Base → List IntType → ℕ → List TypedStmt → TypedFunction
function name line result params cells body =
    record { name = name; line = line; result = result; params = params; cells = cells; body = list body }

abbrev pub main_of : ℕ → List TypedStmt → TypedFunction
main_of cells body = function (codes "main") 1 int [] cells body

abbrev pub source : ℕ → List TypedStmt → Typed
source cells body = record { functions = main_of cells body ∷ []; globals = []; main = 0 }

-- the place of `main`, the numbers of the globals' cells, and the functions
abbrev pub program : ℕ → List ℤ → List TypedFunction → Typed
program main globals functions = record { functions = functions; globals = globals; main = main }

-- ---- the sources

-- 1 int main(void) {
-- 2 int n = 0;
-- 3 while (getchar() == 'a')
-- 4 n++;
-- 5 return n;
-- 6 }
abbrev pub counts : Typed
counts = source 1
    (declare (var 0 (TypedInit.One (number 0 2)) 2 ∷ [])
    ∷ TypedStmt.While (two op.Equal (get 3) (number 97 3) 3) (TypedStmt.Value (up (local 0 4) 4))
    ∷ give (local 0 5) 5 ∷ [])

-- 1 int main(void) {
-- 2 int i = 0;
-- 3 while (i < 10) i++;
-- 4 return i;
-- 5 }
abbrev pub to_ten : Typed
to_ten = source 1
    (declare (var 0 (TypedInit.One (number 0 2)) 2 ∷ [])
    ∷ TypedStmt.While (two op.Less (local 0 3) (number 10 3) 3) (TypedStmt.Value (up (local 0 3) 3))
    ∷ give (local 0 4) 4 ∷ [])

-- 1 int main(void) {
-- 2 int i, s = 0;
-- 3 for (i = 0; i < 3; i++)
-- 4 s += i;
-- 5 return s;
-- 6 }
abbrev pub sum_of_three : Typed
sum_of_three = source 2
    (declare (var 0 TypedInit.Absent 2 ∷ var 1 (TypedInit.One (number 0 2)) 2 ∷ [])
    ∷ TypedStmt.For
    (TypedForHead.Head (OtherTyped.There (TypedStmt.Value (set (local 0 3) (number 0 3) 3)))
    (Some (two op.Less (local 0 3) (number 3 3) 3)) (Some (up (local 0 3) 3)))
    (TypedStmt.Value (at (TypedKind.Assign (Some op.Add) (local 1 4) (local 0 4)) 4))
    ∷ give (local 1 5) 5 ∷ [])

-- 1 int main(void) {
-- 2 int c = getchar();
-- 3 if (c == 'x') return 1; else return 2;
-- 4 }
abbrev pub one_or_two : Typed
one_or_two = source 1
    (declare (var 0 (TypedInit.One (get 2)) 2 ∷ [])
    ∷ TypedStmt.If (two op.Equal (local 0 3) (number 120 3) 3) (give (number 1 3) 3)
    (OtherTyped.There (give (number 2 3) 3)) ∷ [])

-- int main(void) { for (;;) ; }
abbrev pub for_ever : Typed
for_ever = source 0 (TypedStmt.For (TypedForHead.Head no_else None None) TypedStmt.Empty ∷ [])

-- 1 void g(void) { exit(5); }
-- 2 void f(void) { g(); }
-- 3 int main(void) { f(); }
abbrev pub exits_deep : Typed
exits_deep = record {
  functions =
      function (codes "g") 1 base.Void [] 0 (TypedStmt.Value
      (TypedExpr.At (TypedKind.Call callee.Exit (one_arg (number 5 1))) base.Void 0 1) ∷ [])
      ∷ function (codes "f") 2 base.Void [] 0 (TypedStmt.Value
      (TypedExpr.At (TypedKind.Call (callee.Function 0) TypedExprs.End) base.Void 0 2) ∷ [])
      ∷ function (codes "main") 3 int [] 0 (TypedStmt.Value
      (TypedExpr.At (TypedKind.Call (callee.Function 1) TypedExprs.End) base.Void 0 3) ∷ []) ∷ [];
  globals = [];
  main = 2;
}

-- 1 int f(int n) {
-- 2 if (n > 0)
-- 3 f(n - 1);
-- 4 if (n > 0)
-- 5 return 1;
-- 6 return 0;
-- 7 }
-- 8 int main(void) { return f(1); }
abbrev pub calls_itself : Typed
calls_itself = record {
  functions =
      function (codes "f") 1 int (type.Int ∷ []) 1
      (TypedStmt.If (two op.Greater (local 0 2) (number 0 2) 2)
      (TypedStmt.Value (calls (callee.Function 0) (one_arg (two op.Sub (local 0 3) (number 1 3) 3)) 3)) no_else
      ∷ TypedStmt.If (two op.Greater (local 0 4) (number 0 4) 4) (give (number 1 5) 5) no_else
      ∷ give (number 0 6) 6 ∷ [])
      ∷ function (codes "main") 8 int [] 0 (give (calls (callee.Function 0) (one_arg (number 1 8)) 8) 8 ∷ []) ∷ [];
  globals = [];
  main = 1;
}

-- 1 int main(void) {
-- 2 int x = 2147483647;
-- 3 x = x + 1;
-- 4 return x;
-- 5 }
abbrev pub overflows : Typed
overflows = source 1
    (declare (var 0 (TypedInit.One (number 2147483647 2)) 2 ∷ [])
    ∷ TypedStmt.Value (set (local 0 3) (two op.Add (local 0 3) (number 1 3) 3) 3)
    ∷ give (local 0 4) 4 ∷ [])

-- the same with `unsigned x = 4294967295;`, which has type long
abbrev pub unsigned : Base
unsigned = base.Int type.UnsignedInt

abbrev pub at_unsigned : TypedKind → ℕ → TypedExpr
at_unsigned kind line = TypedExpr.At kind unsigned 0 line

abbrev pub wraps : Typed
wraps = source 1
    (declare (record {
      cell = 0;
      number_type = type.UnsignedInt;
      length = None;
      init = TypedInit.One (at_unsigned (TypedKind.Convert
          (TypedExpr.At (TypedKind.Number (pos 4294967295) type.Long) (base.Int type.Long) 0 2)) 2);
      place = 0;
      line = 2;
    } ∷ [])
    ∷ TypedStmt.Value (at_unsigned (TypedKind.Assign None (at_unsigned (TypedKind.Name (cell.Local 0)) 3)
    (at_unsigned (TypedKind.Binary op.Add (at_unsigned (TypedKind.Name (cell.Local 0)) 3)
    (at_unsigned (TypedKind.Convert (number 1 3)) 3)) 3)) 3)
    ∷ give (at (TypedKind.Convert (at_unsigned (TypedKind.Name (cell.Local 0)) 4)) 4) 4 ∷ [])

-- 1 int a[2];
-- 2 int main(void) {
-- 3 int i = 2;
-- 4 a[i] = putchar('x');
-- 5 }
abbrev pub bad_index : Typed
bad_index = record {
  functions = function (codes "main") 2 int [] 1
      (declare (var 0 (TypedInit.One (number 2 3)) 3 ∷ [])
      ∷ TypedStmt.Value (set (at (TypedKind.Index (cell.Global 0) 2 0 4 (local 0 4)) 4) (put (number 120 4) 4) 4) ∷ [])
      ∷ [];
  globals = pos 0 ∷ pos 0 ∷ [];
  main = 0;
}

-- int main(void) { int r = 0; if (1) if (0) r = 1; else r = 2; return r; }
abbrev pub near_else : Typed
near_else = source 1
    (declare (var 0 (TypedInit.One (number 0 1)) 1 ∷ [])
    ∷ TypedStmt.If (number 1 1)
    (TypedStmt.If (number 0 1) (TypedStmt.Value (set (local 0 1) (number 1 1) 1))
    (OtherTyped.There (TypedStmt.Value (set (local 0 1) (number 2 1) 1)))) no_else
    ∷ give (local 0 1) 1 ∷ [])

-- 1 int main(void) {
-- 2 int i = 0, s = 0;
-- 3 do {
-- 4 i++;
-- 5 if (i == 2) continue;
-- 6 s += i;
-- 7 } while (i < 3);
-- 8 return s;
-- 9 }
abbrev pub do_continues : Typed
do_continues = source 2
    (declare (var 0 (TypedInit.One (number 0 2)) 2 ∷ var 1 (TypedInit.One (number 0 2)) 2 ∷ [])
    ∷ TypedStmt.DoWhile (TypedStmt.Block (list
    (TypedStmt.Value (up (local 0 4) 4)
    ∷ TypedStmt.If (two op.Equal (local 0 5) (number 2 5) 5) (TypedStmt.Continue 0 5) no_else
    ∷ TypedStmt.Value (at (TypedKind.Assign (Some op.Add) (local 1 6) (local 0 6)) 6) ∷ [])))
    (two op.Less (local 0 7) (number 3 7) 7) 7
    ∷ give (local 1 8) 8 ∷ [])

-- 1 int main(void) {
-- 2 int i = 0;
-- 3 for (;; i++)
-- 4 if (i == 2) break;
-- 5 return i;
-- 6 }
abbrev pub for_without_test : Typed
for_without_test = source 1
    (declare (var 0 (TypedInit.One (number 0 2)) 2 ∷ [])
    ∷ TypedStmt.For (TypedForHead.Head no_else None (Some (up (local 0 3) 3)))
    (TypedStmt.If (two op.Equal (local 0 4) (number 2 4) 4) (TypedStmt.Break 0 4) no_else)
    ∷ give (local 0 5) 5 ∷ [])

-- 1 int main(void) {
-- 2 switch (getchar()) {
-- 3 case 'a': putchar('1');
-- 4 default: putchar('2');
-- 5 case 'b': putchar('3'); break;
-- 6 case 'c': putchar('4');
-- 7 }
-- 8 return 0;
-- 9 }
abbrev pub falls_through : Typed
falls_through = source 0
    (TypedStmt.Switch (get 2) (items
    (TypedItem.Case (pos 97) 0 ∷ TypedItem.Item (TypedStmt.Value (put (number 49 3) 3))
    ∷ TypedItem.Default 0 ∷ TypedItem.Item (TypedStmt.Value (put (number 50 4) 4))
    ∷ TypedItem.Case (pos 98) 0 ∷ TypedItem.Item (TypedStmt.Value (put (number 51 5) 5)) ∷ TypedItem.Item
    (TypedStmt.Break 0 5)
    ∷ TypedItem.Case (pos 99) 0 ∷ TypedItem.Item (TypedStmt.Value (put (number 52 6) 6)) ∷ []))
    ∷ give (number 0 8) 8 ∷ [])

-- 1 int f(int n) { putchar(n); return n; }
-- 2 int main(void) { return f(getchar() == 'a' && (getchar() == 'b' ? 0 : 1)); }
abbrev pub chooses_in_an_argument : Typed
chooses_in_an_argument = record {
  functions =
      function (codes "f") 1 int (type.Int ∷ []) 1 (TypedStmt.Value (put (local 0 1) 1) ∷ give (local 0 1) 1 ∷ [])
      ∷ function (codes "main") 2 int [] 0
      (give (calls (callee.Function 0) (one_arg (at (TypedKind.AndAlso (two op.Equal (get 2) (number 97 2) 2)
      (at (TypedKind.Choose (two op.Equal (get 2) (number 98 2) 2) (number 0 2) (number 1 2)) 2)) 2)) 2) 2 ∷ []) ∷ [];
  globals = [];
  main = 1;
}

-- 1 int a[2] = {3, 4}, i;
-- 2 int main(void) {
-- 3 a[i++] += getchar() + i;
-- 4 return a[0] * 10 + i;
-- 5 }
abbrev pub steps_an_index : Typed
steps_an_index = record {
  functions = function (codes "main") 2 int [] 0
      (TypedStmt.Value (at (TypedKind.Assign (Some op.Add)
      (at (TypedKind.Index (cell.Global 0) 2 0 3 (up (at (TypedKind.Name (cell.Global 2)) 3) 3)) 3)
      (two op.Add (get 3) (at (TypedKind.Name (cell.Global 2)) 3) 3)) 3)
      ∷ give (two op.Add (two op.Mul (at (TypedKind.Index (cell.Global 0) 2 0 4 (number 0 4)) 4) (number 10 4) 4)
      (at (TypedKind.Name (cell.Global 2)) 4) 4) 4 ∷ []) ∷ [];
  globals = pos 3 ∷ pos 4 ∷ pos 0 ∷ [];
  main = 0;
}

-- 1 void f(void) { putchar('f'); }
-- 2 int main(void) { return f(), 7; }
abbrev pub comma_with_void : Typed
comma_with_void = record {
  functions =
      function (codes "f") 1 base.Void [] 0 (TypedStmt.Value (put (number 102 1) 1) ∷ [])
      ∷ function (codes "main") 2 int [] 0
      (give (at (TypedKind.Comma (TypedExpr.At (TypedKind.Call (callee.Function 0) TypedExprs.End) base.Void 0 2)
      (number 7 2)) 2) 2 ∷ []) ∷ [];
  globals = [];
  main = 1;
}

-- 1 int g(int n) { if (n) exit(n); return n; }
-- 2 int f(int a, int b) { putchar('f'); return a + b; }
-- 3 int main(void) { return f(f(1, 2), g(4)); }
abbrev pub exits_in_an_argument : Typed
exits_in_an_argument = record {
  functions =
      function (codes "g") 1 int (type.Int ∷ []) 1
      (TypedStmt.If (local 0 1) (TypedStmt.Value (TypedExpr.At (TypedKind.Call callee.Exit (one_arg (local 0 1)))
      base.Void 0 1)) no_else ∷ give (local 0 1) 1 ∷ [])
      ∷ function (codes "f") 2 int (type.Int ∷ type.Int ∷ []) 2
      (TypedStmt.Value (put (number 102 2) 2) ∷ give (two op.Add (local 0 2) (local 1 2) 2) 2 ∷ [])
      ∷ function (codes "main") 3 int [] 0
      (give (calls (callee.Function 1) (TypedExprs.More
      (calls (callee.Function 1) (TypedExprs.More (number 1 3) (one_arg (number 2 3))) 3)
      (one_arg (calls (callee.Function 0) (one_arg (number 4 3)) 3))) 3) 3 ∷ []) ∷ [];
  globals = [];
  main = 2;
}

-- 1 int main(void) {
-- 2 return 1;
-- 3 putchar('x');
-- 4 }
abbrev pub unreached : Typed
unreached = source 0 (give (number 1 2) 2 ∷ TypedStmt.Value (put (number 120 3) 3) ∷ [])

-- int f(int c) { switch (c) { case 1: case 2: return 7; default: ; } return 0; }
-- int main(void) {}
abbrev pub two_labels : Typed
two_labels = record {
  functions =
      function (codes "f") 1 int (type.Int ∷ []) 1
      (TypedStmt.Switch (local 0 1) (items (TypedItem.Case (pos 1) 0 ∷ TypedItem.Case (pos 2) 0 ∷ TypedItem.Item
      (give (number 7 1) 1)
      ∷ TypedItem.Default 0 ∷ TypedItem.Item TypedStmt.Empty ∷ []))
      ∷ give (number 0 1) 1 ∷ [])
      ∷ main_of 0 [] ∷ [];
  globals = [];
  main = 1;
}

-- ---- other types than int

abbrev pub of : IntType → TypedKind → ℕ → TypedExpr
of t kind line = TypedExpr.At kind (base.Int t) 0 line

abbrev pub cell_of : IntType → ℕ → ℕ → TypedExpr
cell_of t c line = of t (TypedKind.Name (cell.Local c)) line

abbrev pub to : IntType → TypedExpr → ℕ → TypedExpr
to t e line = of t (TypedKind.Convert e) line

abbrev pub var_of : IntType → ℕ → TypedExpr → ℕ → TypedVar
var_of t c e line = record { cell = c; number_type = t; length = None; init = TypedInit.One e; place = 0; line = line }

-- 1 int main(void) {
-- 2 char c = 127;
-- 3 c++;
-- 4 return c;
-- 5 }
abbrev pub steps_a_char : Typed
steps_a_char = source 1
    (declare (var_of type.Char 0 (to type.Char (number 127 2) 2) 2 ∷ [])
    ∷ TypedStmt.Value (of type.Char (TypedKind.After op.Add (cell_of type.Char 0 3)) 3)
    ∷ give (to type.Int (cell_of type.Char 0 4) 4) 4 ∷ [])

-- 1 int main(void) {
-- 2 _Bool b = 5;
-- 3 --b; --b; b++;
-- 4 return b;
-- 5 }
abbrev pub steps_a_bool : Typed
steps_a_bool = source 1
    (declare (var_of type.Bool 0 (to type.Bool (number 5 2) 2) 2 ∷ [])
    ∷ TypedStmt.Value (of type.Bool (TypedKind.Before op.Sub (cell_of type.Bool 0 3)) 3)
    ∷ TypedStmt.Value (of type.Bool (TypedKind.Before op.Sub (cell_of type.Bool 0 3)) 3)
    ∷ TypedStmt.Value (of type.Bool (TypedKind.After op.Add (cell_of type.Bool 0 3)) 3)
    ∷ give (to type.Int (cell_of type.Bool 0 4) 4) 4 ∷ [])

-- 1 int main(void) {
-- 2 unsigned char u = 255; long l = 2;
-- 3 u <<= l;
-- 4 return u;
-- 5 }
abbrev pub shifts_a_char : Typed
shifts_a_char = source 2
    (declare (var_of type.UnsignedChar 0 (to type.UnsignedChar (number 255 2) 2) 2 ∷ [])
    ∷ declare (var_of type.Long 1 (to type.Long (number 2 2) 2) 2 ∷ [])
    ∷ TypedStmt.Value (of type.UnsignedChar (TypedKind.Assign (Some op.Shl) (cell_of type.UnsignedChar 0 3)
    (cell_of type.Long 1 3)) 3)
    ∷ give (to type.Int (cell_of type.UnsignedChar 0 4) 4) 4 ∷ [])

-- 1 int main(void) {
-- 2 int i = -2;
-- 3 i += 1u;
-- 4 return 1u + i > 0;
-- 5 }
abbrev pub compares_unsigned : Typed
compares_unsigned = source 1
    (declare (var 0 (TypedInit.One (at (TypedKind.Minus (number 2 2)) 2)) 2 ∷ [])
    ∷ TypedStmt.Value (at (TypedKind.Assign (Some op.Add) (local 0 3)
    (of type.UnsignedInt (TypedKind.Number (pos 1) type.UnsignedInt) 3)) 3)
    ∷ give (two op.Greater
    (of type.UnsignedInt (TypedKind.Binary op.Add (of type.UnsignedInt (TypedKind.Number (pos 1) type.UnsignedInt) 4)
    (to type.UnsignedInt (local 0 4) 4)) 4)
    (to type.UnsignedInt (number 0 4) 4) 4) 4 ∷ [])

-- 1 int main(void) {
-- 2 int i, s = 0;
-- 3 for (i = 0; i < 2; i++) {
-- 4 int a[3] = {getchar()};
-- 5 s = s * 10 + a[0] + a[1];
-- 6 a[1] = 5;
-- 7 }
-- 8 return s;
-- 9 }
abbrev pub array_in_a_loop : Typed
array_in_a_loop = source 5
    (declare (var 0 TypedInit.Absent 2 ∷ var 1 (TypedInit.One (number 0 2)) 2 ∷ [])
    ∷ TypedStmt.For
    (TypedForHead.Head (OtherTyped.There (TypedStmt.Value (set (local 0 3) (number 0 3) 3)))
    (Some (two op.Less (local 0 3) (number 2 3) 3)) (Some (up (local 0 3) 3)))
    (TypedStmt.Block (list
    (declare (record {
      cell =
          2;
      number_type = type.Int;
      length = Some 3;
      init = TypedInit.Several (get 4 ∷ []);
      place = 0;
      line = 4;
    } ∷ [])
    ∷ TypedStmt.Value (set (local 1 5) (two op.Add (two op.Add (two op.Mul (local 1 5) (number 10 5) 5)
    (at (TypedKind.Index (cell.Local 2) 3 0 5 (number 0 5)) 5) 5)
    (at (TypedKind.Index (cell.Local 2) 3 0 5 (number 1 5)) 5) 5) 5)
    ∷ TypedStmt.Value (set (at (TypedKind.Index (cell.Local 2) 3 0 6 (number 1 6)) 6) (number 5 6) 6) ∷ [])))
    ∷ give (local 1 8) 8 ∷ [])

-- 1 int main(void) {
-- 2 int a[2], i = 0;
-- 3 a[i]++; --a[i]; a[i] -= 3;
-- 4 return !a[0] || ~a[i++] == (char)258 && +i;
-- 5 }
abbrev pub signs : Typed
signs = source 3
    (declare (record {
      cell = 0;
      number_type = type.Int;
      length = Some 2;
      init = TypedInit.Absent;
      place = 0;
      line = 2;
    } ∷ var 2 (TypedInit.One (number 0 2)) 2 ∷ [])
    ∷ TypedStmt.Value (at (TypedKind.After op.Add (at (TypedKind.Index (cell.Local 0) 2 0 3 (local 2 3)) 3)) 3)
    ∷ TypedStmt.Value (at (TypedKind.Before op.Sub (at (TypedKind.Index (cell.Local 0) 2 0 3 (local 2 3)) 3)) 3)
    ∷ TypedStmt.Value (at (TypedKind.Assign (Some op.Sub) (at (TypedKind.Index (cell.Local 0) 2 0 3 (local 2 3)) 3)
    (number 3 3)) 3)
    ∷ give (at (TypedKind.OrElse
    (at (TypedKind.Not (at (TypedKind.Index (cell.Local 0) 2 0 4 (number 0 4)) 4)) 4)
    (at (TypedKind.AndAlso
    (two op.Equal (at (TypedKind.Complement (at (TypedKind.Index (cell.Local 0) 2 0 4 (up (local 2 4) 4)) 4)) 4)
    (to type.Int (of type.Char (TypedKind.Cast (base.Int type.Char) (number 258 4)) 4) 4) 4)
    (at (TypedKind.Plus (local 2 4)) 4)) 4)) 4) 4 ∷ [])

-- 1 int f(int n) { return f(n + 1); }
-- 2 int main(void) { return f(0); }
abbrev pub too_deep : Typed
too_deep = record {
  functions =
      function (codes "f") 1 int (type.Int ∷ []) 1 (give
      (calls (callee.Function 0) (one_arg (two op.Add (local 0 1) (number 1 1) 1)) 1) 1 ∷ [])
      ∷ function (codes "main") 2 int [] 0 (give (calls (callee.Function 0) (one_arg (number 0 2)) 2) 2 ∷ []) ∷ [];
  globals = [];
  main = 1;
}
