-- Typed sources of other types than int. Each has its text.
use Rattle.std.specs.Prelude.{pos, negsuc, [], ◌∷◌, Some, None, codes}
use Rattle.int_ops.specs.declared.types.IntType.TheVariants as type
use Rattle.int_ops.specs.declared.operators.BinOp.TheVariants as op
use Rattle.c_tree.specs.declared.expr.Base.TheVariants as base
use Rattle.c_tree.specs.declared.typed_expr.CellAt.TheVariants as cell
use Rattle.c_tree.specs.declared.typed_expr.Callee.TheVariants as callee
use Rattle.c_tree.specs.TypedExpr.{TypedKind, TypedExprs}
use Rattle.c_tree.specs.TypedStmt.{TypedInit, TypedStmt, TypedItem}
use Rattle.c_tree.specs.Typed.{Typed}
use Rattle.c_meaning.proofs.Sources.{
  int,
  at,
  number,
  local,
  two,
  set,
  one_arg,
  put,
  items,
  var,
  declare,
  give,
  no_else,
  function,
  source,
  program,
  of,
  cell_of,
  to,
  var_of,
  array_of,
}

-- 1 int main(void) {
-- 2 _Bool b = 0;
-- 3 b -= 1;
-- 4 return b;
-- 5 }
abbrev pub bool_less_one : Typed
bool_less_one = source 1
    (declare (var_of type.Bool 0 (to type.Bool (number 0 2) 2) 2 ∷ [])
    ∷ TypedStmt.Value (of type.Bool (TypedKind.Assign (Some op.Sub) (cell_of type.Bool 0 3) (number 1 3)) 3)
    ∷ give (to type.Int (cell_of type.Bool 0 4) 4) 4 ∷ [])

-- 1 int main(void) {
-- 2 _Bool b = 1;
-- 3 b -= 2;
-- 4 putchar(b);
-- 5 putchar(b--);
-- 6 putchar(b);
-- 7 putchar(b++);
-- 8 putchar(++b);
-- 9 return b;
-- 10 }
abbrev pub bool_steps : Typed
bool_steps = source 1
    (declare (var_of type.Bool 0 (to type.Bool (number 1 2) 2) 2 ∷ [])
    ∷ TypedStmt.Value (of type.Bool (TypedKind.Assign (Some op.Sub) (cell_of type.Bool 0 3) (number 2 3)) 3)
    ∷ TypedStmt.Value (put (to type.Int (cell_of type.Bool 0 4) 4) 4)
    ∷ TypedStmt.Value (put (to type.Int (of type.Bool (TypedKind.After op.Sub (cell_of type.Bool 0 5)) 5) 5) 5)
    ∷ TypedStmt.Value (put (to type.Int (cell_of type.Bool 0 6) 6) 6)
    ∷ TypedStmt.Value (put (to type.Int (of type.Bool (TypedKind.After op.Add (cell_of type.Bool 0 7)) 7) 7) 7)
    ∷ TypedStmt.Value (put (to type.Int (of type.Bool (TypedKind.Before op.Add (cell_of type.Bool 0 8)) 8) 8) 8)
    ∷ give (to type.Int (cell_of type.Bool 0 9) 9) 9 ∷ [])

-- 1 int main(void) {
-- 2 _Bool b = 1;
-- 3 b <<= 5;
-- 4 return b;
-- 5 }
abbrev pub shifts_a_bool : Typed
shifts_a_bool = source 1
    (declare (var_of type.Bool 0 (to type.Bool (number 1 2) 2) 2 ∷ [])
    ∷ TypedStmt.Value (of type.Bool (TypedKind.Assign (Some op.Shl) (cell_of type.Bool 0 3) (number 5 3)) 3)
    ∷ give (to type.Int (cell_of type.Bool 0 4) 4) 4 ∷ [])

-- 1 int main(void) {
-- 2 unsigned char u = 0;
-- 3 putchar(--u);
-- 4 putchar(u++);
-- 5 putchar(u);
-- 6 u = 255;
-- 7 u <<= 8;
-- 8 return u;
-- 9 }
abbrev pub byte_wraps : Typed
byte_wraps = source 1
    (declare (var_of type.UnsignedChar 0 (to type.UnsignedChar (number 0 2) 2) 2 ∷ [])
    ∷ TypedStmt.Value (put (to type.Int (of type.UnsignedChar (TypedKind.Before op.Sub (cell_of type.UnsignedChar 0 3))
    3) 3) 3)
    ∷ TypedStmt.Value (put (to type.Int (of type.UnsignedChar (TypedKind.After op.Add (cell_of type.UnsignedChar 0 4))
    4) 4) 4)
    ∷ TypedStmt.Value (put (to type.Int (cell_of type.UnsignedChar 0 5) 5) 5)
    ∷ TypedStmt.Value (of type.UnsignedChar (TypedKind.Assign None (cell_of type.UnsignedChar 0 6)
    (to type.UnsignedChar (number 255 6) 6)) 6)
    ∷ TypedStmt.Value (of type.UnsignedChar (TypedKind.Assign (Some op.Shl) (cell_of type.UnsignedChar 0 7)
    (number 8 7)) 7)
    ∷ give (to type.Int (cell_of type.UnsignedChar 0 8) 8) 8 ∷ [])

-- 1 int main(void) {
-- 2 short s = 32767;
-- 3 s++;
-- 4 return s == -32768;
-- 5 }
abbrev pub short_wraps : Typed
short_wraps = source 1
    (declare (var_of type.Short 0 (to type.Short (number 32767 2) 2) 2 ∷ [])
    ∷ TypedStmt.Value (of type.Short (TypedKind.After op.Add (cell_of type.Short 0 3)) 3)
    ∷ give (two op.Equal (to type.Int (cell_of type.Short 0 4) 4) (at (TypedKind.Minus (number 32768 4)) 4) 4) 4 ∷ [])

-- 1 int main(void) {
-- 2 unsigned u = 0;
-- 3 --u;
-- 4 return u == 4294967295u;
-- 5 }
abbrev pub unsigned_wraps : Typed
unsigned_wraps = source 1
    (declare (var_of type.UnsignedInt 0 (to type.UnsignedInt (number 0 2) 2) 2 ∷ [])
    ∷ TypedStmt.Value (of type.UnsignedInt (TypedKind.Before op.Sub (cell_of type.UnsignedInt 0 3)) 3)
    ∷ give (two op.Equal (cell_of type.UnsignedInt 0 4)
    (of type.UnsignedInt (TypedKind.Number (pos 4294967295) type.UnsignedInt) 4) 4) 4 ∷ [])

-- 1 int main(void) {
-- 2 char c = 200;
-- 3 c *= 2;
-- 4 return c;
-- 5 }
abbrev pub doubles_a_char : Typed
doubles_a_char = source 1
    (declare (var_of type.Char 0 (to type.Char (number 200 2) 2) 2 ∷ [])
    ∷ TypedStmt.Value (of type.Char (TypedKind.Assign (Some op.Mul) (cell_of type.Char 0 3) (number 2 3)) 3)
    ∷ give (to type.Int (cell_of type.Char 0 4) 4) 4 ∷ [])

-- 1 int main(void) {
-- 2 char c = 1;
-- 3 c -= 2u;
-- 4 return c;
-- 5 }
abbrev pub char_less_unsigned : Typed
char_less_unsigned = source 1
    (declare (var_of type.Char 0 (to type.Char (number 1 2) 2) 2 ∷ [])
    ∷ TypedStmt.Value (of type.Char (TypedKind.Assign (Some op.Sub) (cell_of type.Char 0 3)
    (of type.UnsignedInt (TypedKind.Number (pos 2) type.UnsignedInt) 3)) 3)
    ∷ give (to type.Int (cell_of type.Char 0 4) 4) 4 ∷ [])

-- 1 int main(void) {
-- 2 int i = -1;
-- 3 i /= 2u;
-- 4 return i == 2147483647;
-- 5 }
abbrev pub divides_by_unsigned : Typed
divides_by_unsigned = source 1
    (declare (var 0 (TypedInit.One (at (TypedKind.Minus (number 1 2)) 2)) 2 ∷ [])
    ∷ TypedStmt.Value (at (TypedKind.Assign (Some op.Div) (local 0 3)
    (of type.UnsignedInt (TypedKind.Number (pos 2) type.UnsignedInt) 3)) 3)
    ∷ give (two op.Equal (local 0 4) (number 2147483647 4) 4) 4 ∷ [])

-- 1 int main(void) {
-- 2 long l = 1;
-- 3 l <<= 62;
-- 4 l >>= 60;
-- 5 return l;
-- 6 }
abbrev pub shifts_a_long : Typed
shifts_a_long = source 1
    (declare (var_of type.Long 0 (to type.Long (number 1 2) 2) 2 ∷ [])
    ∷ TypedStmt.Value (of type.Long (TypedKind.Assign (Some op.Shl) (cell_of type.Long 0 3) (number 62 3)) 3)
    ∷ TypedStmt.Value (of type.Long (TypedKind.Assign (Some op.Shr) (cell_of type.Long 0 4) (number 60 4)) 4)
    ∷ give (to type.Int (cell_of type.Long 0 5) 5) 5 ∷ [])

-- 1 int main(void) {
-- 2 long l = 4294967296; unsigned u = 7;
-- 3 putchar(l / 4294967295u);
-- 4 putchar(u - 8 > 100);
-- 5 putchar(-1 < 1u);
-- 6 putchar(-1 < 1L);
-- 7 putchar(~u == -8);
-- 8 putchar((-u) / 2147483648u);
-- 9 putchar(u % 4);
-- 10 return u >> 1;
-- 11 }
abbrev pub mixes_operands : Typed
mixes_operands = source 2
    (declare (var_of type.Long 0 (of type.Long (TypedKind.Number (pos 4294967296) type.Long) 2) 2 ∷ [])
    ∷ declare (var_of type.UnsignedInt 1 (to type.UnsignedInt (number 7 2) 2) 2 ∷ [])
    ∷ TypedStmt.Value (put (to type.Int (of type.Long (TypedKind.Binary op.Div (cell_of type.Long 0 3)
    (to type.Long (of type.UnsignedInt (TypedKind.Number (pos 4294967295) type.UnsignedInt) 3) 3)) 3) 3) 3)
    ∷ TypedStmt.Value (put (two op.Greater (of type.UnsignedInt
    (TypedKind.Binary op.Sub (cell_of type.UnsignedInt 1 4) (to type.UnsignedInt (number 8 4) 4)) 4)
    (to type.UnsignedInt (number 100 4) 4) 4) 4)
    ∷ TypedStmt.Value (put (two op.Less (to type.UnsignedInt (at (TypedKind.Minus (number 1 5)) 5) 5)
    (of type.UnsignedInt (TypedKind.Number (pos 1) type.UnsignedInt) 5) 5) 5)
    ∷ TypedStmt.Value (put (two op.Less (to type.Long (at (TypedKind.Minus (number 1 6)) 6) 6)
    (of type.Long (TypedKind.Number (pos 1) type.Long) 6) 6) 6)
    ∷ TypedStmt.Value (put (two op.Equal (of type.UnsignedInt (TypedKind.Complement (cell_of type.UnsignedInt 1 7)) 7)
    (to type.UnsignedInt (at (TypedKind.Minus (number 8 7)) 7) 7) 7) 7)
    ∷ TypedStmt.Value (put (to type.Int (of type.UnsignedInt
    (TypedKind.Binary op.Div (of type.UnsignedInt (TypedKind.Minus (cell_of type.UnsignedInt 1 8)) 8)
    (of type.UnsignedInt (TypedKind.Number (pos 2147483648) type.UnsignedInt) 8)) 8) 8) 8)
    ∷ TypedStmt.Value (put (to type.Int (of type.UnsignedInt
    (TypedKind.Binary op.Rem (cell_of type.UnsignedInt 1 9) (to type.UnsignedInt (number 4 9) 9)) 9) 9) 9)
    ∷ give (to type.Int (of type.UnsignedInt (TypedKind.Binary op.Shr (cell_of type.UnsignedInt 1 10) (number 1 10))
    10) 10) 10 ∷ [])

-- 1 int main(void) {
-- 2 unsigned long u = -1ul;
-- 3 if (u) return !u + 3;
-- 4 }
abbrev pub tests_unsigned_long : Typed
tests_unsigned_long = source 1
    (declare (var_of type.UnsignedLong 0 (of type.UnsignedLong
    (TypedKind.Minus (of type.UnsignedLong (TypedKind.Number (pos 1) type.UnsignedLong) 2)) 2) 2 ∷ [])
    ∷ TypedStmt.If (cell_of type.UnsignedLong 0 3) (give
    (two op.Add (at (TypedKind.Not (cell_of type.UnsignedLong 0 3)) 3) (number 3 3) 3) 3) no_else ∷ [])

-- 1 int main(void) {
-- 2 switch (4294967296) {
-- 3 case 0: return 1;
-- 4 case 4294967296: return 2;
-- 5 }
-- 6 }
abbrev pub switch_over_long : Typed
switch_over_long = source 0
    (TypedStmt.Switch (of type.Long (TypedKind.Number (pos 4294967296) type.Long) 2) (items (TypedItem.Case (pos 0) 0
    ∷ TypedItem.Item (give (number 1 3) 3)
    ∷ TypedItem.Case (pos 4294967296) 0
    ∷ TypedItem.Item (give (number 2 4) 4) ∷ [])) ∷ [])

-- 1 int main(void) {
-- 2 char c = 255; unsigned char u = 255;
-- 3 switch (c) { case 255: putchar('a'); break; case -1: putchar('b'); }
-- 4 switch (u) { case 255: putchar('c'); break; case -1: putchar('d'); }
-- 5 return 0;
-- 6 }
abbrev pub switch_over_char : Typed
switch_over_char = source 2
    (declare (var_of type.Char 0 (to type.Char (number 255 2) 2) 2 ∷ [])
    ∷ declare (var_of type.UnsignedChar 1 (to type.UnsignedChar (number 255 2) 2) 2 ∷ [])
    ∷ TypedStmt.Switch (to type.Int (cell_of type.Char 0 3) 3) (items (TypedItem.Case (pos 255) 0
    ∷ TypedItem.Item (TypedStmt.Value (put (number 97 3) 3))
    ∷ TypedItem.Item (TypedStmt.Break 0 3)
    ∷ TypedItem.Case (negsuc 0) 0
    ∷ TypedItem.Item (TypedStmt.Value (put (number 98 3) 3)) ∷ []))
    ∷ TypedStmt.Switch (to type.Int (cell_of type.UnsignedChar 1 4) 4) (items (TypedItem.Case (pos 255) 0
    ∷ TypedItem.Item (TypedStmt.Value (put (number 99 4) 4))
    ∷ TypedItem.Item (TypedStmt.Break 0 4)
    ∷ TypedItem.Case (negsuc 0) 0
    ∷ TypedItem.Item (TypedStmt.Value (put (number 100 4) 4)) ∷ []))
    ∷ give (number 0 5) 5 ∷ [])

-- 1 int main(void) {
-- 2 char c = 0;
-- 3 int i;
-- 4 i = c = 300;
-- 5 return i;
-- 6 }
abbrev pub assigns_a_char : Typed
assigns_a_char = source 2
    (declare (var_of type.Char 0 (to type.Char (number 0 2) 2) 2 ∷ [])
    ∷ declare (var 1 TypedInit.Absent 3 ∷ [])
    ∷ TypedStmt.Value (set (local 1 4) (to type.Int (of type.Char
    (TypedKind.Assign None (cell_of type.Char 0 4) (to type.Char (number 300 4) 4)) 4) 4) 4)
    ∷ give (local 1 5) 5 ∷ [])

-- 1 int main(void) {
-- 2 putchar((_Bool)256);
-- 3 putchar((char)200 < 0);
-- 4 putchar((short)65536 == 0);
-- 5 putchar((unsigned)-1 / 2147483648u);
-- 6 return (_Bool)256 + (unsigned char)-2;
-- 7 }
abbrev pub casts : Typed
casts = source 0
    (TypedStmt.Value (put (to type.Int (of type.Bool (TypedKind.Cast (base.Int type.Bool) (number 256 2)) 2) 2) 2)
    ∷ TypedStmt.Value (put (two op.Less (to type.Int (of type.Char (TypedKind.Cast (base.Int type.Char) (number 200 3))
    3) 3) (number 0 3) 3) 3)
    ∷ TypedStmt.Value (put (two op.Equal (to type.Int (of type.Short
    (TypedKind.Cast (base.Int type.Short) (number 65536 4)) 4) 4) (number 0 4) 4) 4)
    ∷ TypedStmt.Value (put (to type.Int (of type.UnsignedInt
    (TypedKind.Binary op.Div (of type.UnsignedInt (TypedKind.Cast (base.Int type.UnsignedInt)
    (at (TypedKind.Minus (number 1 5)) 5)) 5) (of type.UnsignedInt
    (TypedKind.Number (pos 2147483648) type.UnsignedInt) 5)) 5) 5) 5)
    ∷ give (two op.Add (to type.Int (of type.Bool (TypedKind.Cast (base.Int type.Bool) (number 256 6)) 6) 6)
    (to type.Int (of type.UnsignedChar (TypedKind.Cast (base.Int type.UnsignedChar)
    (at (TypedKind.Minus (number 2 6)) 6)) 6) 6) 6) 6 ∷ [])

-- 1 char g[2] = {-56};
-- 2 int main(void) {
-- 3 unsigned char a[3] = {300, 255};
-- 4 _Bool b[2] = {5, 0};
-- 5 a[2] = a[0] + a[1] + 1;
-- 6 putchar(a[0]); putchar(++a[1]); putchar(a[2]);
-- 7 putchar(b[0]); putchar(b[1] = 9); putchar(b[1]--); putchar(b[1]);
-- 8 g[1] = 130;
-- 9 g[0] += g[1];
-- 10 return g[0] + g[1];
-- 11 }
abbrev pub other_elements : Typed
other_elements = program 0 (negsuc 55 ∷ pos 0 ∷ [])
    (function (codes "main") 2 int [] 5
    (declare (array_of type.UnsignedChar 0 3 (TypedInit.Several
    ((to type.UnsignedChar (number 300 3) 3) ∷ (to type.UnsignedChar (number 255 3) 3) ∷ [])) 3 ∷ [])
    ∷ declare (array_of type.Bool 3 2 (TypedInit.Several
    ((to type.Bool (number 5 4) 4) ∷ (to type.Bool (number 0 4) 4) ∷ [])) 4 ∷ [])
    ∷ TypedStmt.Value (of type.UnsignedChar (TypedKind.Assign None
    (of type.UnsignedChar (TypedKind.Index (cell.Local 0) 3 0 5 (number 2 5)) 5)
    (to type.UnsignedChar (two op.Add (two op.Add (to type.Int
    (of type.UnsignedChar (TypedKind.Index (cell.Local 0) 3 0 5 (number 0 5)) 5) 5)
    (to type.Int (of type.UnsignedChar (TypedKind.Index (cell.Local 0) 3 0 5 (number 1 5)) 5) 5) 5) (number 1 5) 5)
    5)) 5)
    ∷ TypedStmt.Value (put (to type.Int (of type.UnsignedChar (TypedKind.Index (cell.Local 0) 3 0 6 (number 0 6)) 6) 6)
    6)
    ∷ TypedStmt.Value (put (to type.Int (of type.UnsignedChar
    (TypedKind.Before op.Add (of type.UnsignedChar (TypedKind.Index (cell.Local 0) 3 0 6 (number 1 6)) 6)) 6) 6) 6)
    ∷ TypedStmt.Value (put (to type.Int (of type.UnsignedChar (TypedKind.Index (cell.Local 0) 3 0 6 (number 2 6)) 6) 6)
    6)
    ∷ TypedStmt.Value (put (to type.Int (of type.Bool (TypedKind.Index (cell.Local 3) 2 0 7 (number 0 7)) 7) 7) 7)
    ∷ TypedStmt.Value (put (to type.Int (of type.Bool (TypedKind.Assign None
    (of type.Bool (TypedKind.Index (cell.Local 3) 2 0 7 (number 1 7)) 7) (to type.Bool (number 9 7) 7)) 7) 7) 7)
    ∷ TypedStmt.Value (put (to type.Int (of type.Bool (TypedKind.After op.Sub
    (of type.Bool (TypedKind.Index (cell.Local 3) 2 0 7 (number 1 7)) 7)) 7) 7) 7)
    ∷ TypedStmt.Value (put (to type.Int (of type.Bool (TypedKind.Index (cell.Local 3) 2 0 7 (number 1 7)) 7) 7) 7)
    ∷ TypedStmt.Value (of type.Char (TypedKind.Assign None
    (of type.Char (TypedKind.Index (cell.Global 0) 2 0 8 (number 1 8)) 8) (to type.Char (number 130 8) 8)) 8)
    ∷ TypedStmt.Value (of type.Char (TypedKind.Assign (Some op.Add)
    (of type.Char (TypedKind.Index (cell.Global 0) 2 0 9 (number 0 9)) 9)
    (to type.Int (of type.Char (TypedKind.Index (cell.Global 0) 2 0 9 (number 1 9)) 9) 9)) 9)
    ∷ give (two op.Add (to type.Int (of type.Char (TypedKind.Index (cell.Global 0) 2 0 10 (number 0 10)) 10) 10)
    (to type.Int (of type.Char (TypedKind.Index (cell.Global 0) 2 0 10 (number 1 10)) 10) 10) 10) 10 ∷ []) ∷ [])

-- 1 unsigned char u = 250;
-- 2 long l = -3;
-- 3 int main(void) {
-- 4 u += 10;
-- 5 l *= 4294967296;
-- 6 putchar(u--);
-- 7 putchar(u);
-- 8 return l / 1073741824 == -12;
-- 9 }
abbrev pub other_globals : Typed
other_globals = program 0 (pos 250 ∷ negsuc 2 ∷ [])
    (function (codes "main") 3 int [] 0
    (TypedStmt.Value (of type.UnsignedChar (TypedKind.Assign (Some op.Add)
    (of type.UnsignedChar (TypedKind.Name (cell.Global 0)) 4) (number 10 4)) 4)
    ∷ TypedStmt.Value (of type.Long (TypedKind.Assign (Some op.Mul) (of type.Long (TypedKind.Name (cell.Global 1)) 5)
    (of type.Long (TypedKind.Number (pos 4294967296) type.Long) 5)) 5)
    ∷ TypedStmt.Value (put (to type.Int (of type.UnsignedChar
    (TypedKind.After op.Sub (of type.UnsignedChar (TypedKind.Name (cell.Global 0)) 6)) 6) 6) 6)
    ∷ TypedStmt.Value (put (to type.Int (of type.UnsignedChar (TypedKind.Name (cell.Global 0)) 7) 7) 7)
    ∷ give (two op.Equal (of type.Long (TypedKind.Binary op.Div (of type.Long (TypedKind.Name (cell.Global 1)) 8)
    (to type.Long (number 1073741824 8) 8)) 8) (to type.Long (at (TypedKind.Minus (number 12 8)) 8) 8) 8) 8 ∷ []) ∷
    [])

-- 1 char f(long a, unsigned char b) { return a + b; }
-- 2 int main(void) {
-- 3 return f(-1, 513);
-- 4 }
abbrev pub converts_arguments : Typed
converts_arguments = program 1 []
    (function (codes "f") 1 (base.Int type.Char) (type.Long ∷ type.UnsignedChar ∷ []) 2
    (give (to type.Char (of type.Long (TypedKind.Binary op.Add (cell_of type.Long 0 1)
    (to type.Long (cell_of type.UnsignedChar 1 1) 1)) 1) 1) 1 ∷ [])
    ∷ function (codes "main") 2 int [] 0
    (give (to type.Int (of type.Char (TypedKind.Call (callee.Function 0)
    (TypedExprs.More (to type.Long (at (TypedKind.Minus (number 1 3)) 3) 3)
    (one_arg (to type.UnsignedChar (number 513 3) 3)))) 3) 3) 3 ∷ []) ∷ [])

-- 1 char f(int n) { return n; }
-- 2 unsigned char g(int n) { return n; }
-- 3 _Bool h(int n) { return n; }
-- 4 long k(int n) { return n; }
-- 5 int main(void) {
-- 6 putchar(f(200) == -56);
-- 7 putchar(g(456));
-- 8 putchar(h(2));
-- 9 return k(-1) + 2147483648 == 2147483647;
-- 10 }
abbrev pub converts_results : Typed
converts_results = program 4 []
    (function (codes "f") 1 (base.Int type.Char) (type.Int ∷ []) 1
    (give (to type.Char (local 0 1) 1) 1 ∷ [])
    ∷ function (codes "g") 2 (base.Int type.UnsignedChar) (type.Int ∷ []) 1
    (give (to type.UnsignedChar (local 0 2) 2) 2 ∷ [])
    ∷ function (codes "h") 3 (base.Int type.Bool) (type.Int ∷ []) 1
    (give (to type.Bool (local 0 3) 3) 3 ∷ [])
    ∷ function (codes "k") 4 (base.Int type.Long) (type.Int ∷ []) 1
    (give (to type.Long (local 0 4) 4) 4 ∷ [])
    ∷ function (codes "main") 5 int [] 0
    (TypedStmt.Value (put (two op.Equal (to type.Int (of type.Char
    (TypedKind.Call (callee.Function 0) (one_arg (number 200 6))) 6) 6) (at (TypedKind.Minus (number 56 6)) 6) 6) 6)
    ∷ TypedStmt.Value (put (to type.Int (of type.UnsignedChar
    (TypedKind.Call (callee.Function 1) (one_arg (number 456 7))) 7) 7) 7)
    ∷ TypedStmt.Value (put (to type.Int (of type.Bool (TypedKind.Call (callee.Function 2) (one_arg (number 2 8))) 8) 8)
    8)
    ∷ give (two op.Equal (of type.Long (TypedKind.Binary op.Add
    (of type.Long (TypedKind.Call (callee.Function 3) (one_arg (at (TypedKind.Minus (number 1 9)) 9))) 9)
    (of type.Long (TypedKind.Number (pos 2147483648) type.Long) 9)) 9) (to type.Long (number 2147483647 9) 9) 9) 9
    ∷ []) ∷ [])

-- 1 int main(void) {
-- 2 int c = 1;
-- 3 putchar((c ? -1 : 1u) > 0);
-- 4 putchar((c ? -1 : 1L) > 0);
-- 5 putchar((!c ? 1ul : -1) == 18446744073709551615u);
-- 6 return 0;
-- 7 }
abbrev pub converts_choices : Typed
converts_choices = source 1
    (declare (var 0 (TypedInit.One (number 1 2)) 2 ∷ [])
    ∷ TypedStmt.Value (put (two op.Greater (of type.UnsignedInt
    (TypedKind.Choose (local 0 3) (to type.UnsignedInt (at (TypedKind.Minus (number 1 3)) 3) 3)
    (of type.UnsignedInt (TypedKind.Number (pos 1) type.UnsignedInt) 3)) 3) (to type.UnsignedInt (number 0 3) 3) 3)
    3)
    ∷ TypedStmt.Value (put (two op.Greater (of type.Long
    (TypedKind.Choose (local 0 4) (to type.Long (at (TypedKind.Minus (number 1 4)) 4) 4)
    (of type.Long (TypedKind.Number (pos 1) type.Long) 4)) 4) (to type.Long (number 0 4) 4) 4) 4)
    ∷ TypedStmt.Value (put (two op.Equal (of type.UnsignedLong
    (TypedKind.Choose (at (TypedKind.Not (local 0 5)) 5)
    (of type.UnsignedLong (TypedKind.Number (pos 1) type.UnsignedLong) 5)
    (to type.UnsignedLong (at (TypedKind.Minus (number 1 5)) 5) 5)) 5)
    (of type.UnsignedLong (TypedKind.Number (pos 18446744073709551615) type.UnsignedLong) 5) 5) 5)
    ∷ give (number 0 6) 6 ∷ [])
