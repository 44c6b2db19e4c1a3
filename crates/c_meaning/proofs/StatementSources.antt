-- Typed sources of statements: switches and loops of all kinds. Each has its text.
use Rattle.std.specs.Prelude.{pos, negsuc, [], ◌∷◌, Some, None, codes}
use Rattle.int_ops.specs.declared.types.IntType.TheVariants as type
use Rattle.int_ops.specs.declared.operators.BinOp.TheVariants as op
use Rattle.c_tree.specs.declared.expr.Base.TheVariants as base
use Rattle.c_tree.specs.declared.typed_expr.Callee.TheVariants as callee
use Rattle.c_tree.specs.TypedExpr.{TypedKind}
use Rattle.c_tree.specs.TypedStmt.{TypedInit, TypedStmt, OtherTyped, TypedForHead, TypedItem}
use Rattle.c_tree.specs.Typed.{Typed}
use Rattle.c_meaning.proofs.Sources.{
  int,
  at,
  number,
  local,
  global,
  two,
  set,
  up,
  calls,
  get,
  one_arg,
  put,
  list,
  items,
  var,
  declare,
  give,
  no_else,
  function,
  source,
  program,
  at_void,
}

-- 1 int main(void) {
-- 2 switch (getchar()) {
-- 3 default: putchar('x');
-- 4 case 1: putchar('1'); break;
-- 5 case -1: putchar('-');
-- 6 }
-- 7 return 0;
-- 8 }
abbrev pub default_first : Typed
default_first = source 0
    (TypedStmt.Switch (get 2) (items (TypedItem.Default 0
    ∷ TypedItem.Item (TypedStmt.Value (put (number 120 3) 3))
    ∷ TypedItem.Case (pos 1) 0
    ∷ TypedItem.Item (TypedStmt.Value (put (number 49 4) 4))
    ∷ TypedItem.Item (TypedStmt.Break 0 4)
    ∷ TypedItem.Case (negsuc 0) 0
    ∷ TypedItem.Item (TypedStmt.Value (put (number 45 5) 5)) ∷ []))
    ∷ give (number 0 7) 7 ∷ [])

-- 1 int main(void) {
-- 2 switch (getchar()) {
-- 3 putchar('X');
-- 4 case 1: putchar('1');
-- 5 case 2: putchar('2');
-- 6 }
-- 7 return 7;
-- 8 }
abbrev pub no_default : Typed
no_default = source 0
    (TypedStmt.Switch (get 2) (items (TypedItem.Item (TypedStmt.Value (put (number 88 3) 3))
    ∷ TypedItem.Case (pos 1) 0
    ∷ TypedItem.Item (TypedStmt.Value (put (number 49 4) 4))
    ∷ TypedItem.Case (pos 2) 0
    ∷ TypedItem.Item (TypedStmt.Value (put (number 50 5) 5)) ∷ []))
    ∷ give (number 7 7) 7 ∷ [])

-- 1 int main(void) {
-- 2 switch (putchar('e')) {
-- 3 }
-- 4 return 7;
-- 5 }
abbrev pub empty_switch : Typed
empty_switch = source 0
    (TypedStmt.Switch (put (number 101 2) 2) (items [])
    ∷ give (number 7 4) 4 ∷ [])

-- 1 int main(void) {
-- 2 switch (1) {
-- 3 putchar('X');
-- 4 default: putchar('x');
-- 5 }
-- 6 return 7;
-- 7 }
abbrev pub only_a_default : Typed
only_a_default = source 0
    (TypedStmt.Switch (number 1 2) (items (TypedItem.Item (TypedStmt.Value (put (number 88 3) 3))
    ∷ TypedItem.Default 0
    ∷ TypedItem.Item (TypedStmt.Value (put (number 120 4) 4)) ∷ []))
    ∷ give (number 7 6) 6 ∷ [])

-- 1 int main(void) {
-- 2 int i = 0;
-- 3 while (i < 3) {
-- 4 switch (i++) {
-- 5 case 0: continue;
-- 6 case 1: break;
-- 7 default: putchar('d');
-- 8 }
-- 9 putchar('.');
-- 10 }
-- 11 return i;
-- 12 }
abbrev pub switch_in_a_while : Typed
switch_in_a_while = source 1
    (declare (var 0 (TypedInit.One (number 0 2)) 2 ∷ [])
    ∷ TypedStmt.While (two op.Less (local 0 3) (number 3 3) 3)
    (TypedStmt.Block (list (TypedStmt.Switch (up (local 0 4) 4) (items (TypedItem.Case (pos 0) 0
    ∷ TypedItem.Item (TypedStmt.Continue 0 5)
    ∷ TypedItem.Case (pos 1) 0
    ∷ TypedItem.Item (TypedStmt.Break 0 6)
    ∷ TypedItem.Default 0
    ∷ TypedItem.Item (TypedStmt.Value (put (number 100 7) 7)) ∷ []))
    ∷ TypedStmt.Value (put (number 46 9) 9) ∷ [])))
    ∷ give (local 0 11) 11 ∷ [])

-- 1 int main(void) {
-- 2 int i;
-- 3 for (i = 0; i < 3; i++)
-- 4 switch (i) {
-- 5 case 1: continue;
-- 6 default: putchar('0' + i);
-- 7 }
-- 8 return i;
-- 9 }
abbrev pub switch_in_a_for : Typed
switch_in_a_for = source 1
    (declare (var 0 TypedInit.Absent 2 ∷ [])
    ∷ TypedStmt.For (TypedForHead.Head (OtherTyped.There (TypedStmt.Value (set (local 0 3) (number 0 3) 3)))
    (Some (two op.Less (local 0 3) (number 3 3) 3)) (Some (up (local 0 3) 3)))
    (TypedStmt.Switch (local 0 4) (items (TypedItem.Case (pos 1) 0
    ∷ TypedItem.Item (TypedStmt.Continue 0 5)
    ∷ TypedItem.Default 0
    ∷ TypedItem.Item (TypedStmt.Value (put (two op.Add (number 48 6) (local 0 6) 6) 6)) ∷ [])))
    ∷ give (local 0 8) 8 ∷ [])

-- 1 int main(void) {
-- 2 int i = 0;
-- 3 do
-- 4 switch (i) {
-- 5 case 0: i = 5; continue;
-- 6 case 5: i = 0; break;
-- 7 }
-- 8 while (i);
-- 9 return 9;
-- 10 }
abbrev pub switch_in_a_do : Typed
switch_in_a_do = source 1
    (declare (var 0 (TypedInit.One (number 0 2)) 2 ∷ [])
    ∷ TypedStmt.DoWhile (TypedStmt.Switch (local 0 4) (items (TypedItem.Case (pos 0) 0
    ∷ TypedItem.Item (TypedStmt.Value (set (local 0 5) (number 5 5) 5))
    ∷ TypedItem.Item (TypedStmt.Continue 0 5)
    ∷ TypedItem.Case (pos 5) 0
    ∷ TypedItem.Item (TypedStmt.Value (set (local 0 6) (number 0 6) 6))
    ∷ TypedItem.Item (TypedStmt.Break 0 6) ∷ []))) (local 0 8) 8
    ∷ give (number 9 9) 9 ∷ [])

-- 1 int main(void) {
-- 2 switch (1) {
-- 3 case 1:
-- 4 for (;;) break;
-- 5 putchar('a');
-- 6 switch (2) { case 2: break; }
-- 7 putchar('b');
-- 8 break;
-- 9 putchar('c');
-- 10 }
-- 11 return 0;
-- 12 }
abbrev pub inside_a_switch : Typed
inside_a_switch = source 0
    (TypedStmt.Switch (number 1 2) (items (TypedItem.Case (pos 1) 0
    ∷ TypedItem.Item (TypedStmt.For (TypedForHead.Head no_else None None)
    (TypedStmt.Break 0 4))
    ∷ TypedItem.Item (TypedStmt.Value (put (number 97 5) 5))
    ∷ TypedItem.Item (TypedStmt.Switch (number 2 6) (items (TypedItem.Case (pos 2) 0
    ∷ TypedItem.Item (TypedStmt.Break 0 6) ∷ [])))
    ∷ TypedItem.Item (TypedStmt.Value (put (number 98 7) 7))
    ∷ TypedItem.Item (TypedStmt.Break 0 8)
    ∷ TypedItem.Item (TypedStmt.Value (put (number 99 9) 9)) ∷ []))
    ∷ give (number 0 11) 11 ∷ [])

-- 1 int main(void) {
-- 2 switch (2) {
-- 3 case 1: ;
-- 4 int x = 9;
-- 5 case 2: return x;
-- 6 }
-- 7 }
abbrev pub jumps_over : Typed
jumps_over = source 1
    (TypedStmt.Switch (number 2 2) (items (TypedItem.Case (pos 1) 0
    ∷ TypedItem.Item TypedStmt.Empty
    ∷ TypedItem.Item (declare (var 0 (TypedInit.One (number 9 4)) 4 ∷ []))
    ∷ TypedItem.Case (pos 2) 0
    ∷ TypedItem.Item (give (local 0 5) 5) ∷ [])) ∷ [])

-- 1 int main(void) {
-- 2 for (;;)
-- 3 switch (1) {
-- 4 default: do return 8; while (1);
-- 5 }
-- 6 }
abbrev pub return_from_within : Typed
return_from_within = source 0
    (TypedStmt.For (TypedForHead.Head no_else None None)
    (TypedStmt.Switch (number 1 3) (items (TypedItem.Default 0
    ∷ TypedItem.Item (TypedStmt.DoWhile (give (number 8 4) 4) (number 1 4) 4) ∷ []))) ∷ [])

-- 1 void f(int n) {
-- 2 switch (n) {
-- 3 case 0: return;
-- 4 case 1: if (n) break;
-- 5 case 2: putchar('2');
-- 6 }
-- 7 putchar('e');
-- 8 }
-- 9 int main(void) {
-- 10 f(0); f(1); f(2);
-- 11 }
abbrev pub case_in_a_call : Typed
case_in_a_call = program 1 []
    (function (codes "f") 1 base.Void (type.Int ∷ []) 1
    (TypedStmt.Switch (local 0 2) (items (TypedItem.Case (pos 0) 0
    ∷ TypedItem.Item (TypedStmt.Return None 0 3)
    ∷ TypedItem.Case (pos 1) 0
    ∷ TypedItem.Item (TypedStmt.If (local 0 4) (TypedStmt.Break 0 4) no_else)
    ∷ TypedItem.Case (pos 2) 0
    ∷ TypedItem.Item (TypedStmt.Value (put (number 50 5) 5)) ∷ []))
    ∷ TypedStmt.Value (put (number 101 7) 7) ∷ [])
    ∷ function (codes "main") 9 int [] 0
    (TypedStmt.Value (at_void (TypedKind.Call (callee.Function 0) (one_arg (number 0 10))) 10)
    ∷ TypedStmt.Value (at_void (TypedKind.Call (callee.Function 0) (one_arg (number 1 10))) 10)
    ∷ TypedStmt.Value (at_void (TypedKind.Call (callee.Function 0) (one_arg (number 2 10))) 10) ∷ []) ∷ [])

-- 1 int main(void) {
-- 2 do continue; while (0);
-- 3 return 2;
-- 4 }
abbrev pub continue_in_a_do : Typed
continue_in_a_do = source 0
    (TypedStmt.DoWhile (TypedStmt.Continue 0 2) (number 0 2) 2
    ∷ give (number 2 3) 3 ∷ [])

-- 1 int main(void) {
-- 2 int n = 5;
-- 3 for (int i = 0, k = 3; i < k; i++) {
-- 4 if (i == 1) continue;
-- 5 putchar('0' + i);
-- 6 }
-- 7 return n;
-- 8 }
abbrev pub for_with_a_declaration : Typed
for_with_a_declaration = source 3
    (declare (var 0 (TypedInit.One (number 5 2)) 2 ∷ [])
    ∷ TypedStmt.For (TypedForHead.Head (OtherTyped.There
    (declare (var 1 (TypedInit.One (number 0 3)) 3 ∷ var 2 (TypedInit.One (number 3 3)) 3 ∷ [])))
    (Some (two op.Less (local 1 3) (local 2 3) 3)) (Some (up (local 1 3) 3)))
    (TypedStmt.Block (list (TypedStmt.If (two op.Equal (local 1 4) (number 1 4) 4) (TypedStmt.Continue 0 4) no_else
    ∷ TypedStmt.Value (put (two op.Add (number 48 5) (local 1 5) 5) 5) ∷ [])))
    ∷ give (local 0 7) 7 ∷ [])

-- 1 int main(void) {
-- 2 int c;
-- 3 while ((c = getchar()) != EOF) {
-- 4 if (c == 'a') continue;
-- 5 if (c == 'b') break;
-- 6 putchar(c);
-- 7 }
-- 8 return 0;
-- 9 }
abbrev pub while_with_all : Typed
while_with_all = source 1
    (declare (var 0 TypedInit.Absent 2 ∷ [])
    ∷ TypedStmt.While (two op.NotEqual (set (local 0 3) (get 3) 3) (at TypedKind.EofName 3) 3)
    (TypedStmt.Block (list (TypedStmt.If (two op.Equal (local 0 4) (number 97 4) 4) (TypedStmt.Continue 0 4) no_else
    ∷ TypedStmt.If (two op.Equal (local 0 5) (number 98 5) 5) (TypedStmt.Break 0 5) no_else
    ∷ TypedStmt.Value (put (local 0 6) 6) ∷ [])))
    ∷ give (number 0 8) 8 ∷ [])

-- 1 int main(void) {
-- 2 for (int i = 0; i < 2; i++)
-- 3 for (int j = 0; ; j++)
-- 4 if (j > i) break; else putchar('*');
-- 5 }
abbrev pub for_in_a_for : Typed
for_in_a_for = source 2
    (TypedStmt.For (TypedForHead.Head (OtherTyped.There (declare (var 0 (TypedInit.One (number 0 2)) 2 ∷ [])))
    (Some (two op.Less (local 0 2) (number 2 2) 2)) (Some (up (local 0 2) 2)))
    (TypedStmt.For (TypedForHead.Head (OtherTyped.There (declare (var 1 (TypedInit.One (number 0 3)) 3 ∷ []))) None
    (Some (up (local 1 3) 3)))
    (TypedStmt.If (two op.Greater (local 1 4) (local 0 4) 4) (TypedStmt.Break 0 4)
    (OtherTyped.There (TypedStmt.Value (put (number 42 4) 4))))) ∷ [])

-- 1 int main(void) {
-- 2 int x = 1;
-- 3 { int x = 2; putchar(x); }
-- 4 for (int x = 3; x < 5; x++) { int x = 7; putchar(x); }
-- 5 return x;
-- 6 }
abbrev pub declares_in_blocks : Typed
declares_in_blocks = source 4
    (declare (var 0 (TypedInit.One (number 1 2)) 2 ∷ [])
    ∷ TypedStmt.Block (list (declare (var 1 (TypedInit.One (number 2 3)) 3 ∷ [])
    ∷ TypedStmt.Value (put (local 1 3) 3) ∷ []))
    ∷ TypedStmt.For (TypedForHead.Head (OtherTyped.There (declare (var 2 (TypedInit.One (number 3 4)) 4 ∷ [])))
    (Some (two op.Less (local 2 4) (number 5 4) 4)) (Some (up (local 2 4) 4)))
    (TypedStmt.Block (list (declare (var 3 (TypedInit.One (number 7 4)) 4 ∷ [])
    ∷ TypedStmt.Value (put (local 3 4) 4) ∷ [])))
    ∷ give (local 0 5) 5 ∷ [])

-- 1 int main(void) {
-- 2 for (;; putchar('s')) ;
-- 3 }
abbrev pub steps_for_ever : Typed
steps_for_ever = source 0
    (TypedStmt.For (TypedForHead.Head no_else None (Some (put (number 115 2) 2)))
    TypedStmt.Empty ∷ [])

-- 1 int main(void) {
-- 2 do ; while (putchar('c'));
-- 3 }
abbrev pub tests_for_ever : Typed
tests_for_ever = source 0
    (TypedStmt.DoWhile TypedStmt.Empty (put (number 99 2) 2) 2 ∷ [])

-- 1 int main(void) {
-- 2 while (putchar('t')) putchar('b');
-- 3 }
abbrev pub body_for_ever : Typed
body_for_ever = source 0
    (TypedStmt.While (put (number 116 2) 2) (TypedStmt.Value (put (number 98 2) 2)) ∷ [])

-- 1 int main(void) {
-- 2 while (putchar('t')) continue;
-- 3 }
abbrev pub continues_for_ever : Typed
continues_for_ever = source 0
    (TypedStmt.While (put (number 116 2) 2) (TypedStmt.Continue 0 2) ∷ [])

-- 1 int main(void) {
-- 2 while (putchar('t')) break;
-- 3 return 1;
-- 4 }
abbrev pub breaks_a_while : Typed
breaks_a_while = source 0
    (TypedStmt.While (put (number 116 2) 2) (TypedStmt.Break 0 2)
    ∷ give (number 1 3) 3 ∷ [])

-- 1 int main(void) {
-- 2 do break; while (putchar('t'));
-- 3 return 1;
-- 4 }
abbrev pub breaks_a_do : Typed
breaks_a_do = source 0
    (TypedStmt.DoWhile (TypedStmt.Break 0 2) (put (number 116 2) 2) 2
    ∷ give (number 1 3) 3 ∷ [])

-- 1 int main(void) {
-- 2 int c = getchar();
-- 3 if (c <= 0) if (c != -1) return 1; else return 2;
-- 4 else { return 3; putchar('x'); }
-- 5 }
abbrev pub if_in_an_else : Typed
if_in_an_else = source 1
    (declare (var 0 (TypedInit.One (get 2)) 2 ∷ [])
    ∷ TypedStmt.If (two op.LessEqual (local 0 3) (number 0 3) 3)
    (TypedStmt.If (two op.NotEqual (local 0 3) (at (TypedKind.Minus (number 1 3)) 3) 3) (give (number 1 3) 3)
    (OtherTyped.There (give (number 2 3) 3))) (OtherTyped.There (TypedStmt.Block (list (give (number 3 4) 4
    ∷ TypedStmt.Value (put (number 120 4) 4) ∷ [])))) ∷ [])

-- 1 int lines, words;
-- 2 int blank(int c) {
-- 3 switch (c) {
-- 4 case ' ': case 10: case 9: return 1;
-- 5 default: return 0;
-- 6 }
-- 7 }
-- 8 void number(int n) {
-- 9 if (n >= 10) number(n / 10);
-- 10 putchar('0' + n % 10);
-- 11 }
-- 12 int main(void) {
-- 13 int c, inside = 0;
-- 14 while ((c = getchar()) != EOF) {
-- 15 if (c == 10) lines++;
-- 16 if (blank(c)) inside = 0;
-- 17 else if (!inside) { inside = 1; words++; }
-- 18 }
-- 19 number(lines);
-- 20 putchar(' ');
-- 21 number(words);
-- 22 return 0;
-- 23 }
abbrev pub counts_words : Typed
counts_words = program 2 (pos 0 ∷ pos 0 ∷ [])
    (function (codes "blank") 2 int (type.Int ∷ []) 1
    (TypedStmt.Switch (local 0 3) (items (TypedItem.Case (pos 32) 0
    ∷ TypedItem.Case (pos 10) 0
    ∷ TypedItem.Case (pos 9) 0
    ∷ TypedItem.Item (give (number 1 4) 4)
    ∷ TypedItem.Default 0
    ∷ TypedItem.Item (give (number 0 5) 5) ∷ [])) ∷ [])
    ∷ function (codes "number") 8 base.Void (type.Int ∷ []) 1
    (TypedStmt.If (two op.GreaterEqual (local 0 9) (number 10 9) 9)
    (TypedStmt.Value (at_void (TypedKind.Call (callee.Function 1)
    (one_arg (two op.Div (local 0 9) (number 10 9) 9))) 9)) no_else
    ∷ TypedStmt.Value (put (two op.Add (number 48 10) (two op.Rem (local 0 10) (number 10 10) 10) 10) 10) ∷ [])
    ∷ function (codes "main") 12 int [] 2
    (declare (var 0 TypedInit.Absent 13 ∷ var 1 (TypedInit.One (number 0 13)) 13 ∷ [])
    ∷ TypedStmt.While (two op.NotEqual (set (local 0 14) (get 14) 14) (at TypedKind.EofName 14) 14)
    (TypedStmt.Block (list (TypedStmt.If (two op.Equal (local 0 15) (number 10 15) 15)
    (TypedStmt.Value (up (global 0 15) 15)) no_else
    ∷ TypedStmt.If (calls (callee.Function 0) (one_arg (local 0 16)) 16)
    (TypedStmt.Value (set (local 1 16) (number 0 16) 16))
    (OtherTyped.There (TypedStmt.If (at (TypedKind.Not (local 1 17)) 17)
    (TypedStmt.Block (list (TypedStmt.Value (set (local 1 17) (number 1 17) 17)
    ∷ TypedStmt.Value (up (global 1 17) 17) ∷ []))) no_else)) ∷ [])))
    ∷ TypedStmt.Value (at_void (TypedKind.Call (callee.Function 1) (one_arg (global 0 19))) 19)
    ∷ TypedStmt.Value (put (number 32 20) 20)
    ∷ TypedStmt.Value (at_void (TypedKind.Call (callee.Function 1) (one_arg (global 1 21))) 21)
    ∷ give (number 0 22) 22 ∷ []) ∷ [])
