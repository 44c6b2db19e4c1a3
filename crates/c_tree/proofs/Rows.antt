-- Worked typed sources are sound, and one that breaks outside a loop is not.
use Rattle.std.proofs.Common.{rules, arith, ◌≡◌, refl, ℕ, ◌+◌, ◌≤◌, ◌<◌, ◌==◌, cond, pos, ℤ, List, [], ◌∷◌, ap, get_or, Option, Some, None, Bool, true, false, suc, zero}
use Rattle.std.specs.Prelude.{codes, slice_get}
use Rattle.std.proofs.lemmas.Int.{ints}
use Rattle.int_ops.specs.Ranges.{Range}
use Rattle.int_ops.specs.declared.types.IntType.{IntType}
use Rattle.int_ops.specs.declared.types.IntType.TheVariants as type
use Rattle.int_ops.specs.declared.operators.BinOp.TheVariants as op
use Rattle.c_tree.specs.declared.expr.Base.{Base}
use Rattle.c_tree.specs.declared.expr.Base.TheVariants as base
use Rattle.c_tree.specs.declared.typed_expr.CellAt.TheVariants as cell
use Rattle.c_tree.specs.declared.typed_expr.Callee.TheVariants as callee
use Rattle.c_tree.specs.TypedExpr.{TypedExpr, TypedKind, TypedExprs}
use Rattle.c_tree.specs.TypedStmt.{TypedInit, TypedVar, TypedStmt, OtherTyped, TypedForHead, TypedStmts}
use Rattle.c_tree.specs.Typed.{TypedFunction, Typed}
use Rattle.c_tree.specs.Levels.{source_levels}
use Rattle.c_tree.specs.Sound.{Sound, SoundFunction, IsLine, AllDiffer, names, standing}

abbrev pub int : Base
int = base.Int type.Int

abbrev pub char : Base
char = base.Int type.Char

abbrev pub at : TypedKind → ℕ → TypedExpr
at kind line = TypedExpr.At kind int 0 line

abbrev pub char_at : TypedKind → ℕ → TypedExpr
char_at kind line = TypedExpr.At kind char 0 line

abbrev pub number : ℕ → ℕ → TypedExpr
number n line = at (TypedKind.Number (pos n) type.Int) line

abbrev pub local : ℕ → ℕ → TypedExpr
local c line = at (TypedKind.Name (cell.Local c)) line

abbrev pub var : ℕ → IntType → Option ℕ → TypedInit → ℕ → TypedVar
var c t n init line = record { cell = c; number_type = t; length = n; init = init; place = 0; line = line }

-- int main(void) { int n = 0; while (getchar() == 'a') n++; return n; } on the lines 1 to 5
abbrev counts : TypedStmts
counts =
    TypedStmts.More (TypedStmt.Vars (var 0 type.Int None (TypedInit.One (number 0 2)) 2 ∷ []))
    (TypedStmts.More (TypedStmt.While (at (TypedKind.Binary op.Equal (at (TypedKind.Call callee.GetChar TypedExprs.End) 3) (number 97 3)) 3)
    (TypedStmt.Value (at (TypedKind.After op.Add (local 0 4)) 4)))
    (TypedStmts.More (TypedStmt.Return (Some (local 0 5)) 0 5) TypedStmts.End))

abbrev pub main_with : TypedStmts → ℕ → TypedFunction
main_with body cells = record { name = codes "main"; line = 1; result = int; params = []; cells = cells; body = body }

abbrev pub source_over : List ℤ → TypedStmts → ℕ → Typed
source_over globals body cells = record { functions = main_with body cells ∷ []; globals = globals; main = 0 }

abbrev pub source_with : TypedStmts → ℕ → Typed
source_with body cells = source_over [] body cells

levels_of_it : source_levels (source_with counts 1) ≡ 4
levels_of_it = refl

line : (n : ℕ) → 1 ≤ n → n ≤ 1048577 → IsLine n
line n first last = record { first = first; last = last }

differ : (a b : ℕ) (xs ys : List ℕ) → (a ≡ b → ⊥) → a ∷ xs ≡ b ∷ ys → ⊥
differ a b xs ys apart e = apart (ap (λ l. get_or l 0 0) e)

apart : (a b : ℕ) → a < b → a ≡ b → ⊥
apart a b less e = omega arith

apart_down : (a b : ℕ) → b < a → a ≡ b → ⊥
apart_down a b more e = omega arith

in_int : (n : ℕ) → n < 2147483648 → Range type.Int (pos n)
in_int n less = (omega (arith, ints), omega (arith, ints))

-- the one cell from c on has the type of c
one_cell : (types : ℕ → IntType) (c : ℕ) (k : ℕ) → k < 1 → types (c + k) ≡ types c
one_cell types c k less =
    let e : c + k ≡ c = omega arith in
    ap types e

function_is_sound : SoundFunction (main_with counts 1 ∷ []) [] (λ k. type.Int) 0 (main_with counts 1)
function_is_sound = record {
  name = (refl, (refl, (refl, (refl, tt))));
  line = line 1 (omega arith) (omega arith);
  params = omega arith;
  local_types = λ k. type.Int;
  param_types = λ k t e. search rules;
  cells = (refl, refl);
  body = (
    (omega arith, (record { line = line 2 (omega arith) (omega arith); long = record { some = omega arith; most = omega arith }; cells = (omega arith, one_cell (λ k. type.Int) 0); init = (refl, (line 2 (omega arith) (omega arith), tt, (refl, in_int 0 (omega arith)))) }, tt)),
    (
      (
        ((type.Int, refl), tt, (line 3 (omega arith) (omega arith), tt, ((refl, (type.Int, refl, refl), refl), (line 3 (omega arith) (omega arith), tt, ((refl, refl), tt)), (line 3 (omega arith) (omega arith), tt, (refl, in_int 97 (omega arith)))))),
        (tt, (line 4 (omega arith) (omega arith), tt, (tt, tt, refl, (line 4 (omega arith) (omega arith), tt, ((0, omega arith, refl), (type.Int, refl, (omega arith, one_cell (λ k. type.Int) 0))))))),
      ),
      (((line 5 (omega arith) (omega arith)), ((type.Int, refl), refl, (line 5 (omega arith) (omega arith), tt, ((0, omega arith, refl), (type.Int, refl, (omega arith, one_cell (λ k. type.Int) 0)))))), tt),
    ),
  );
}

names_of_main : (body : TypedStmts) (cells : ℕ) → AllDiffer (names (main_with body cells ∷ []))
names_of_main body cells = (
  (differ 103 112 _ _ (apart 103 112 (omega arith)), (differ 103 101 _ _ (apart_down 103 101 (omega arith)), (differ 103 109 _ _ (apart 103 109 (omega arith)), tt))),
  (
    (differ 112 101 _ _ (apart_down 112 101 (omega arith)), (differ 112 109 _ _ (apart_down 112 109 (omega arith)), tt)),
    ((differ 101 109 _ _ (apart 101 109 (omega arith)), tt), (tt, tt)),
  ),
)

is_sound : Sound (source_with counts 1)
is_sound = record {
  global_lengths = [];
  long = tt;
  filled = refl;
  global_types = λ k. type.Int;
  globals = λ k n e. search rules;
  functions = (function_is_sound, tt);
  names = names_of_main counts 1;
  main = (main_with counts 1, refl, record { name = refl; result = refl; params = refl });
  levels = omega arith;
}

-- char a[2]; int main(void) { for (int i = 0; i < 2; i++) { char c = i; a[i] = c; } return a[1]; } on the lines 1 to 8
abbrev fills : TypedStmts
fills =
    TypedStmts.More (TypedStmt.For
    (TypedForHead.Head (OtherTyped.There (TypedStmt.Vars (var 0 type.Int None (TypedInit.One (number 0 3)) 3 ∷ [])))
    (Some (at (TypedKind.Binary op.Less (local 0 3) (number 2 3)) 3)) (Some (at (TypedKind.After op.Add (local 0 3)) 3)))
    (TypedStmt.Block
    (TypedStmts.More (TypedStmt.Vars (var 1 type.Char None (TypedInit.One (char_at (TypedKind.Convert (local 0 4)) 4)) 4 ∷ []))
    (TypedStmts.More (TypedStmt.Value (char_at (TypedKind.Assign None (char_at (TypedKind.Index (cell.Global 0) 2 0 5 (local 0 5)) 5) (char_at (TypedKind.Name (cell.Local 1)) 5)) 5))
    TypedStmts.End))))
    (TypedStmts.More (TypedStmt.Return (Some (at (TypedKind.Convert (char_at (TypedKind.Index (cell.Global 0) 2 0 7 (number 1 7)) 7)) 7)) 0 7) TypedStmts.End)

-- the types of its local cells
abbrev types : ℕ → IntType
types k = cond (k == 0) type.Int type.Char

int_char : int ≡ char → ⊥
int_char e = cc

char_int : char ≡ int → ⊥
char_int e = cc

zero_in_char : (n : ℤ) → ◌≡◌ {A = Option ℤ} (Some (pos 0)) (Some n) → Range type.Char n
zero_in_char n e =
    let same : n ≡ pos 0 = cc in
    rw same (omega (arith, ints), omega (arith, ints))

zeros : (k : ℕ) (n : ℤ) → slice_get (pos 0 ∷ pos 0 ∷ []) k ≡ Some n → Range type.Char n
zeros zero n e = zero_in_char n e
zeros (suc zero) n e = zero_in_char n e
zeros (suc (suc k)) n e =
    let none : ◌≡◌ {A = Option ℤ} None (Some n) = e in absurd (cc)

filler_is_sound : SoundFunction (main_with fills 2 ∷ []) (standing cell.Global 0 (Some 2 ∷ [])) (λ k. type.Char) 2 (main_with fills 2)
filler_is_sound = record {
  name = (refl, (refl, (refl, (refl, tt))));
  line = line 1 (omega arith) (omega arith);
  params = omega arith;
  local_types = types;
  param_types = λ k t e. search rules;
  cells = (refl, (refl, refl));
  body = (
    (
      (
        tt,
        (omega arith, (record { line = line 3 (omega arith) (omega arith); long = record { some = omega arith; most = omega arith }; cells = (omega arith, one_cell types 0); init = (refl, (line 3 (omega arith) (omega arith), tt, (refl, in_int 0 (omega arith)))) }, tt)),
        ((type.Int, refl), tt, (line 3 (omega arith) (omega arith), tt, ((refl, (type.Int, refl, refl), refl), (line 3 (omega arith) (omega arith), tt, ((0, omega arith, refl), (type.Int, refl, (omega arith, one_cell types 0)))), (line 3 (omega arith) (omega arith), tt, (refl, in_int 2 (omega arith)))))),
        (tt, (line 3 (omega arith) (omega arith), tt, (tt, tt, refl, (line 3 (omega arith) (omega arith), tt, ((0, omega arith, refl), (type.Int, refl, (omega arith, one_cell types 0))))))),
      ),
      (
        (omega arith, (record { line = line 4 (omega arith) (omega arith); long = record { some = omega arith; most = omega arith }; cells = (omega arith, one_cell types 1); init = (refl, (line 4 (omega arith) (omega arith), (refl, refl), ((type.Char, refl), (type.Int, refl), char_int, tt, (line 4 (omega arith) (omega arith), tt, ((1, omega arith, refl), (type.Int, refl, (omega arith, one_cell types 0))))))) }, tt)),
        (
          (tt, (line 5 (omega arith) (omega arith), tt, (tt, refl, refl, (line 5 (omega arith) (omega arith), tt, (line 5 (omega arith) (omega arith), record { some = omega arith; most = omega arith }, ((2, omega arith, refl), (type.Char, refl, (omega arith, λ k less. refl))), (type.Int, refl), tt, (line 5 (omega arith) (omega arith), tt, ((1, omega arith, refl), (type.Int, refl, (omega arith, one_cell types 0)))))), (line 5 (omega arith) (omega arith), tt, ((0, omega arith, refl), (type.Char, refl, (omega arith, one_cell types 1))))))),
          tt,
        ),
      ),
    ),
    ((line 7 (omega arith) (omega arith), ((type.Int, refl), refl, (line 7 (omega arith) (omega arith), (refl, refl), ((type.Int, refl), (type.Char, refl), int_char, tt, (line 7 (omega arith) (omega arith), tt, (line 7 (omega arith) (omega arith), record { some = omega arith; most = omega arith }, ((0, omega arith, refl), (type.Char, refl, (omega arith, λ k less. refl))), (type.Int, refl), tt, (line 7 (omega arith) (omega arith), tt, (refl, in_int 1 (omega arith))))))))), tt),
  );
}

filler_sound : Sound (source_over (pos 0 ∷ pos 0 ∷ []) fills 2)
filler_sound = record {
  global_lengths = Some 2 ∷ [];
  long = (record { some = omega arith; most = omega arith }, tt);
  filled = refl;
  global_types = λ k. type.Char;
  globals = zeros;
  functions = (filler_is_sound, tt);
  names = names_of_main fills 2;
  main = (main_with fills 2, refl, record { name = refl; result = refl; params = refl });
  levels = omega arith;
}

-- int main(void) { break; }
abbrev breaks : TypedStmts
breaks = TypedStmts.More (TypedStmt.Break 17 1) TypedStmts.End

is_not_sound : Sound (source_with breaks 0) → ⊥
is_not_sound s = (let e : ◌≡◌ {A = Bool} false true = s.functions.0.body.0.0 in cc)
