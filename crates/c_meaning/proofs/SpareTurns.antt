-- A run that isn't out of turns is the same with more turns.
use Rattle.std.proofs.Common.{
  ◌≡◌,
  ◌≢◌,
  refl,
  ℕ,
  zero,
  suc,
  ◌+◌,
  ◌-◌,
  Bool,
  true,
  false,
  cond,
  List,
  [],
  ◌∷◌,
  ◌++◌,
  length,
  Option,
  Some,
  None,
  Ok,
  Err,
  arith,
}
use Rattle.std.specs.Prelude.{ℤ, pos, negsuc, nat_lt, slice_get}
use Rattle.std.specs.Ordering.{int_eq}
use Rattle.int_ops.specs.declared.types.IntType.{IntType}
use Rattle.int_ops.specs.declared.types.IntType.TheVariants as type
use Rattle.int_ops.specs.declared.operators.UnOp.TheVariants as sign
use Rattle.int_ops.specs.Common.{common_type}
use Rattle.int_ops.specs.Apply.{Answer, binary, unary}
use Rattle.c_tree.specs.declared.expr.Base.TheVariants as base
use Rattle.c_tree.specs.declared.typed_expr.CellAt.{CellAt}
use Rattle.c_tree.specs.declared.typed_expr.CellAt.TheVariants as cell
use Rattle.c_tree.specs.declared.typed_expr.Callee.{Callee}
use Rattle.c_tree.specs.declared.typed_expr.Callee.TheVariants as callee
use Rattle.c_tree.specs.TypedExpr.{TypedExpr, TypedKind, TypedExprs}
use Rattle.c_tree.specs.TypedStmt.{
  TypedInit,
  TypedVar,
  TypedStmt,
  OtherTyped,
  TypedForHead,
  TypedStmts,
  TypedItem,
  TypedItems,
}
use Rattle.c_tree.specs.Typed.{TypedFunction, Typed}
use Rattle.c_tree.specs.TypedParts.{class, base_of, size}
use Rattle.stack_ops.specs.declared.endings.Outcome.TheVariants as outcome
use Rattle.c_meaning.specs.Meaning.{
  World,
  Run,
  Result,
  Gives,
  Stops,
  Flow,
  Falls,
  Breaks,
  Continues,
  Returns,
  Halts,
  Later,
  with_value,
  use_value,
  beyond,
  load,
  store,
  checked,
  answered,
  next_byte,
  put_byte,
  take_turn,
  back_in,
  call,
  eval,
  eval_kind,
  place,
  eval_all,
  fill,
  clear,
  start,
  then_on,
  start_all,
  after_body,
  caught,
  again,
  tested,
  stepped,
  has_case,
  has_default,
  returned,
  exec,
  exec_other,
  exec_all,
  exec_items,
  exec_item,
  exec_case,
  exec_default,
  gave,
  frame,
  run_body,
  later_at,
  final,
  meaning,
}
use Rattle.c_meaning.specs.Operands.{type_in, changing, conv_from}

-- so many turns more
abbrev raised : ℕ → ℕ → ℕ
raised more zero = more
raised more (suc t) = suc (raised more t)

-- what a run has, with so many turns more
abbrev richer : ℕ → World → World
richer more w = record w { turns = raised more w.turns }

-- What an expression comes to, and what it comes to with more turns: the same, and nothing is said where it is out of
-- turns without them.
data Same (more : ℕ) : Result → Result → Type 0 where
  gives : (v : ℤ) (w : World) → Same more (Gives v w) (Gives v (richer more w))
  stops : (run : Run) → Same more (Stops run) (Stops run)
  spent : (run : Run) (r : Result) → run.ending ≡ outcome.OutOfTurns → Same more (Stops run) r

-- what a statement does, and what it does with more turns, likewise
data Alike (more : ℕ) : Flow → Flow → Type 0 where
  falls : (w : World) → Alike more (Falls w) (Falls (richer more w))
  breaks : (w : World) → Alike more (Breaks w) (Breaks (richer more w))
  continues : (w : World) → Alike more (Continues w) (Continues (richer more w))
  returns : (v : ℤ) (w : World) → Alike more (Returns v w) (Returns v (richer more w))
  halts : (run : Run) → Alike more (Halts run) (Halts run)
  spends : (run : Run) (r : Flow) → run.ending ≡ outcome.OutOfTurns → Alike more (Halts run) r

-- what comes once a turn was taken is the same with more turns
record Lasts (more : ℕ) (later longer : Later) : Type 0 where
  loop : (s : TypedStmt) (d : ℕ) (w : World) → Alike more (later.loop s d w) (longer.loop s d (richer more w))
  call : (f d : ℕ) (args : List ℤ) (w : World) → Same more (later.call f d args w)
      (longer.call f d args (richer more w))

module _ {more : ℕ} where
  -- what is done with a number
  same_value : {r r' : Result} {k : ℤ → World → Result} (k' : ℤ → World → Result) → Same more r r'
      → ((v : ℤ) (w : World) → Same more (k v w) (k' v (richer more w))) → Same more (with_value r k) (with_value r' k')
  same_value k' (gives v w) h = h v w
  same_value k' (stops run) h = stops run
  same_value k' (spent run r e) h = spent run _ e

  -- what a statement does with a number
  alike_value : {r r' : Result} {k : ℤ → World → Flow} (k' : ℤ → World → Flow) → Same more r r'
      → ((v : ℤ) (w : World) → Alike more (k v w) (k' v (richer more w))) → Alike more (use_value r k) (use_value r' k')
  alike_value k' (gives v w) h = h v w
  alike_value k' (stops run) h = halts run
  alike_value k' (spent run r e) h = spends run _ e

  -- what is done by a test on numbers alone
  same_test : (b : Bool) {r s r' s' : Result} → Same more r r' → Same more s s' → Same more (cond b r s) (cond b r' s')
  same_test true g h = g
  same_test false g h = h

  -- what a statement does by a test on numbers alone
  alike_test : (b : Bool) {r s r' s' : Flow} → Alike more r r' → Alike more s s' → Alike more (cond b r s)
      (cond b r' s')
  alike_test true g h = g
  alike_test false g h = h

  -- what a cell has
  gives_load : (c : CellAt) (w : World) → Same more (Gives (load c w) w)
      (Gives (load c (richer more w)) (richer more w))
  gives_load (cell.Local c) w = gives _ w
  gives_load (cell.Global c) w = gives _ w

  -- a number goes into a cell
  gives_stored : (c : CellAt) (v n : ℤ) (w : World) → Same more (Gives n (store c v w))
      (Gives n (store c v (richer more w)))
  gives_stored (cell.Local c) v n w = gives _ (store (cell.Local c) v w)
  gives_stored (cell.Global c) v n w = gives _ (store (cell.Global c) v w)

  -- a number goes into a cell, and the expression gives what the cell had
  gives_former : (c : CellAt) (v : ℤ) (w : World) → Same more (Gives (load c w) (store c v w))
      (Gives (load c (richer more w)) (store c v (richer more w)))
  gives_former (cell.Local c) v w = gives _ (store (cell.Local c) v w)
  gives_former (cell.Global c) v w = gives _ (store (cell.Global c) v w)

  -- an array's index is checked
  same_checked : (n : ℕ) (i : ℤ) (line : ℕ) (w : World) {k k' : ℕ → Result} → ((c : ℕ) → Same more (k c) (k' c))
      → Same more (checked n i line w k) (checked n i line (richer more w) k')
  same_checked n (pos c) line w h = same_test (nat_lt c n) (h c) (stops _)
  same_checked n (negsuc c) line w h = stops _

  -- an operator's number or trap
  same_answered : (a : Answer) (line : ℕ) (w : World) {k k' : ℤ → Result} → ((v : ℤ) → Same more (k v) (k' v))
      → Same more (answered a line w k) (answered a line (richer more w) k')
  same_answered (Ok v) line w h = h v
  same_answered (Err t) line w h = stops _

  -- an operator's number or trap on what a cell has
  same_operated : (c : CellAt) (f : ℤ → Answer) (line : ℕ) (before w : World) {k k' : ℤ → Result} →
      ((v : ℤ) → Same more (k v) (k' v))
      → Same more (answered (f (load c before)) line w k)
      (answered (f (load c (richer more before))) line (richer more w) k')
  same_operated (cell.Local c) f line before w h = same_answered (f _) line w h
  same_operated (cell.Global c) f line before w h = same_answered (f _) line w h

  -- a byte is read
  same_byte : (bytes : List ℕ) (w : World) → Same more (next_byte bytes w) (next_byte bytes (richer more w))
  same_byte [] w = gives _ w
  same_byte (b ∷ bytes) w = gives _ (record w { input = bytes })

  -- a byte is put
  same_put : (b line : ℕ) (w : World) → Same more (put_byte b line w) (put_byte b line (richer more w))
  same_put b line w =
      same_test (nat_lt (length w.output) 16777216) (gives _ (record w { output = w.output ++ b ∷ [] })) (stops _)

  -- a call comes back to the caller's cells
  same_back : (cells : List ℤ) {r r' : Result} → Same more r r' → Same more (back_in cells r) (back_in cells r')
  same_back cells (gives v w) = gives v (record w { cells = cells })
  same_back cells (stops run) = stops run
  same_back cells (spent run r e) = spent run _ e

  -- a turn is taken for a call
  same_turn : (t : ℕ) (run : Run) (r : Result) {k : ℕ → Result} (k' : ℕ → Result) → run.ending ≡ outcome.OutOfTurns →
      ((t : ℕ) → Same more (k t) (k' (raised more t)))
      → Same more (take_turn t (Stops run) k) (take_turn (raised more t) r k')
  same_turn zero run r k' e h = spent _ _ e
  same_turn (suc t) run r k' e h = h t

  -- a turn is taken for a loop
  alike_turn : (t : ℕ) (run : Run) (r : Flow) {k : ℕ → Flow} (k' : ℕ → Flow) → run.ending ≡ outcome.OutOfTurns →
      ((t : ℕ) → Alike more (k t) (k' (raised more t)))
      → Alike more (take_turn t (Halts run) k) (take_turn (raised more t) r k')
  alike_turn zero run r k' e h = spends _ _ e
  alike_turn (suc t) run r k' e h = h t

  -- the remaining elements of an array become 0
  falls_cleared : (m c : ℕ) (w : World) → Alike more (Falls (clear m c w)) (Falls (clear m c (richer more w)))
  falls_cleared zero c w = falls w
  falls_cleared (suc m) c w = falls_cleared m (suc c) (store (cell.Local c) (pos 0) w)

  -- what comes behind a statement
  alike_then : {r r' : Flow} {k : World → Flow} (k' : World → Flow) → Alike more r r'
      → ((w : World) → Alike more (k w) (k' (richer more w))) → Alike more (then_on r k) (then_on r' k')
  alike_then k' (falls w) h = h w
  alike_then k' (breaks w) h = breaks w
  alike_then k' (continues w) h = continues w
  alike_then k' (returns v w) h = returns v w
  alike_then k' (halts run) h = halts run
  alike_then k' (spends run r e) h = spends run _ e

  -- what comes behind the body of a loop
  alike_body : {r r' : Flow} {k : World → Flow} (k' : World → Flow) → Alike more r r'
      → ((w : World) → Alike more (k w) (k' (richer more w))) → Alike more (after_body r k) (after_body r' k')
  alike_body k' (falls w) h = h w
  alike_body k' (breaks w) h = falls w
  alike_body k' (continues w) h = h w
  alike_body k' (returns v w) h = returns v w
  alike_body k' (halts run) h = halts run
  alike_body k' (spends run r e) h = spends run _ e

  -- a `break` leaves a switch
  alike_caught : {r r' : Flow} → Alike more r r' → Alike more (caught r) (caught r')
  alike_caught (falls w) = falls w
  alike_caught (breaks w) = falls w
  alike_caught (continues w) = continues w
  alike_caught (returns v w) = returns v w
  alike_caught (halts run) = halts run
  alike_caught (spends run r e) = spends run _ e

  -- what a function gives
  same_gave : {r r' : Flow} → Alike more r r' → Same more (gave r) (gave r')
  same_gave (falls w) = gives _ w
  same_gave (breaks w) = gives _ w
  same_gave (continues w) = gives _ w
  same_gave (returns v w) = gives v w
  same_gave (halts run) = stops run
  same_gave (spends run r e) = spent run _ e

module _ {more : ℕ} {later longer : Later} (h : Lasts more later longer) where
  -- a call
  same_call : (d : ℕ) (f : Callee) (args : List ℤ) (line : ℕ) (w : World) → Same more (call later d f args line w)
      (call longer d f args line (richer more w))
  same_call d (callee.Function f) args line w =
      same_turn w.turns _ _ _ refl (λ t. same_test (nat_lt d 2000)
      (same_back w.cells (h.call f (suc d) args (record w { turns = t }))) (stops _))
  same_call d callee.GetChar args line w = same_byte w.input w
  same_call d callee.PutChar args line w = same_put _ line w
  same_call d callee.Exit args line w = stops _

  mutual
    -- an expression
    same : (d : ℕ) (e : TypedExpr) (w : World) → Same more (eval later d e w) (eval longer d e (richer more w))
    same d (TypedExpr.At kind b at line) w = same_kind d kind (type_in b) line w

    -- a form of expression
    same_kind : (d : ℕ) (kind : TypedKind) (t : IntType) (line : ℕ) (w : World)
        → Same more (eval_kind later d kind t line w) (eval_kind longer d kind t line (richer more w))
    same_kind d (TypedKind.Name c) t line w = gives_load c w
    same_kind d (TypedKind.Number n u) t line w = gives n w
    same_kind d TypedKind.EofName t line w = gives _ w
    same_kind d (TypedKind.Call f args) t line w = same_all d args w _ (λ vs w. same_call d f vs line w)
    same_kind d (TypedKind.Index c n at named e) t line w =
        same_value _ (same d e w) (λ i w. same_checked n i line w (λ k. gives_load (beyond c k) w))
    same_kind d (TypedKind.Convert e) t line w = same_value _ (same d e w) (λ v w. gives _ w)
    same_kind d (TypedKind.Plus e) t line w = same d e w
    same_kind d (TypedKind.Minus e) t line w =
        same_value _ (same d e w) (λ v w. same_answered (unary sign.Minus t v) line w (λ r. gives r w))
    same_kind d (TypedKind.Complement e) t line w =
        same_value _ (same d e w) (λ v w. same_answered (unary sign.Complement t v) line w (λ r. gives r w))
    same_kind d (TypedKind.Not e) t line w = same_value _ (same d e w) (λ v w. gives _ w)
    same_kind d (TypedKind.Cast base.Void e) t line w = same_value _ (same d e w) (λ v w. gives _ w)
    same_kind d (TypedKind.Cast (base.Int u) e) t line w = same_value _ (same d e w) (λ v w. gives _ w)
    same_kind d (TypedKind.Binary o a b) t line w =
        same_value _ (same d a w) (λ x w. same_value _ (same d b w) (λ y w.
        same_answered (binary o (type_in (base_of a)) x y) line w (λ r. gives r w)))
    same_kind d (TypedKind.AndAlso a b) t line w =
        same_value _ (same d a w) (λ x w. same_test (int_eq x (pos 0)) (gives _ w)
        (same_value _ (same d b w) (λ y w. gives _ w)))
    same_kind d (TypedKind.OrElse a b) t line w =
        same_value _ (same d a w) (λ x w. same_test (int_eq x (pos 0)) (same_value _ (same d b w) (λ y w. gives _ w))
        (gives _ w))
    same_kind d (TypedKind.Choose c a b) t line w =
        same_value _ (same d c w) (λ x w. same_test (int_eq x (pos 0)) (same d b w) (same d a w))
    same_kind d (TypedKind.Assign None target value) t line w =
        same_place d target w _ (λ c w. same_value _ (same d value w) (λ v w. gives_stored c v v w))
    same_kind d (TypedKind.Assign (Some o) target value) t line w =
        same_place d target w _ (λ c w. same_value _ (same d value w) (λ v after.
        same_operated c (λ x. binary o (changing (class o) t (type_in (base_of value)))
        (conv_from t (changing (class o) t (type_in (base_of value))) x) v) line w after
        (λ r. gives_stored c _ _ after)))
    same_kind d (TypedKind.Before o target) t line w =
        same_place d target w _ (λ c w. same_operated c
        (λ x. binary o (common_type t type.Int) (conv_from t (common_type t type.Int) x) (pos 1)) line w w
        (λ r. gives_stored c _ _ w))
    same_kind d (TypedKind.After o target) t line w =
        same_place d target w _ (λ c w. same_operated c
        (λ x. binary o (common_type t type.Int) (conv_from t (common_type t type.Int) x) (pos 1)) line w w
        (λ r. gives_former c _ w))
    same_kind d (TypedKind.Comma a b) t line w = same_value _ (same d a w) (λ v w. same d b w)

    -- the cell that is named
    same_place : (d : ℕ) (e : TypedExpr) (w : World) {k : CellAt → World → Result} (k' : CellAt → World → Result)
        → ((c : CellAt) (w : World) → Same more (k c w) (k' c (richer more w))) → Same more (place later d e w k)
        (place longer d e (richer more w) k')
    same_place d (TypedExpr.At (TypedKind.Name c) b at line) w k' goes = goes c w
    same_place d (TypedExpr.At (TypedKind.Index c n named_at named e) b at line) w k' goes =
        same_value _ (same d e w) (λ i w. same_checked n i line w (λ k. goes (beyond c k) w))
    same_place d (TypedExpr.At kind b at line) w k' goes = gives _ w

    -- arguments
    same_all : (d : ℕ) (es : TypedExprs) (w : World) {k : List ℤ → World → Result} (k' : List ℤ → World → Result)
        → ((vs : List ℤ) (w : World) → Same more (k vs w) (k' vs (richer more w))) → Same more
        (eval_all later d es w k) (eval_all longer d es (richer more w) k')
    same_all d TypedExprs.End w k' goes = goes [] w
    same_all d (TypedExprs.More e es) w k' goes =
        same_value _ (same d e w) (λ v w. same_all d es w _ (λ vs w. goes (v ∷ vs) w))

  -- an array's initialisers
  alike_fill : (d c : ℕ) (es : List TypedExpr) (w : World) {k : ℕ → World → Flow} (k' : ℕ → World → Flow)
      → ((c : ℕ) (w : World) → Alike more (k c w) (k' c (richer more w))) → Alike more (fill later d c es w k)
      (fill longer d c es (richer more w) k')
  alike_fill d c [] w k' goes = goes c w
  alike_fill d c (e ∷ es) w k' goes =
      alike_value _ (same d e w) (λ v w. alike_fill d (suc c) es (store (cell.Local c) v w) k' goes)

  -- a declaration
  alike_start : (d : ℕ) (v : TypedVar) (init : TypedInit) (w : World) → Alike more (start later d v init w)
      (start longer d v init (richer more w))
  alike_start d v TypedInit.Absent w = falls w
  alike_start d v (TypedInit.One e) w = alike_value _ (same d e w) (λ n w. falls (store (cell.Local v.cell) n w))
  alike_start d v (TypedInit.Several es) w = alike_fill d v.cell es w _ (λ c w. falls_cleared (size v - length es) c w)

  -- declarations
  alike_all_started : (d : ℕ) (vs : List TypedVar) (w : World) → Alike more (start_all later d vs w)
      (start_all longer d vs (richer more w))
  alike_all_started d [] w = falls w
  alike_all_started d (v ∷ vs) w = alike_then _ (alike_start d v v.init w) (λ w. alike_all_started d vs w)

  -- a loop goes on at its start
  alike_again : (d : ℕ) (loop : TypedStmt) (w : World) → Alike more (again later d loop w)
      (again longer d loop (richer more w))
  alike_again d loop w = alike_turn w.turns _ _ _ refl (λ t. h.loop loop d (record w { turns = t }))

  -- the test of a `for`
  alike_tested : (d : ℕ) (test : Option TypedExpr) (w : World) {k : World → Flow} (k' : World → Flow)
      → ((w : World) → Alike more (k w) (k' (richer more w))) → Alike more (tested later d test w k)
      (tested longer d test (richer more w) k')
  alike_tested d None w k' goes = goes w
  alike_tested d (Some c) w k' goes =
      alike_value _ (same d c w) (λ v w. alike_test (int_eq v (pos 0)) (falls w) (goes w))

  -- the step of a `for`
  alike_stepped : (d : ℕ) (step : Option TypedExpr) (w : World) {k : World → Flow} (k' : World → Flow)
      → ((w : World) → Alike more (k w) (k' (richer more w))) → Alike more (stepped later d step w k)
      (stepped longer d step (richer more w) k')
  alike_stepped d None w k' goes = goes w
  alike_stepped d (Some e) w k' goes = alike_value _ (same d e w) (λ v w. goes w)

  -- the value of a `return`
  alike_returned : (d : ℕ) (e : Option TypedExpr) (w : World) → Alike more (returned later d e w)
      (returned longer d e (richer more w))
  alike_returned d None w = returns _ w
  alike_returned d (Some e) w = alike_value _ (same d e w) (λ v w. returns v w)

  mutual
    -- a statement
    alike : (d : ℕ) (s : TypedStmt) (w : World) → Alike more (exec later d s w) (exec longer d s (richer more w))
    alike d (TypedStmt.Vars vars) w = alike_all_started d vars w
    alike d (TypedStmt.Block ss) w = alike_all d ss w
    alike d TypedStmt.Empty w = falls w
    alike d (TypedStmt.Value e) w = alike_value _ (same d e w) (λ v w. falls w)
    alike d (TypedStmt.If c s other) w =
        alike_value _ (same d c w) (λ v w. alike_test (int_eq v (pos 0)) (alike_other d other w) (alike d s w))
    alike d (TypedStmt.While c s) w =
        alike_value _ (same d c w) (λ v w.
        alike_test (int_eq v (pos 0)) (falls w) (alike_body _ (alike d s w)
        (λ w. alike_again d (TypedStmt.While c s) w)))
    alike d (TypedStmt.DoWhile s c line) w =
        alike_body _ (alike d s w) (λ w. alike_value _ (same d c w) (λ v w.
        alike_test (int_eq v (pos 0)) (falls w) (alike_again d (TypedStmt.DoWhile s c line) w)))
    alike d (TypedStmt.For (TypedForHead.Head first test step) s) w =
        alike_then _ (alike_other d first w) (λ w. alike_tested d test w _ (λ w.
        alike_body _ (alike d s w) (λ w. alike_stepped d step w _ (λ w.
        alike_again d (TypedStmt.For (TypedForHead.Head OtherTyped.Nothing test step) s) w))))
    alike d (TypedStmt.Switch e items) w =
        alike_value _ (same d e w) (λ v w. alike_caught (alike_test (has_case v items) (alike_case d v items w)
        (alike_test (has_default items) (alike_default d items w) (falls w))))
    alike d (TypedStmt.Break at line) w = breaks w
    alike d (TypedStmt.Continue at line) w = continues w
    alike d (TypedStmt.Return e at line) w = alike_returned d e w

    -- a statement that may be left out
    alike_other : (d : ℕ) (s : OtherTyped) (w : World) → Alike more (exec_other later d s w)
        (exec_other longer d s (richer more w))
    alike_other d OtherTyped.Nothing w = falls w
    alike_other d (OtherTyped.There s) w = alike d s w

    -- statements
    alike_all : (d : ℕ) (ss : TypedStmts) (w : World) → Alike more (exec_all later d ss w)
        (exec_all longer d ss (richer more w))
    alike_all d TypedStmts.End w = falls w
    alike_all d (TypedStmts.More s ss) w = alike_then _ (alike d s w) (λ w. alike_all d ss w)

    -- the items of a switch
    alike_items : (d : ℕ) (items : TypedItems) (w : World) → Alike more (exec_items later d items w)
        (exec_items longer d items (richer more w))
    alike_items d TypedItems.Last w = falls w
    alike_items d (TypedItems.Further item items) w = alike_then _ (alike_item d item w) (λ w. alike_items d items w)

    -- an item of a switch
    alike_item : (d : ℕ) (item : TypedItem) (w : World) → Alike more (exec_item later d item w)
        (exec_item longer d item (richer more w))
    alike_item d (TypedItem.Case n at) w = falls w
    alike_item d (TypedItem.Default at) w = falls w
    alike_item d (TypedItem.Item s) w = alike d s w

    -- the items behind a case
    alike_case : (d : ℕ) (v : ℤ) (items : TypedItems) (w : World) → Alike more (exec_case later d v items w)
        (exec_case longer d v items (richer more w))
    alike_case d v TypedItems.Last w = falls w
    alike_case d v (TypedItems.Further (TypedItem.Case n at) items) w =
        alike_test (int_eq n v) (alike_items d items w) (alike_case d v items w)
    alike_case d v (TypedItems.Further item items) w = alike_case d v items w

    -- the items behind the default
    alike_default : (d : ℕ) (items : TypedItems) (w : World) → Alike more (exec_default later d items w)
        (exec_default longer d items (richer more w))
    alike_default d TypedItems.Last w = falls w
    alike_default d (TypedItems.Further (TypedItem.Default at) items) w = alike_items d items w
    alike_default d (TypedItems.Further item items) w = alike_default d items w

  -- the body of a function
  same_body : (d : ℕ) (f : Option TypedFunction) (args : List ℤ) (w : World) → Same more (run_body later d f args w)
      (run_body longer d f args (richer more w))
  same_body d None args w = gives _ w
  same_body d (Some f) args w = same_gave (alike_all d f.body (record w { cells = frame f args }))

-- what comes once a turn was taken, where more turns may follow
lasts : (more : ℕ) (functions : List TypedFunction) (n : ℕ) → Lasts more (later_at functions n)
    (later_at functions (raised more n))
lasts more functions zero = record { loop = λ s d w. spends _ _ refl; call = λ f d args w. spent _ _ refl }
lasts more functions (suc n) =
    record {
      loop = λ s d w. alike (lasts more functions n) d s w;
      call = λ f d args w. same_body
          (lasts more functions n) d (slice_get functions f) args w;
    }

-- a run that isn't out of turns ends as it does with more
same_final : {more : ℕ} {r r' : Result} → Same more r r' → (final r).ending ≢ outcome.OutOfTurns → final r' ≡ final r
same_final (gives v w) h = refl
same_final (stops run) h = refl
same_final (spent run r e) h = absurd (h e)

-- the turns that a run has with so many more
raised_sum : (more n : ℕ) → raised more n ≡ n + more
raised_sum more zero = omega arith
raised_sum more (suc n) = let h = raised_sum more n in omega arith

-- The law: a run that isn't out of turns is the same with more turns.
pub spare_turns : (t : Typed) (input : List ℕ) (n more : ℕ) → (meaning t input n).ending ≢ outcome.OutOfTurns → meaning
    t input (n + more) ≡ meaning t input n
spare_turns t input n more h =
    rw (← raised_sum more n) (same_final (same_body (lasts more t.functions n) 1 (slice_get t.functions t.main) []
    (record { globals = t.globals; cells = []; input = input; output = []; turns = n })) h)
