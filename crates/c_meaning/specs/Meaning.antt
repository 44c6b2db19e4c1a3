-- What a typed source does: its output and how it ends. It knows no blocks, no operand stack and no counters.
use Rattle.std.specs.Prelude.{
  ℕ,
  zero,
  suc,
  ◌+◌,
  ◌-◌,
  Bool,
  true,
  false,
  not,
  cond,
  nat_lt,
  ℤ,
  pos,
  negsuc,
  List,
  [],
  ◌∷◌,
  ◌++◌,
  length,
  replicate,
  Option,
  Some,
  None,
  Ok,
  Err,
  slice_get,
  slice_set,
  slice_index_or,
}
use Rattle.std.specs.Ordering.{int_eq}
use Rattle.int_ops.specs.declared.types.IntType.{IntType}
use Rattle.int_ops.specs.declared.types.IntType.TheVariants as type
use Rattle.int_ops.specs.declared.operators.BinOp.{BinOp}
use Rattle.int_ops.specs.declared.operators.UnOp.TheVariants as sign
use Rattle.int_ops.specs.Common.{common_type}
use Rattle.int_ops.specs.Apply.{Answer, binary, unary, truth}
use Rattle.c_tree.specs.declared.expr.Base.TheVariants as base
use Rattle.c_tree.specs.declared.typed_expr.CellAt.{CellAt}
use Rattle.c_tree.specs.declared.typed_expr.CellAt.TheVariants as cell
use Rattle.c_tree.specs.declared.typed_expr.Callee.{Callee}
use Rattle.c_tree.specs.declared.typed_expr.Callee.TheVariants as callee
use Rattle.c_tree.specs.TypedExpr.{TypedExpr, TypedKind, TypedExprs}
use Rattle.c_tree.specs.TypedStmt.{
  TypedInit,
  TypedVar,
  TypedStmt,
  OtherTyped,
  TypedForHead,
  TypedStmts,
  TypedItem,
  TypedItems,
}
use Rattle.c_tree.specs.Typed.{TypedFunction, Typed}
use Rattle.c_tree.specs.TypedParts.{class, base_of, size}
use Rattle.c_meaning.specs.Operands.{type_in, changing, conv_from}
use Rattle.cov_base.specs.Limits.{frame_limit, output_limit}
use Rattle.stack_ops.specs.declared.endings.Outcome.{Outcome}
use Rattle.stack_ops.specs.declared.endings.Outcome.TheVariants as outcome
use Rattle.stack_ops.specs.declared.endings.Trap.TheVariants as trap
use Rattle.stack_ops.specs.Effect.{trap_of, byte_of}

-- what a run has at a moment: the globals, the cells of the innermost call, the bytes of the input that are left, the
-- output, and the turns that are left
pub record World : Type 0 where
  pub globals : List ℤ
  pub cells : List ℤ
  pub input : List ℕ
  pub output : List ℕ
  pub turns : ℕ

-- how a run ended, with its output
pub record Run : Type 0 where
  pub output : List ℕ
  pub ending : Outcome

-- What an expression comes to: a number, and what the run has then, or the run ends in it. An expression without a
-- value gives 0, which nothing uses.
pub data Result : Type 0 where
  Gives : ℤ → World → Result
  Stops : Run → Result

-- what comes after a statement
pub data Flow : Type 0 where
  Falls : World → Flow
  Breaks : World → Flow
  Continues : World → Flow
  Returns : ℤ → World → Flow
  Halts : Run → Flow

-- the run ends here
abbrev pub ends : Outcome → World → Run
ends ending w = record { output = w.output; ending = ending }

-- what comes once a turn was taken: a loop goes on at its start, or a function is called; the number is that of the
-- live frames
pub record Later : Type 0 where
  pub loop : TypedStmt → ℕ → World → Flow
  pub call : ℕ → ℕ → List ℤ → World → Result

-- with the number that an expression gives
abbrev pub with_value : Result → (ℤ → World → Result) → Result
with_value (Gives v w) then = then v w
with_value (Stops run) then = Stops run

-- the same, where a statement goes on
abbrev pub use_value : Result → (ℤ → World → Flow) → Flow
use_value (Gives v w) then = then v w
use_value (Stops run) then = Halts run

-- the first where the number isn't 0, and otherwise the second
abbrev pub pick : {A : Type 0} → ℤ → A → A → A
pick v first second = cond (int_eq v (pos 0)) second first

-- ---- cells

-- the cell so far on from another
abbrev pub beyond : CellAt → ℕ → CellAt
beyond (cell.Local c) k = cell.Local (c + k)
beyond (cell.Global c) k = cell.Global (c + k)

-- the number of a cell
abbrev pub load : CellAt → World → ℤ
load (cell.Local c) w = slice_index_or w.cells c (pos 0)
load (cell.Global c) w = slice_index_or w.globals c (pos 0)

-- a cell has another number
abbrev pub store : CellAt → ℤ → World → World
store (cell.Local c) v w = record w { cells = slice_set w.cells c v }
store (cell.Global c) v w = record w { globals = slice_set w.globals c v }

-- the index lies in an array of this length, or traps at the line
abbrev pub checked : ℕ → ℤ → ℕ → World → (ℕ → Result) → Result
checked n (pos k) line w then = cond (nat_lt k n) (then k) (Stops (ends (outcome.Trapped trap.BadIndex line) w))
checked n (negsuc k) line w then = Stops (ends (outcome.Trapped trap.BadIndex line) w)

-- ---- operators

-- an operator's number, or its trap at the line
abbrev pub answered : Answer → ℕ → World → (ℤ → Result) → Result
answered (Ok v) line w then = then v
answered (Err t) line w then = Stops (ends (outcome.Trapped (trap_of t) line) w)

-- ---- input, output and calls

-- the next byte, or -1 at the end
abbrev pub next_byte : List ℕ → World → Result
next_byte [] w = Gives (negsuc 0) w
next_byte (b ∷ bytes) w = Gives (pos b) (record w { input = bytes })

-- a byte is put, or the output has as many bytes as it may
abbrev pub put_byte : ℕ → ℕ → World → Result
put_byte b line w =
    cond (nat_lt (length w.output) output_limit) (Gives (pos b) (record w { output = w.output ++ b ∷ [] }))
    (Stops (ends (outcome.Trapped trap.OutputLimit line) w))

-- with one turn less, or the run is out of turns
abbrev pub take_turn : {A : Type 0} → ℕ → A → (ℕ → A) → A
take_turn zero none then = none
take_turn (suc t) none then = then t

-- what a call gave, with the caller's cells
abbrev pub back_in : List ℤ → Result → Result
back_in cells (Gives v w) = Gives v (record w { cells = cells })
back_in cells (Stops run) = Stops run

-- A user function is called: the turn is taken before the number of frames is tested.
abbrev pub call_function : Later → ℕ → ℕ → List ℤ → ℕ → World → Result
call_function later d f args line w =
    take_turn w.turns (Stops (ends outcome.OutOfTurns w)) (λ t.
    cond (nat_lt d frame_limit) (back_in w.cells (later.call f (suc d) args (record w { turns = t })))
    (Stops (ends (outcome.Trapped trap.CallDepth line) (record w { turns = t }))))

-- the call of a function, the three built-in ones among them, at this line with so many live frames (C17 6.5.2.2)
abbrev pub call : Later → ℕ → Callee → List ℤ → ℕ → World → Result
call later d (callee.Function f) args line w = call_function later d f args line w
call later d callee.GetChar args line w = next_byte w.input w
call later d callee.PutChar args line w = put_byte (byte_of (slice_index_or args 0 (pos 0))) line w
call later d callee.Exit args line w = Stops (ends (outcome.Exited (byte_of (slice_index_or args 0 (pos 0)))) w)

-- ---- expressions

-- A number of one type is changed by a second number in another type, in which the operator takes both; the result is
-- converted back.
abbrev pub changed : BinOp → IntType → IntType → ℤ → ℤ → ℕ → World → (ℤ → Result) → Result
changed o t u x y line w then = answered (binary o u (conv_from t u x) y) line w (λ r. then (conv_from u t r))

-- a variable becomes a number; the expression gives what it has become, or what it was
abbrev pub becomes : CellAt → ℤ → World → Result
becomes c v w = Gives v (store c v w)

-- a variable becomes a number; the expression gives what it was (C17 6.5.2.4 paragraph 2)
abbrev pub becomes_after : CellAt → ℤ → World → Result
becomes_after c v w = Gives (load c w) (store c v w)

abbrev mutual
  -- an expression, in so many live frames
  pub eval : Later → ℕ → TypedExpr → World → Result
  eval later d (TypedExpr.At kind b at line) w = eval_kind later d kind (type_in b) line w

  -- a form with its type and line
  pub eval_kind : Later → ℕ → TypedKind → IntType → ℕ → World → Result
  eval_kind later d (TypedKind.Name c) t line w = Gives (load c w) w
  eval_kind later d (TypedKind.Number n u) t line w = Gives n w
  eval_kind later d TypedKind.EofName t line w = Gives (negsuc 0) w
  eval_kind later d (TypedKind.Call f args) t line w = eval_all later d args w (λ vs w. call later d f vs line w)
  eval_kind later d (TypedKind.Index c n at named e) t line w =
      with_value (eval later d e w) (λ i w. checked n i line w (λ k. Gives (load (beyond c k) w) w))
  eval_kind later d (TypedKind.Convert e) t line w =
      with_value (eval later d e w) (λ v w. Gives (conv_from (type_in (base_of e)) t v) w)
  eval_kind later d (TypedKind.Plus e) t line w = eval later d e w
  eval_kind later d (TypedKind.Minus e) t line w =
      with_value (eval later d e w) (λ v w. answered (unary sign.Minus t v) line w (λ r. Gives r w))
  eval_kind later d (TypedKind.Complement e) t line w =
      with_value (eval later d e w) (λ v w. answered (unary sign.Complement t v) line w (λ r. Gives r w))
  eval_kind later d (TypedKind.Not e) t line w =
      with_value (eval later d e w) (λ v w. Gives (truth (int_eq v (pos 0))) w)
  eval_kind later d (TypedKind.Cast base.Void e) t line w = with_value (eval later d e w) (λ v w. Gives (pos 0) w)
  eval_kind later d (TypedKind.Cast (base.Int u) e) t line w =
      with_value (eval later d e w) (λ v w. Gives (conv_from (type_in (base_of e)) u v) w)
  eval_kind later d (TypedKind.Binary o a b) t line w =
      with_value (eval later d a w) (λ x w. with_value (eval later d b w) (λ y w.
      answered (binary o (type_in (base_of a)) x y) line w (λ r. Gives r w)))
  eval_kind later d (TypedKind.AndAlso a b) t line w =
      with_value (eval later d a w) (λ x w. pick x (with_value (eval later d b w)
      (λ y w. Gives (truth (not (int_eq y (pos 0)))) w)) (Gives (pos 0) w))
  eval_kind later d (TypedKind.OrElse a b) t line w =
      with_value (eval later d a w) (λ x w. pick x (Gives (pos 1) w)
      (with_value (eval later d b w) (λ y w. Gives (truth (not (int_eq y (pos 0)))) w)))
  eval_kind later d (TypedKind.Choose c a b) t line w =
      with_value (eval later d c w) (λ x w. pick x (eval later d a w) (eval later d b w))
  eval_kind later d (TypedKind.Assign None target value) t line w =
      place later d target w (λ c w. with_value (eval later d value w) (λ v w. Gives v (store c v w)))
  eval_kind later d (TypedKind.Assign (Some o) target value) t line w =
      place later d target w (λ c w. with_value (eval later d value w) (λ v after.
      changed o t (changing (class o) t (type_in (base_of value))) (load c w) v line after (λ r. becomes c r after)))
  eval_kind later d (TypedKind.Before o target) t line w =
      place later d target w (λ c w. changed o t (common_type t type.Int) (load c w) (pos 1) line w
      (λ r. becomes c r w))
  eval_kind later d (TypedKind.After o target) t line w =
      place later d target w (λ c w. changed o t (common_type t type.Int) (load c w) (pos 1) line w
      (λ r. becomes_after c r w))
  eval_kind later d (TypedKind.Comma a b) t line w = with_value (eval later d a w) (λ v w. eval later d b w)

  -- the cell that a name or an element is; an element's index is evaluated and checked
  pub place : Later → ℕ → TypedExpr → World → (CellAt → World → Result) → Result
  place later d (TypedExpr.At (TypedKind.Name c) b at line) w then = then c w
  place later d (TypedExpr.At (TypedKind.Index c n named_at named e) b at line) w then =
      with_value (eval later d e w) (λ i w. checked n i line w (λ k. then (beyond c k) w))
  place later d (TypedExpr.At kind b at line) w then = Gives (pos 0) w

  -- arguments from left to right
  pub eval_all : Later → ℕ → TypedExprs → World → (List ℤ → World → Result) → Result
  eval_all later d TypedExprs.End w then = then [] w
  eval_all later d (TypedExprs.More e es) w then =
      with_value (eval later d e w) (λ v w. eval_all later d es w (λ vs w. then (v ∷ vs) w))

-- ---- statements

-- the values of an array's initialisers go into its cells from one on
abbrev pub fill : Later → ℕ → ℕ → List TypedExpr → World → (ℕ → World → Flow) → Flow
fill later d c [] w then = then c w
fill later d c (e ∷ es) w then =
    use_value (eval later d e w) (λ v w. fill later d (suc c) es (store (cell.Local c) v w) then)

-- so many cells from one on become 0
abbrev pub clear : ℕ → ℕ → World → World
clear zero c w = w
clear (suc more) c w = clear more (suc c) (store (cell.Local c) (pos 0) w)

-- a declaration: an initialiser's values go into the variable's cells, and the remaining elements of an array become 0
abbrev pub start : Later → ℕ → TypedVar → TypedInit → World → Flow
start later d v TypedInit.Absent w = Falls w
start later d v (TypedInit.One e) w = use_value (eval later d e w) (λ n w. Falls (store (cell.Local v.cell) n w))
start later d v (TypedInit.Several es) w = fill later d v.cell es w (λ c w. Falls (clear (size v - length es) c w))

-- what comes behind a statement that falls through
abbrev pub then_on : Flow → (World → Flow) → Flow
then_on (Falls w) then = then w
then_on other then = other

-- the variables of a declaration begin, one after another
abbrev pub start_all : Later → ℕ → List TypedVar → World → Flow
start_all later d [] w = Falls w
start_all later d (v ∷ vs) w = then_on (start later d v v.init w) (λ w. start_all later d vs w)

-- what comes behind the body of a loop, which may `continue` or `break`
abbrev pub after_body : Flow → (World → Flow) → Flow
after_body (Falls w) then = then w
after_body (Continues w) then = then w
after_body (Breaks w) then = Falls w
after_body (Returns v w) then = Returns v w
after_body (Halts run) then = Halts run

-- a `break` leaves a switch
abbrev pub caught : Flow → Flow
caught (Breaks w) = Falls w
caught other = other

-- a turn is taken, and a loop goes on at its start
abbrev pub again : Later → ℕ → TypedStmt → World → Flow
again later d loop w =
    take_turn w.turns (Halts (ends outcome.OutOfTurns w)) (λ t. later.loop loop d (record w { turns = t }))

-- the test of a `for` that may be left out
abbrev pub tested : Later → ℕ → Option TypedExpr → World → (World → Flow) → Flow
tested later d None w then = then w
tested later d (Some c) w then = use_value (eval later d c w) (λ v w. pick v (then w) (Falls w))

-- the step of a `for` that may be left out
abbrev pub stepped : Later → ℕ → Option TypedExpr → World → (World → Flow) → Flow
stepped later d None w then = then w
stepped later d (Some e) w then = use_value (eval later d e w) (λ v w. then w)

-- a switch has a case of this value, and a default
abbrev pub has_case : ℤ → TypedItems → Bool
has_case v TypedItems.Last = false
has_case v (TypedItems.Further (TypedItem.Case n at) items) = cond (int_eq n v) true (has_case v items)
has_case v (TypedItems.Further item items) = has_case v items

-- the items hold a default label
abbrev pub has_default : TypedItems → Bool
has_default TypedItems.Last = false
has_default (TypedItems.Further (TypedItem.Default at) items) = true
has_default (TypedItems.Further item items) = has_default items

-- the value of a `return`
abbrev pub returned : Later → ℕ → Option TypedExpr → World → Flow
returned later d None w = Returns (pos 0) w
returned later d (Some e) w = use_value (eval later d e w) (λ v w. Returns v w)

abbrev mutual
  -- a statement, in so many live frames
  pub exec : Later → ℕ → TypedStmt → World → Flow
  exec later d (TypedStmt.Vars vars) w = start_all later d vars w
  exec later d (TypedStmt.Block ss) w = exec_all later d ss w
  exec later d TypedStmt.Empty w = Falls w
  exec later d (TypedStmt.Value e) w = use_value (eval later d e w) (λ v w. Falls w)
  exec later d (TypedStmt.If c s other) w =
      use_value (eval later d c w) (λ v w. pick v (exec later d s w) (exec_other later d other w))
  exec later d (TypedStmt.While c s) w =
      use_value (eval later d c w) (λ v w. pick v (after_body (exec later d s w)
      (λ w. again later d (TypedStmt.While c s) w)) (Falls w))
  exec later d (TypedStmt.DoWhile s c line) w =
      after_body (exec later d s w) (λ w. use_value (eval later d c w)
      (λ v w. pick v (again later d (TypedStmt.DoWhile s c line) w) (Falls w)))
  exec later d (TypedStmt.For (TypedForHead.Head first test step) s) w =
      then_on (exec_other later d first w) (λ w. tested later d test w
      (λ w. after_body (exec later d s w) (λ w. stepped later d step w (λ w.
      again later d (TypedStmt.For (TypedForHead.Head OtherTyped.Nothing test step) s) w))))
  exec later d (TypedStmt.Switch e items) w =
      use_value (eval later d e w) (λ v w. caught (cond (has_case v items) (exec_case later d v items w)
      (cond (has_default items) (exec_default later d items w) (Falls w))))
  exec later d (TypedStmt.Break at line) w = Breaks w
  exec later d (TypedStmt.Continue at line) w = Continues w
  exec later d (TypedStmt.Return e at line) w = returned later d e w

  -- a statement that may be left out
  pub exec_other : Later → ℕ → OtherTyped → World → Flow
  exec_other later d OtherTyped.Nothing w = Falls w
  exec_other later d (OtherTyped.There s) w = exec later d s w

  -- statements, one after another
  pub exec_all : Later → ℕ → TypedStmts → World → Flow
  exec_all later d TypedStmts.End w = Falls w
  exec_all later d (TypedStmts.More s ss) w = then_on (exec later d s w) (λ w. exec_all later d ss w)

  -- the items of a switch from the front on; labels are passed
  pub exec_items : Later → ℕ → TypedItems → World → Flow
  exec_items later d TypedItems.Last w = Falls w
  exec_items later d (TypedItems.Further item items) w =
      then_on (exec_item later d item w) (λ w. exec_items later d items w)

  -- an item of a `switch`; a label does nothing
  pub exec_item : Later → ℕ → TypedItem → World → Flow
  exec_item later d (TypedItem.Case n at) w = Falls w
  exec_item later d (TypedItem.Default at) w = Falls w
  exec_item later d (TypedItem.Item s) w = exec later d s w

  -- the items behind the case of this value, and behind the default
  pub exec_case : Later → ℕ → ℤ → TypedItems → World → Flow
  exec_case later d v TypedItems.Last w = Falls w
  exec_case later d v (TypedItems.Further (TypedItem.Case n at) items) w =
      cond (int_eq n v) (exec_items later d items w) (exec_case later d v items w)
  exec_case later d v (TypedItems.Further item items) w = exec_case later d v items w

  -- the items from the default label on
  pub exec_default : Later → ℕ → TypedItems → World → Flow
  exec_default later d TypedItems.Last w = Falls w
  exec_default later d (TypedItems.Further (TypedItem.Default at) items) w = exec_items later d items w
  exec_default later d (TypedItems.Further item items) w = exec_default later d items w

-- ---- calls and the whole

-- what a function gives: the number of its `return`, and 0 at its end
abbrev pub gave : Flow → Result
gave (Falls w) = Gives (pos 0) w
gave (Returns v w) = Gives v w
gave (Halts run) = Stops run
gave (Breaks w) = Gives (pos 0) w
gave (Continues w) = Gives (pos 0) w

-- a call begins with its arguments in the first cells and 0 in the others
abbrev pub frame : TypedFunction → List ℤ → List ℤ
frame f args = args ++ replicate (f.cells - length args) (pos 0)

-- a function is run on its arguments: its cells begin as these, and otherwise as 0
abbrev pub run_body : Later → ℕ → Option TypedFunction → List ℤ → World → Result
run_body later d None args w = Gives (pos 0) w
run_body later d (Some f) args w = gave (exec_all later d f.body (record w { cells = frame f args }))

-- What comes once a turn was taken, where so many turns may follow. The world has the turns that are left; the number
-- here only bounds the recursion.
abbrev pub later_at : List TypedFunction → ℕ → Later
later_at functions zero =
    record { loop = λ s d w. Halts (ends outcome.OutOfTurns w); call = λ f d args w. Stops (ends outcome.OutOfTurns w) }
later_at functions (suc n) =
    record {
      loop = λ s d w. exec (later_at functions n) d s w;
      call = λ f d args w. run_body (later_at functions n) d
          (slice_get functions f) args w;
    }

-- the status is the number of `main`, modulo 256
abbrev pub final : Result → Run
final (Gives v w) = ends (outcome.Returned (byte_of v)) w
final (Stops run) = run

-- The output and the ending of a typed source on an input, with so many turns.
abbrev pub meaning : Typed → List ℕ → ℕ → Run
meaning t input n =
    final (run_body (later_at t.functions n) 1 (slice_get t.functions t.main) []
    (record { globals = t.globals; cells = []; input = input; output = []; turns = n }))
