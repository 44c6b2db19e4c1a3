-- What an operation on the lists leaves of their lengths; it is never stuck where its operands and cells are there.
use Rattle.std.proofs.Common.{◌≡◌, ◌≢◌, refl, ℕ, zero, suc, ◌+◌, ◌-◌, ◌<◌, ◌≤◌, Bool, true, false, cond, List, [], ◌∷◌}
use Rattle.std.proofs.Common.{length, Option, Some, None, Ok, Err, arith}
use Rattle.std.specs.Prelude.{ℤ, pos, negsuc, nat_lt, slice_get}
use Rattle.std.proofs.lemmas.Bool.{lt-ltb, ltb-true}
use Rattle.std.proofs.lemmas.List.{length-set}
use Rattle.int_ops.specs.declared.operators.BinOp.TheVariants as bin_op
use Rattle.int_ops.specs.declared.operators.UnOp.TheVariants as un_op
use Rattle.int_ops.specs.Apply.{Answer, binary, unary}
use Rattle.stack_ops.specs.declared.operation.Op.{Op}
use Rattle.stack_ops.specs.declared.operation.Op.TheVariants as op
use Rattle.stack_ops.specs.Effect.{State, Step, row, leaves, loads, stored, sets_cells, sets_globals, element, within}
use Rattle.stack_ops.specs.Effect.{answers, on_two, on_one, reads, puts, byte_of}
use Rattle.stack_ops.specs.Shapes.{takes, gives, is_step, HasCells}

-- so many operands, and as many cells and globals as in the state
pub record Sized (s : State) (n : ℕ) (q : State) : Type 0 where
  pub operands : length q.operands ≡ n
  pub cells : length q.cells ≡ length s.cells
  pub globals : length q.globals ≡ length s.globals

-- a step that goes on leaves so many operands; it isn't stuck
abbrev pub Leaves : State → ℕ → Step → Type 0
Leaves s n (Step.Goes q) = Sized s n q
Leaves s n (Step.Traps t line) = Unit {0}
Leaves s n Step.Stuck = ⊥

pub there : {A : Type 0} (xs : List A) (w : ℕ) → w < length xs → slice_get xs w ≢ None
there [] w lt e = absurd (omega (arith, lt))
there (x ∷ xs) zero lt e = cc
there (x ∷ xs) (suc w) lt e = there xs w (omega (arith, lt)) e

loads_sized : (s : State) (xs os : List ℤ) (w n : ℕ) → w < length xs → suc (length os) ≡ n
    → Leaves s n (loads (slice_get xs w) os s)
loads_sized s xs os w n lt e = go (slice_get xs w) (there xs w lt)
  where
    go : (o : Option ℤ) → o ≢ None → Leaves s n (loads o os s)
    go (Some x) h = record { operands = e; cells = refl; globals = refl }
    go None h = absurd (h refl)

cells_sized : (s : State) (os : List ℤ) (w n : ℕ) (a : ℤ) → w < length s.cells → length os ≡ n
    → Leaves s n (sets_cells (stored s.cells w a) os s)
cells_sized s os w n a lt e = rw
    (lt-ltb w (length s.cells) lt) record { operands = e; cells = length-set s.cells w a; globals = refl }

globals_sized : (s : State) (os : List ℤ) (w n : ℕ) (a : ℤ) → w < length s.globals → length os ≡ n
    → Leaves s n (sets_globals (stored s.globals w a) os s)
globals_sized s os w n a lt e =
    rw (lt-ltb w (length s.globals) lt) record { operands = e; cells = refl; globals = length-set s.globals w a }

-- an element inside its array is in a cell within its end
within_sized : (s : State) (base size line n : ℕ) (i : ℤ) (then : ℕ → Step)
    → ((w : ℕ) → w < base + size → Leaves s n (then w)) → Leaves s n (within (element base size i) line then)
within_sized s base size line n (negsuc i) then go = tt
within_sized s base size line n (pos i) then go = by (nat_lt i size) refl
  where
    by : (b : Bool) → nat_lt i size ≡ b → Leaves s n (within (cond b (Some (base + i)) None) line then)
    by true is = let lt : i < size = ltb-true i size is in go (base + i) (omega (arith, lt))
    by false is = tt

answers_sized : (s : State) (a : Answer) (line n : ℕ) (os : List ℤ) → suc (length os) ≡ n
    → Leaves s n (answers a line os s)
answers_sized s (Ok v) line n os e = record { operands = e; cells = refl; globals = refl }
answers_sized s (Err why) line n os e = tt

reads_sized : (s : State) (bytes : List ℕ) (os : List ℤ) (n : ℕ) → suc (length os) ≡ n → Leaves s n (reads bytes os s)
reads_sized s [] os n e = record { operands = e; cells = refl; globals = refl }
reads_sized s (b ∷ bytes) os n e = record { operands = e; cells = refl; globals = refl }

puts_sized : (s : State) (room : Bool) (byte line n : ℕ) (os : List ℤ) → suc (length os) ≡ n
    → Leaves s n (puts room byte line os s)
puts_sized s true byte line n os e = record { operands = e; cells = refl; globals = refl }
puts_sized s false byte line n os e = tt

two_sized : (s : State) (f : ℤ → ℤ → Answer) (line n : ℕ) (os : List ℤ) → 2 ≤ length os → length os ≡ suc n
    → Leaves s n (on_two f line os s)
two_sized s f line n [] le e = absurd (omega (arith, le))
two_sized s f line n (b ∷ []) le e = absurd (omega (arith, le))
two_sized s f line n (b ∷ a ∷ os) le e = answers_sized s (f a b) line n os (omega (arith, e))

one_sized : (s : State) (f : ℤ → Answer) (line n : ℕ) (os : List ℤ) → 1 ≤ length os → length os ≡ n
    → Leaves s n (on_one f line os s)
one_sized s f line n [] le e = absurd (omega (arith, le))
one_sized s f line n (a ∷ os) le e = answers_sized s (f a) line n os e

leaves_sized : (s : State) (os : List ℤ) (n : ℕ) → length os ≡ n → Leaves s n (leaves os s)
leaves_sized s os n e = record { operands = e; cells = refl; globals = refl }

-- each operation on the lists leaves what its row says
pub row_sized : (o : Op) (os : List ℤ) (s : State) → is_step o ≡ true → takes o ≤ length os
    → HasCells o s.cells s.globals
    → Leaves s (length os - takes o + gives o) (row o os s)
row_sized (op.Push n) os s h le has = leaves_sized s _ _ (omega arith)
row_sized op.Dup (a ∷ os) s h le has = leaves_sized s _ _ (omega arith)
row_sized op.Dup [] s h le has = absurd (omega (arith, le))
row_sized op.Drop (a ∷ os) s h le has = leaves_sized s _ _ (omega arith)
row_sized op.Drop [] s h le has = absurd (omega (arith, le))
row_sized op.Swap (b ∷ a ∷ os) s h le has = leaves_sized s _ _ (omega arith)
row_sized op.Swap (b ∷ []) s h le has = absurd (omega (arith, le))
row_sized op.Swap [] s h le has = absurd (omega (arith, le))
row_sized op.Over (b ∷ a ∷ os) s h le has = leaves_sized s _ _ (omega arith)
row_sized op.Over (b ∷ []) s h le has = absurd (omega (arith, le))
row_sized op.Over [] s h le has = absurd (omega (arith, le))
row_sized (op.Convert t) (a ∷ os) s h le has = leaves_sized s _ _ (omega arith)
row_sized (op.Convert t) [] s h le has = absurd (omega (arith, le))
row_sized op.Not (a ∷ os) s h le has = leaves_sized s _ _ (omega arith)
row_sized op.Not [] s h le has = absurd (omega (arith, le))
row_sized (op.LoadLocal w) os s h le has = loads_sized s s.cells os w _ has (omega arith)
row_sized (op.StoreLocal w) (a ∷ os) s h le has = cells_sized s (a ∷ os) w _ a has (omega arith)
row_sized (op.StoreLocal w) [] s h le has = absurd (omega (arith, le))
row_sized (op.LoadGlobal w) os s h le has = loads_sized s s.globals os w _ has (omega arith)
row_sized (op.StoreGlobal w) (a ∷ os) s h le has = globals_sized s (a ∷ os) w _ a has (omega arith)
row_sized (op.StoreGlobal w) [] s h le has = absurd (omega (arith, le))
row_sized (op.CheckIndex size line) (a ∷ os) s h le has =
    within_sized s 0 size line _ a _ (λ w lt. leaves_sized s _ _ (omega arith))
row_sized (op.CheckIndex size line) [] s h le has = absurd (omega (arith, le))
row_sized (op.LoadLocalAt base size) (i ∷ os) s h le has =
    within_sized s base size 0 _ i _ (λ w lt. loads_sized s s.cells os w _ (omega (arith, lt, has)) (omega arith))
row_sized (op.LoadLocalAt base size) [] s h le has = absurd (omega (arith, le))
row_sized (op.StoreLocalAt base size) (a ∷ i ∷ os) s h le has =
    within_sized s base size 0 _ i _ (λ w lt. cells_sized s (a ∷ os) w _ a (omega (arith, lt, has)) (omega arith))
row_sized (op.StoreLocalAt base size) (a ∷ []) s h le has = absurd (omega (arith, le))
row_sized (op.StoreLocalAt base size) [] s h le has = absurd (omega (arith, le))
row_sized (op.LoadGlobalAt base size) (i ∷ os) s h le has =
    within_sized s base size 0 _ i _ (λ w lt. loads_sized s s.globals os w _ (omega (arith, lt, has)) (omega arith))
row_sized (op.LoadGlobalAt base size) [] s h le has = absurd (omega (arith, le))
row_sized (op.StoreGlobalAt base size) (a ∷ i ∷ os) s h le has =
    within_sized s base size 0 _ i _ (λ w lt. globals_sized s (a ∷ os) w _ a (omega (arith, lt, has)) (omega arith))
row_sized (op.StoreGlobalAt base size) (a ∷ []) s h le has = absurd (omega (arith, le))
row_sized (op.StoreGlobalAt base size) [] s h le has = absurd (omega (arith, le))
row_sized (op.Mul t line) os s h le has = two_sized s (binary bin_op.Mul t) line _ os le (omega (arith, le))
row_sized (op.Div t line) os s h le has = two_sized s (binary bin_op.Div t) line _ os le (omega (arith, le))
row_sized (op.Rem t line) os s h le has = two_sized s (binary bin_op.Rem t) line _ os le (omega (arith, le))
row_sized (op.Add t line) os s h le has = two_sized s (binary bin_op.Add t) line _ os le (omega (arith, le))
row_sized (op.Sub t line) os s h le has = two_sized s (binary bin_op.Sub t) line _ os le (omega (arith, le))
row_sized (op.Shl t line) os s h le has = two_sized s (binary bin_op.Shl t) line _ os le (omega (arith, le))
row_sized (op.Shr t line) os s h le has = two_sized s (binary bin_op.Shr t) line _ os le (omega (arith, le))
row_sized (op.Less t line) os s h le has = two_sized s (binary bin_op.Less t) line _ os le (omega (arith, le))
row_sized (op.Greater t line) os s h le has = two_sized s (binary bin_op.Greater t) line _ os le (omega (arith, le))
row_sized (op.LessEqual t line) os s h le has = two_sized s (binary bin_op.LessEqual t) line _ os le (omega (arith, le))
row_sized (op.GreaterEqual t line) os s h le has =
    two_sized s (binary bin_op.GreaterEqual t) line _ os le (omega (arith, le))
row_sized (op.Equal t line) os s h le has = two_sized s (binary bin_op.Equal t) line _ os le (omega (arith, le))
row_sized (op.NotEqual t line) os s h le has = two_sized s (binary bin_op.NotEqual t) line _ os le (omega (arith, le))
row_sized (op.And t line) os s h le has = two_sized s (binary bin_op.And t) line _ os le (omega (arith, le))
row_sized (op.Xor t line) os s h le has = two_sized s (binary bin_op.Xor t) line _ os le (omega (arith, le))
row_sized (op.Or t line) os s h le has = two_sized s (binary bin_op.Or t) line _ os le (omega (arith, le))
row_sized (op.Minus t line) os s h le has = one_sized s (unary un_op.Minus t) line _ os le (omega (arith, le))
row_sized (op.Complement t line) os s h le has = one_sized s (unary un_op.Complement t) line _ os le (omega (arith, le))
row_sized op.GetChar os s h le has = reads_sized s s.input os _ (omega arith)
row_sized (op.PutChar line) (a ∷ os) s h le has =
    puts_sized s (nat_lt (length s.output) s.limit) (byte_of a) line _ os (omega arith)
row_sized (op.PutChar line) [] s h le has = absurd (omega (arith, le))
row_sized (op.Jump to) os s h le has = absurd (cc)
row_sized (op.Back to) os s h le has = absurd (cc)
row_sized (op.IfZero to) os s h le has = absurd (cc)
row_sized (op.IfNot to) os s h le has = absurd (cc)
row_sized (op.CaseJump n to) os s h le has = absurd (cc)
row_sized (op.Call f line) os s h le has = absurd (cc)
row_sized op.Return os s h le has = absurd (cc)
row_sized op.Exit os s h le has = absurd (cc)
row_sized (op.Count c) os s h le has = absurd (cc)
row_sized op.PathBegin os s h le has = absurd (cc)
row_sized (op.PathPass w) os s h le has = absurd (cc)
