-- What each operation of a block does is what the meaning does there.
use Rattle.std.proofs.Common.{◌≡◌, refl, sym, subst, ◌∙◌, ℕ, ◌+◌, ◌==◌, ◌≤◌, ◌<◌, Bool, true, false, cond, List, []}
use Rattle.std.proofs.Common.{◌∷◌, ◌++◌, length, Option, Some, None, Ok, Err, arith}
use Rattle.std.specs.Prelude.{ℤ, pos, negsuc, slice_get, slice_set, nat_lt}
use Rattle.std.proofs.lemmas.Bool.{ltb-true, lt-ltb}
use Rattle.std.proofs.lemmas.Option.{slice_get-get_or}
use Rattle.std.proofs.lemmas.List.{length-set}
use Rattle.int_ops.specs.declared.types.IntType.{IntType}
use Rattle.int_ops.specs.declared.operators.BinOp.{BinOp}
use Rattle.int_ops.specs.declared.operators.BinOp.TheVariants as bin_op
use Rattle.int_ops.specs.declared.operators.UnOp.TheVariants as sign
use Rattle.int_ops.specs.Codes.{type_code}
use Rattle.int_ops.specs.Conversion.{convert}
use Rattle.int_ops.specs.Apply.{Answer, binary, unary}
use Rattle.c_tree.specs.declared.expr.Base.{Base}
use Rattle.c_tree.specs.declared.expr.Base.TheVariants as base
use Rattle.c_tree.specs.declared.typed_expr.CellAt.{CellAt}
use Rattle.c_tree.specs.declared.typed_expr.CellAt.TheVariants as cell
use Rattle.c_tree.specs.Typed.{Typed}
use Rattle.c_tree.specs.Sound.{Scope, HasCells}
use Rattle.stack_ops.specs.declared.endings.Outcome.{Outcome}
use Rattle.stack_ops.specs.declared.endings.Outcome.TheVariants as outcome
use Rattle.stack_ops.specs.declared.endings.Trap.TheVariants as trap
use Rattle.stack_ops.specs.declared.operation.Op.TheVariants as op
use Rattle.stack_ops.specs.Effect.{State, Step, leaves, loads, stored, sets_cells, sets_globals, within, answers, reads}
use Rattle.stack_ops.specs.Effect.{puts, trap_of, byte_of, row}
use Rattle.c_meaning.specs.Operands.{conv_from}
use Rattle.c_lower.specs.Items.{Item, load_op, store_op, load_at, store_at, operator, converted, dropped}
use Rattle.flow_graph.specs.WalkRun.{Point, Move, over, stepped, does, state_of}
use Rattle.c_meaning.specs.Meaning.{World, Result, Gives, Stops, ends, beyond, load, store, checked, answered}
use Rattle.c_meaning.specs.Meaning.{next_byte, put_byte}
use Rattle.lower_agrees.proofs.Runs.{Site, Trace, Placed, Leads, Ends, Fits, Within, AfterValue, gives, stops, point}
use Rattle.lower_agrees.proofs.Runs.{left, finishing, at, pushed}

-- what follows a step of an operation
abbrev pub behind : Site → List Item → Trace → List ℤ → World → Step → Move
behind x is t stack w step = stepped step (point x t stack w)
    (λ p. does (left x is).ops p (λ p. finishing x (left x is).close p))

-- blocks that are placed are so behind the first item
pub placed_tail : (x : Site) (i : Item) (is : List Item) → Placed x (i ∷ is) → Placed x is
placed_tail x (Item.Begin l line) is p = p.1
placed_tail x (Item.Do o line) is p = p
placed_tail x (Item.End c line) is p = p

-- a run that is over has come to this
pub over_ends : (source : Typed) (o : Outcome) (p : Point) → Ends source (over o p)
    (record { output = p.output; ending = o })
over_ends source o p = record {
  blocks = 0;
  walked = record { output = p.output; ending = o; walks = p.walks };
  comes =
      refl;
  same = refl;
}

-- ---- conversions

pub converts : (x : Site) (from to : IntType) (rest : List Item) (t : Trace) (v : ℤ) (stack : List ℤ) (w : World)
    → Leads x.source (at x (converted from to rest) t (v ∷ stack) w) (λ t. at x rest t (conv_from from to v ∷ stack) w)
converts x from to rest t v stack w = go (type_code from == type_code to)
  where
    go : (same : Bool) → Leads x.source (at x (cond same rest (Item.Do (op.Convert to) None ∷ rest)) t (v ∷ stack) w)
        (λ t. at x rest t (cond same v (convert to v) ∷ stack) w)
    go true = λ run h. h t
    go false = λ run h. h t

-- a value that is dropped
pub drops : (x : Site) (b : Base) (rest : List Item) (t : Trace) (v : ℤ) (stack : List ℤ) (w : World)
    → Leads x.source (at x (dropped b rest) t (pushed b v stack) w) (λ t. at x rest t stack w)
drops x (base.Int ty) rest t v stack w = λ run h. h t
drops x base.Void rest t v stack w = λ run h. h t

-- ---- cells

-- the cell is there
abbrev pub There : Site → CellAt → Type 0
There x (cell.Local c) = c < x.text.cells
There x (cell.Global c) = c < length x.source.globals

-- a cell of an array that a scope has is there
pub there_from : (x : Site) (s : Scope) (c : CellAt) (count : ℕ) (ty : IntType) (k : ℕ) → Within x s
    → HasCells s c count ty → k < count → There x (beyond c k)
there_from x s (cell.Local c) count ty k within h lt = let is = within.cells in let le = h.0 in omega arith
there_from x s (cell.Global c) count ty k within h lt = let is = within.globals in let le = h.0 in omega arith

-- the first of them
pub first_there : (x : Site) (s : Scope) (c : CellAt) (count : ℕ) (ty : IntType) → Within x s → HasCells s c count ty
    → 1 ≤ count → There x c
first_there x s (cell.Local c) count ty within h lt = let is = within.cells in let le = h.0 in omega arith
first_there x s (cell.Global c) count ty within h lt = let is = within.globals in let le = h.0 in omega arith

-- a number that is there is given
loaded : (x : Site) (rest : List Item) (t : Trace) (full stack : List ℤ) (w : World) (o : Option ℤ) (v : ℤ) → o ≡ Some v
    → Leads x.source (behind x rest t full w (loads o stack (state_of (point x t full w))))
    (λ t. at x rest t (v ∷ stack) w)
loaded x rest t full stack w o v e =
    subst (λ (o : Option ℤ). Leads x.source (behind x rest t full w (loads o stack (state_of (point x t full w))))
    (λ t. at x rest t (v ∷ stack) w))
    (sym e) (λ run h. h t)

-- a number goes into a cell that is there
set_cell : (x : Site) (rest : List Item) (t : Trace) (full stack : List ℤ) (w : World) (c : ℕ) (v : ℤ)
    → c < length w.cells
    → Leads x.source (behind x rest t full w (sets_cells (stored w.cells c v) stack (state_of (point x t full w))))
    (λ t. at x rest t stack (store (cell.Local c) v w))
set_cell x rest t full stack w c v lt =
    subst (λ (there : Bool). Leads x.source
    (behind x rest t full w (sets_cells (cond there (Some (slice_set w.cells c v)) None) stack
    (state_of (point x t full w))))
    (λ t. at x rest t stack (store (cell.Local c) v w))) (sym (lt-ltb c (length w.cells) lt)) (λ run h. h t)

set_global : (x : Site) (rest : List Item) (t : Trace) (full stack : List ℤ) (w : World) (c : ℕ) (v : ℤ)
    → c < length w.globals
    → Leads x.source (behind x rest t full w (sets_globals (stored w.globals c v) stack (state_of (point x t full w))))
    (λ t. at x rest t stack (store (cell.Global c) v w))
set_global x rest t full stack w c v lt =
    subst (λ (there : Bool). Leads x.source
    (behind x rest t full w (sets_globals (cond there (Some (slice_set w.globals c v)) None) stack
    (state_of (point x t full w))))
    (λ t. at x rest t stack (store (cell.Global c) v w))) (sym (lt-ltb c (length w.globals) lt)) (λ run h. h t)

cell_in : {x : Site} {n : ℕ} {w : World} (c : ℕ) → Fits x n w → c < x.text.cells → c < length w.cells
cell_in c fits lt = let is = fits.cells in omega arith

global_in : {x : Site} {n : ℕ} {w : World} (c : ℕ) → Fits x n w → c < length x.source.globals → c < length w.globals
global_in c fits lt = let is = fits.globals in omega arith

-- a number goes into a cell, and the world has its cells still
pub store_fits : {x : Site} {n : ℕ} {w : World} (c : CellAt) (v : ℤ) → Fits x n w → Fits x n (store c v w)
store_fits {w = w} (cell.Local c) v fits = record {
  turns = fits.turns;
  cells = length-set w.cells c v ∙ fits.cells;
  globals = fits.globals;
}
store_fits {w = w} (cell.Global c) v fits = record {
  turns = fits.turns;
  cells = fits.cells;
  globals = length-set
      w.globals c v ∙ fits.globals;
}

module _ (x : Site) {n : ℕ} where
  pub load_cell : (c : CellAt) (line : Option ℕ) (rest : List Item) (t : Trace) (stack : List ℤ) (w : World) → There x c
      → Fits x n w
      → Leads x.source (at x (Item.Do (load_op c) line ∷ rest) t stack w) (λ t. at x rest t (load c w ∷ stack) w)
  load_cell (cell.Local c) line rest t stack w there fits = loaded x rest t stack stack w _ _
      (slice_get-get_or w.cells c (pos 0) (cell_in c fits there))
  load_cell (cell.Global c) line rest t stack w there fits = loaded x rest t stack stack w _ _
      (slice_get-get_or w.globals c (pos 0) (global_in c fits there))

  pub store_cell : (c : CellAt) (line : Option ℕ) (rest : List Item) (t : Trace) (v : ℤ) (stack : List ℤ) (w : World)
      → There x c → Fits x n w
      → Leads x.source (at x (Item.Do (store_op c) line ∷ rest) t (v ∷ stack) w)
      (λ t. at x rest t (v ∷ stack) (store c v w))
  store_cell (cell.Local c) line rest t v stack w there fits = set_cell x rest t (v ∷ stack) (v ∷ stack) w c v
      (cell_in c fits there)
  store_cell (cell.Global c) line rest t v stack w there fits = set_global x rest t (v ∷ stack) (v ∷ stack) w c v
      (global_in c fits there)

  -- ---- elements

  pub load_element : (c : CellAt) (size k : ℕ) (line : Option ℕ) (rest : List Item) (t : Trace) (stack : List ℤ)
      (w : World) → k < size
      → There x (beyond c k) → Fits x n w
      → Leads x.source (at x (Item.Do (load_at c size) line ∷ rest) t (pos k ∷ stack) w)
      (λ t. at x rest t (load (beyond c k) w ∷ stack) w)
  load_element (cell.Local c) size k line rest t stack w lt there fits =
      subst (λ (b : Bool). Leads x.source
      (behind x rest t (pos k ∷ stack) w (within (cond b (Some (c + k)) None) 0
      (λ i. loads (slice_get w.cells i) stack (state_of (point x t (pos k ∷ stack) w)))))
      (λ t. at x rest t (load (cell.Local (c + k)) w ∷ stack) w)) (sym (lt-ltb k size lt))
      (loaded x rest t (pos k ∷ stack) stack w _ _ (slice_get-get_or w.cells (c + k) (pos 0)
      (cell_in (c + k) fits there)))
  load_element (cell.Global c) size k line rest t stack w lt there fits =
      subst (λ (b : Bool). Leads x.source
      (behind x rest t (pos k ∷ stack) w (within (cond b (Some (c + k)) None) 0
      (λ i. loads (slice_get w.globals i) stack (state_of (point x t (pos k ∷ stack) w)))))
      (λ t. at x rest t (load (cell.Global (c + k)) w ∷ stack) w)) (sym (lt-ltb k size lt))
      (loaded x rest t (pos k ∷ stack) stack w _ _ (slice_get-get_or w.globals (c + k) (pos 0)
      (global_in (c + k) fits there)))

  pub store_element : (c : CellAt) (size k : ℕ) (line : Option ℕ) (rest : List Item) (t : Trace) (v : ℤ)
      (stack : List ℤ) (w : World) → k < size
      → There x (beyond c k) → Fits x n w
      → Leads x.source (at x (Item.Do (store_at c size) line ∷ rest) t (v ∷ pos k ∷ stack) w)
      (λ t. at x rest t (v ∷ stack) (store (beyond c k) v w))
  store_element (cell.Local c) size k line rest t v stack w lt there fits =
      subst (λ (b : Bool). Leads x.source
      (behind x rest t (v ∷ pos k ∷ stack) w (within (cond b (Some (c + k)) None) 0
      (λ i. sets_cells (stored w.cells i v) (v ∷ stack) (state_of (point x t (v ∷ pos k ∷ stack) w)))))
      (λ t. at x rest t (v ∷ stack) (store (cell.Local (c + k)) v w))) (sym (lt-ltb k size lt))
      (set_cell x rest t (v ∷ pos k ∷ stack) (v ∷ stack) w (c + k) v (cell_in (c + k) fits there))
  store_element (cell.Global c) size k line rest t v stack w lt there fits =
      subst (λ (b : Bool). Leads x.source
      (behind x rest t (v ∷ pos k ∷ stack) w (within (cond b (Some (c + k)) None) 0
      (λ i. sets_globals (stored w.globals i v) (v ∷ stack) (state_of (point x t (v ∷ pos k ∷ stack) w)))))
      (λ t. at x rest t (v ∷ stack) (store (cell.Global (c + k)) v w))) (sym (lt-ltb k size lt))
      (set_global x rest t (v ∷ pos k ∷ stack) (v ∷ stack) w (c + k) v (global_in (c + k) fits there))

  -- an index is checked
  pub checks : {target : Trace → ℤ → World → Move} {then : ℕ → Result} (size line : ℕ) (i : ℤ) (added : Option ℕ)
      (rest : List Item) (t : Trace)
      (stack : List ℤ) (w : World)
      → ((k : ℕ) → k < size → AfterValue x n (at x rest t (pos k ∷ stack) w) target (then k))
      → AfterValue x n (at x (Item.Do (op.CheckIndex size line) added ∷ rest) t (i ∷ stack) w) target
      (checked size i line w then)
  checks {target} {then} size line (pos k) added rest t stack w after = go (nat_lt k size) refl
    where
      go : (b : Bool) → nat_lt k size ≡ b
          → AfterValue x n (behind x rest t (pos k ∷ stack) w
          (within (cond b (Some (0 + k)) None) line (λ i. leaves (pos k ∷ stack)
          (state_of (point x t (pos k ∷ stack) w)))))
          target (cond b (then k) (Stops (ends (outcome.Trapped trap.BadIndex line) w)))
      go true e = after k (ltb-true k size e)
      go false e = stops (over_ends x.source (outcome.Trapped trap.BadIndex line) (point x t (pos k ∷ stack) w))
  checks size line (negsuc k) added rest t stack w after =
      stops (over_ends x.source (outcome.Trapped trap.BadIndex line) (point x t (negsuc k ∷ stack) w))

  -- ---- operators

  -- an operator's number, or its trap
  answers_so : {target : Trace → ℤ → World → Move} {then : ℤ → Result} (a : Answer) (line : ℕ) (rest : List Item)
      (t : Trace) (full stack : List ℤ) (w : World)
      → ((v : ℤ) → AfterValue x n (at x rest t (v ∷ stack) w) target (then v))
      → AfterValue x n (behind x rest t full w (answers a line stack (state_of (point x t full w)))) target
      (answered a line w then)
  answers_so (Ok v) line rest t full stack w after = after v
  answers_so (Err why) line rest t full stack w after = stops
      (over_ends x.source (outcome.Trapped (trap_of why) line) (point x t full w))

row_of : (o : BinOp) (ty : IntType) (line : ℕ) (b a : ℤ) (rest : List ℤ) (s : State)
    → row (operator o ty line) (b ∷ a ∷ rest) s ≡ answers (binary o ty a b) line rest s
row_of bin_op.Mul ty line b a rest s = refl
row_of bin_op.Div ty line b a rest s = refl
row_of bin_op.Rem ty line b a rest s = refl
row_of bin_op.Add ty line b a rest s = refl
row_of bin_op.Sub ty line b a rest s = refl
row_of bin_op.Shl ty line b a rest s = refl
row_of bin_op.Shr ty line b a rest s = refl
row_of bin_op.Less ty line b a rest s = refl
row_of bin_op.Greater ty line b a rest s = refl
row_of bin_op.LessEqual ty line b a rest s = refl
row_of bin_op.GreaterEqual ty line b a rest s = refl
row_of bin_op.Equal ty line b a rest s = refl
row_of bin_op.NotEqual ty line b a rest s = refl
row_of bin_op.And ty line b a rest s = refl
row_of bin_op.Xor ty line b a rest s = refl
row_of bin_op.Or ty line b a rest s = refl

module _ (x : Site) {n : ℕ} where
  pub operates : {target : Trace → ℤ → World → Move} {then : ℤ → Result} (o : BinOp) (ty : IntType) (line : ℕ)
      (added : Option ℕ) (rest : List Item) (t : Trace)
      (b a : ℤ) (stack : List ℤ) (w : World)
      → ((v : ℤ) → AfterValue x n (at x rest t (v ∷ stack) w) target (then v))
      → AfterValue x n (at x (Item.Do (operator o ty line) added ∷ rest) t (b ∷ a ∷ stack) w) target
      (answered (binary o ty a b) line w then)
  operates {target} {then} o ty line added rest t b a stack w after =
      subst (λ (step : Step). AfterValue x n (behind x rest t (b ∷ a ∷ stack) w step) target
      (answered (binary o ty a b) line w then))
      (sym (row_of o ty line b a stack (state_of (point x t (b ∷ a ∷ stack) w))))
      (answers_so x (binary o ty a b) line rest t (b ∷ a ∷ stack) stack w after)

  pub minus : {target : Trace → ℤ → World → Move} {then : ℤ → Result} (ty : IntType) (line : ℕ) (added : Option ℕ)
      (rest : List Item) (t : Trace)
      (a : ℤ) (stack : List ℤ) (w : World) → ((v : ℤ) → AfterValue x n (at x rest t (v ∷ stack) w) target (then v))
      → AfterValue x n (at x (Item.Do (op.Minus ty line) added ∷ rest) t (a ∷ stack) w) target
      (answered (unary sign.Minus ty a) line w then)
  minus ty line added rest t a stack w after = answers_so x (unary sign.Minus ty a) line rest t (a ∷ stack) stack w
      after

  pub complement : {target : Trace → ℤ → World → Move} {then : ℤ → Result} (ty : IntType) (line : ℕ) (added : Option ℕ)
      (rest : List Item) (t : Trace)
      (a : ℤ) (stack : List ℤ) (w : World) → ((v : ℤ) → AfterValue x n (at x rest t (v ∷ stack) w) target (then v))
      → AfterValue x n (at x (Item.Do (op.Complement ty line) added ∷ rest) t (a ∷ stack) w) target
      (answered (unary sign.Complement ty a) line w then)
  complement ty line added rest t a stack w after = answers_so x (unary sign.Complement ty a) line rest t
      (a ∷ stack) stack w after

  -- ---- input and output

  pub reads_byte : (added : Option ℕ) (rest : List Item) (t : Trace) (stack : List ℤ) (w : World) → Fits x n w
      → AfterValue x n (at x (Item.Do op.GetChar added ∷ rest) t stack w) (λ t v w. at x rest t (v ∷ stack) w)
      (next_byte w.input w)
  reads_byte added rest t stack w fits = go w.input
    where
      go : (bytes : List ℕ) → AfterValue x n (behind x rest t stack w
          (reads bytes stack (state_of (point x t stack w))))
          (λ t v w. at x rest t (v ∷ stack) w) (next_byte bytes w)
      go [] = gives (λ run h. h t) fits
      go (b ∷ bytes) = gives (λ run h. h t) (record { turns = fits.turns; cells = fits.cells; globals = fits.globals })

  pub puts_byte : (line : ℕ) (added : Option ℕ) (rest : List Item) (t : Trace) (v : ℤ) (stack : List ℤ) (w : World)
      → Fits x n w
      → AfterValue x n (at x (Item.Do (op.PutChar line) added ∷ rest) t (v ∷ stack) w)
      (λ t v w. at x rest t (v ∷ stack) w) (put_byte (byte_of v) line w)
  puts_byte line added rest t v stack w fits = go (nat_lt (length w.output) 16777216)
    where
      go : (room : Bool) → AfterValue x n (behind x rest t (v ∷ stack) w
          (puts room (byte_of v) line stack (state_of (point x t (v ∷ stack) w))))
          (λ t v w. at x rest t (v ∷ stack) w)
          (cond room (Gives (pos (byte_of v)) (record w { output = w.output ++ byte_of v ∷ [] }))
          (Stops (ends (outcome.Trapped trap.OutputLimit line) w)))
      go true = gives (λ run h. h t) (record { turns = fits.turns; cells = fits.cells; globals = fits.globals })
      go false = stops (over_ends x.source (outcome.Trapped trap.OutputLimit line) (point x t (v ∷ stack) w))
