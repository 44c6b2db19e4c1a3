-- The graph of an expression does what its meaning says.
use Rattle.std.proofs.Common.{◌≡◌, refl, sym, ap, subst, ◌∙◌, ℕ, suc, ◌+◌, ◌<◌, Bool, true, false, not, cond, List, []}
use Rattle.std.proofs.Common.{◌∷◌, ◌++◌, length, Option, Some, None, ◌⊎◌, inl, inr, arith}
use Rattle.std.specs.Prelude.{ℤ, pos, slice_get}
use Rattle.std.specs.Ordering.{int_eq}
use Rattle.int_ops.specs.declared.types.IntType.{IntType}
use Rattle.int_ops.specs.declared.types.IntType.TheVariants as type
use Rattle.int_ops.specs.declared.operators.BinOp.{BinOp}
use Rattle.int_ops.specs.Common.{common_type}
use Rattle.int_ops.specs.Apply.{binary, truth}
use Rattle.c_tree.specs.declared.expr.Base.{Base}
use Rattle.c_tree.specs.declared.expr.Base.TheVariants as base
use Rattle.c_tree.specs.declared.typed_expr.CellAt.{CellAt}
use Rattle.c_tree.specs.declared.typed_expr.Callee.TheVariants as callee
use Rattle.c_tree.specs.Typed.{TypedFunction}
use Rattle.c_tree.specs.TypedExpr.{TypedExpr, TypedKind, TypedExprs}
use Rattle.c_tree.specs.Sound.{Scope, bases_of, ints, HasValue}
use Rattle.c_tree.specs.TypedParts.{Class, compares, shifts, computes, class, base_of}
use Rattle.c_tree.specs.Sound.{NamesCell, Operates, Changes, SoundExpr, SoundKind, SoundExprs}
use Rattle.stack_ops.specs.declared.operation.Op.TheVariants as op
use Rattle.c_meaning.specs.Operands.{type_in, changing, conv_from}
use Rattle.c_lower.specs.Items.{
  Name,
  Close,
  Item,
  Ways,
  false_of,
  join_of,
  right_of,
  next_of,
  true_of,
  second_of,
  third_of,
  load_at,
  operator,
}
use Rattle.c_lower.specs.Items.{plainly, converted, dropped, plain, logic, nodes, ways, kind_ways, index_of}
use Rattle.c_lower.specs.Items.{all_values, loads, stores, named_on, kept, doubled}
use Rattle.flow_graph.specs.WalkRun.{Move}
use Rattle.c_meaning.specs.Meaning.{World, Result, Gives, Later, with_value, pick, beyond, load, store, answered}
use Rattle.c_meaning.specs.Meaning.{becomes, becomes_after, call, eval, eval_kind, place, eval_all}
use Rattle.lower_agrees.proofs.Runs.{Site, Trace, Leads, Placed, Stands, Within, Fits, pushed, AfterValue, gives, stops}
use Rattle.lower_agrees.proofs.Runs.{Sims, comes_in, value_on, value_then, value_to, number, at, going}
use Rattle.lower_agrees.proofs.Passes.{past_value, past_test, past_index, past_all, past_kept, past_converted}
use Rattle.lower_agrees.proofs.Passes.{past_dropped}
use Rattle.lower_agrees.proofs.Straight.{placed_tail, There, there_from, first_there, converts, drops, load_cell}
use Rattle.lower_agrees.proofs.Straight.{store_cell, store_fits, load_element, store_element, checks, operates, minus}
use Rattle.lower_agrees.proofs.Straight.{complement, reads_byte, puts_byte}
use Rattle.lower_agrees.proofs.Calls.{Calls, onto, calls_function}

-- an expression whose type is known
pub base_sims : {x : Site} {n : ℕ} {ws : Ways} {r : World → Result} {b c : Base} → b ≡ c → Sims x n ws c r
    → Sims x n ws b r
base_sims {x} {n} {ws} {r} e h = subst (λ (b : Base). Sims x n ws b r) (sym e) h

-- the types of two operands and of the result are types of numbers
operands : (c : Class) (l r b : Base) → Operates c l r b → HasValue l × HasValue r × HasValue b
operands compares l r b h = ((h.1.0, h.1.1), (h.1.0, sym h.0 ∙ h.1.1), (type.Int, h.2))
operands shifts l r b h = ((h.1.0, h.0 ∙ h.1.1), (h.2.0, h.2.1), (h.1.0, h.1.1))
operands computes l r b h = ((h.2.0, h.0 ∙ h.2.1), (h.2.0, h.1 ∙ h.2.1), (h.2.0, h.2.1))

-- what changes a variable is a number
changer : (c : Class) (b v : Base) → Changes c b v → HasValue v
changer compares b v h = absurd h
changer shifts b v h = (h.0, h.1)
changer computes b v h = (h.1, h.3)

abbrev first_base : List Base → Base
first_base [] = base.Void
first_base (b ∷ bs) = b

abbrev later_bases : List Base → List Base
later_bases [] = []
later_bases (b ∷ bs) = bs

module _ (x : Site) (n : ℕ) (stands : Stands x) where
  -- a value is branched on
  branches : (one other : Name) (rest : List Item) (t : Trace) (v : ℤ) (stack : List ℤ) (w : World) (b : Base)
      → HasValue b
      → Leads x.source (at x (Item.End (Close.Branch one other) None ∷ rest) t (pushed b v stack) w)
      (λ t. going x (pick v (number x one) (number x other)) t stack w)
  branches one other rest t v stack w b has =
      subst (λ (b : Base). Leads x.source (at x (Item.End (Close.Branch one other) None ∷ rest) t (pushed b v stack) w)
      (λ t. going x (pick v (number x one) (number x other)) t stack w)) (sym has.1) (λ run h. h t)

  -- a value, which is branched on as a condition
  plain_sims : {r : World → Result} (b : Base) (v : List Item → List Item)
      → ((rest : List Item) (t : Trace) (stack : List ℤ) (w : World) → Placed x (v rest) → Fits x n w
      → AfterValue x n (at x (v rest) t stack w) (λ t a w. at x rest t (pushed b a stack) w) (r w))
      → Sims x n (plain v) b r
  plain_sims b v h = record {
    value = h;
    test = λ one other rest t stack w has placed fits.
        value_to (h (Item.End (Close.Branch one other) None ∷ rest) t stack w placed fits)
        (λ t a w. branches one other rest t a stack w b has);
  }

  -- ---- `&&`, `||` and `?:`

  -- a condition, whatever comes in its two blocks
  abbrev Conditions : (Name → Name → List Item → List Item) → (World → Result) → Type 0
  Conditions k r = (one other : Name) (rest : List Item) (t : Trace) (stack : List ℤ) (w : World)
      (target : Trace → ℤ → World → Move) → Placed x (k one other rest)
      → Fits x n w → ((t : Trace) (w : World) → Fits x n w → AfterValue x n (going x (number x one) t stack w) target
      (Gives (pos 1) w))
      → ((t : Trace) (w : World) → Fits x n w → AfterValue x n (going x (number x other) t stack w) target
      (Gives (pos 0) w))
      → AfterValue x n (at x (k one other rest) t stack w) target (r w)

  -- a condition as a value
  logic_sims : (m line : ℕ) (k : Name → Name → List Item → List Item) (r : World → Result)
      → ((one other : Name) (rest : List Item) → Placed x (k one other rest) → Placed x rest) → Conditions k r
      → Sims x n (logic m line k) (base.Int type.Int) r
  logic_sims m line k r passes holds = record {
    value = λ rest t stack w placed fits.
        let no : List Item = Item.Begin (false_of m) (Some line) ∷ Item.Do (op.Push (pos 0)) None ∷ Item.Begin
        (join_of m)
        (Some line) ∷ rest in
        let done : List Item = Item.Do (op.Push (pos 1)) None ∷ Item.End (Close.Jump (join_of m)) None ∷ no in
        let p : Placed x (Item.Begin (true_of m) (Some line) ∷ done) = passes (true_of m) (false_of m)
        (Item.Begin (true_of m) (Some line) ∷ done) placed in
        holds (true_of m) (false_of m) (Item.Begin (true_of m) (Some line) ∷ done) t stack w
        (λ t v w. at x rest t (v ∷ stack) w)
        placed fits
        (λ t w fits. value_on (comes_in x (true_of m) (Some line) done stands p.0 t stack w)
        (λ t. gives (comes_in x (join_of m) (Some line) rest stands p.1.1.0 t (pos 1 ∷ stack) w) fits))
        (λ t w fits. value_on (comes_in x (false_of m) (Some line)
        (Item.Do (op.Push (pos 0)) None ∷ Item.Begin (join_of m) (Some line) ∷ rest) stands p.1.0 t stack w)
        (λ t. gives (comes_in x (join_of m) (Some line) rest stands p.1.1.0 t (pos 0 ∷ stack) w) fits));
    test = λ one other rest t stack w has placed fits.
        holds one other rest t stack w (λ t v w. going x (pick v (number x one) (number x other)) t stack w) placed fits
        (λ t w fits. gives (λ run h. h t) fits) (λ t w fits. gives (λ run h. h t) fits);
  }

  module _ (line : ℕ) (middle : Name) (wl wr : Ways) (bl br : Base) (rl rr : World → Result)
      (passes : (one other : Name) (rest : List Item) → Placed x (wl.test one other rest) → Placed x rest)
      (hl : HasValue bl) (hr : HasValue br) (sl : Sims x n wl bl rl) (sr : Sims x n wr br rr) where
    and_holds : Conditions (λ t f rest. wl.test middle f (Item.Begin middle (Some line) ∷ wr.test t f rest))
        (λ w. with_value (rl w) (λ a w. pick a (with_value (rr w) (λ y w. Gives (truth (not (int_eq y (pos 0)))) w))
        (Gives (pos 0) w)))
    and_holds one other rest t stack w target placed fits if_one if_zero =
        value_then (sl.test middle other (Item.Begin middle (Some line) ∷ wr.test one other rest) t stack w hl placed
        fits)
        (λ t a w fits. by (int_eq a (pos 0)) t w fits)
      where
        p : Placed x (Item.Begin middle (Some line) ∷ wr.test one other rest)
        p = passes middle other (Item.Begin middle (Some line) ∷ wr.test one other rest) placed

        last : (zero : Bool) (t : Trace) (w : World) → Fits x n w
            → AfterValue x n (going x (cond zero (number x other) (number x one)) t stack w) target
            (Gives (truth (not zero)) w)
        last true t w fits = if_zero t w fits
        last false t w fits = if_one t w fits

        by : (zero : Bool) (t : Trace) (w : World) → Fits x n w
            → AfterValue x n (going x (cond zero (number x other) (number x middle)) t stack w) target
            (cond zero (Gives (pos 0) w) (with_value (rr w) (λ y w. Gives (truth (not (int_eq y (pos 0)))) w)))
        by true t w fits = if_zero t w fits
        by false t w fits =
            value_on (comes_in x middle (Some line) (wr.test one other rest) stands p.0 t stack w)
            (λ t. value_then (sr.test one other rest t stack w hr p.1 fits)
            (λ t y w fits. last (int_eq y (pos 0)) t w fits))

    or_holds : Conditions (λ t f rest. wl.test t middle (Item.Begin middle (Some line) ∷ wr.test t f rest))
        (λ w. with_value (rl w) (λ a w. pick a (Gives (pos 1) w)
        (with_value (rr w) (λ y w. Gives (truth (not (int_eq y (pos 0)))) w))))
    or_holds one other rest t stack w target placed fits if_one if_zero =
        value_then (sl.test one middle (Item.Begin middle (Some line) ∷ wr.test one other rest) t stack w hl placed
        fits)
        (λ t a w fits. by (int_eq a (pos 0)) t w fits)
      where
        p : Placed x (Item.Begin middle (Some line) ∷ wr.test one other rest)
        p = passes one middle (Item.Begin middle (Some line) ∷ wr.test one other rest) placed

        last : (zero : Bool) (t : Trace) (w : World) → Fits x n w
            → AfterValue x n (going x (cond zero (number x other) (number x one)) t stack w) target
            (Gives (truth (not zero)) w)
        last true t w fits = if_zero t w fits
        last false t w fits = if_one t w fits

        by : (zero : Bool) (t : Trace) (w : World) → Fits x n w
            → AfterValue x n (going x (cond zero (number x middle) (number x one)) t stack w) target
            (cond zero (with_value (rr w) (λ y w. Gives (truth (not (int_eq y (pos 0)))) w)) (Gives (pos 1) w))
        by true t w fits =
            value_on (comes_in x middle (Some line) (wr.test one other rest) stands p.0 t stack w)
            (λ t. value_then (sr.test one other rest t stack w hr p.1 fits)
            (λ t y w fits. last (int_eq y (pos 0)) t w fits))
        by false t w fits = if_one t w fits

  -- `?:`
  chooses : (line : ℕ) (first second joined : Name) (wc wx wy : Ways) (bc b : Base) (rc rx ry : World → Result)
      → ((one other : Name) (rest : List Item) → Placed x (wc.test one other rest) → Placed x rest)
      → ((rest : List Item) → Placed x (wx.value rest) → Placed x rest)
      → ((rest : List Item) → Placed x (wy.value rest) → Placed x rest)
      → HasValue bc → Sims x n wc bc rc → Sims x n wx b rx → Sims x n wy b ry
      → Sims x n (plain (λ rest. wc.test first second (Item.Begin first (Some line) ∷ wx.value
      (Item.End (Close.Jump joined) None ∷ Item.Begin second (Some line)
      ∷ wy.value (Item.Begin joined (Some line) ∷ rest))))) b (λ w. with_value (rc w) (λ a w. pick a (rx w) (ry w)))
  chooses line first second joined wc wx wy bc b rc rx ry past_c past_x past_y has sc sx sy = plain_sims b _
      (λ rest t stack w placed fits. go rest t stack w placed fits)
    where
      go : (rest : List Item) (t : Trace) (stack : List ℤ) (w : World)
          → Placed x (wc.test first second (Item.Begin first (Some line) ∷ wx.value
          (Item.End (Close.Jump joined) None ∷ Item.Begin second (Some line)
          ∷ wy.value (Item.Begin joined (Some line) ∷ rest)))) → Fits x n w
          → AfterValue x n (at x (wc.test first second (Item.Begin first (Some line) ∷ wx.value
          (Item.End (Close.Jump joined) None ∷ Item.Begin second (Some line)
          ∷ wy.value (Item.Begin joined (Some line) ∷ rest)))) t stack w) (λ t a w. at x rest t (pushed b a stack) w)
          (with_value (rc w) (λ a w. pick a (rx w) (ry w)))
      go rest t stack w placed fits =
          value_then (sc.test first second (Item.Begin first (Some line) ∷ one) t stack w has placed fits)
          (λ t a w fits. by (int_eq a (pos 0)) t w fits)
        where
          behind_both : List Item
          behind_both = Item.Begin joined (Some line) ∷ rest

          other : List Item
          other = wy.value (Item.Begin joined (Some line) ∷ rest)

          between : List Item
          between = Item.End (Close.Jump joined) None ∷ Item.Begin second (Some line) ∷ wy.value
              (Item.Begin joined (Some line) ∷ rest)

          one : List Item
          one = wx.value (Item.End (Close.Jump joined) None ∷ Item.Begin second (Some line) ∷ wy.value
              (Item.Begin joined (Some line) ∷ rest))

          p : Placed x (Item.Begin first (Some line) ∷ one)
          p = past_c first second (Item.Begin first (Some line) ∷ one) placed

          q : Placed x between
          q = past_x between p.1

          j : Placed x behind_both
          j = past_y behind_both q.1

          by : (zero : Bool) (t : Trace) (w : World) → Fits x n w
              → AfterValue x n (going x (cond zero (number x second) (number x first)) t stack w)
              (λ t a w. at x rest t (pushed b a stack) w)
              (cond zero (ry w) (rx w))
          by true t w fits =
              value_on (comes_in x second (Some line) other stands q.0 t stack w)
              (λ t. value_to (sy.value behind_both t stack w q.1 fits)
              (λ t v w. comes_in x joined (Some line) rest stands j.0 t (pushed b v stack) w))
          by false t w fits =
              value_on (comes_in x first (Some line) one stands p.0 t stack w)
              (λ t. value_to (sx.value between t stack w p.1 fits)
              (λ t v w. comes_in x joined (Some line) rest stands j.0 t (pushed b v stack) w))

  -- ---- cells that are assigned to

  -- What can be done with a cell that a name or an element is, with its index on the operands.
  record Spot (target : TypedExpr) (c : CellAt) (index : List ℤ) : Type 0 where
    pub loading : (line : Option ℕ) (rest : List Item) (t : Trace) (stack : List ℤ) (w : World) → Fits x n w
        → Leads x.source (at x (Item.Do (loads target) line ∷ rest) t (index ++ stack) w)
        (λ t. at x rest t (load c w ∷ stack) w)
    pub storing : (line : Option ℕ) (rest : List Item) (t : Trace) (v : ℤ) (stack : List ℤ) (w : World) → Fits x n w
        → Leads x.source (at x (Item.Do (stores target) line ∷ rest) t (v ∷ (index ++ stack)) w)
        (λ t. at x rest t (v ∷ stack) (store c v w))
    pub keeping : (rest : List Item) (t : Trace) (stack : List ℤ) (w : World)
        → Leads x.source (at x (kept target rest) t (index ++ stack) w) (λ t. at x rest t (index ++ (index ++ stack)) w)
    pub doubling : (rest : List Item) (t : Trace) (v : ℤ) (stack : List ℤ) (w : World)
        → Leads x.source (at x (doubled target rest) t (v ∷ (index ++ stack)) w)
        (λ t. at x rest t (v ∷ (index ++ (v ∷ stack))) w)

  name_spot : (c : CellAt) (b : Base) (p line : ℕ) → There x c → Spot (TypedExpr.At (TypedKind.Name c) b p line) c []
  name_spot c b p line there = record {
    loading = λ added rest t stack w fits. load_cell x c added rest t stack w there fits;
    storing = λ added rest t v stack w fits. store_cell x c added rest t v stack w there fits;
    keeping = λ rest t stack w run h. h t;
    doubling = λ rest t v stack w run h. h t;
  }

  element_spot : (c : CellAt) (size place named : ℕ) (e : TypedExpr) (b : Base) (p line k : ℕ) → k < size
      → There x (beyond c k)
      → Spot (TypedExpr.At (TypedKind.Index c size place named e) b p line) (beyond c k) (pos k ∷ [])
  element_spot c size place named e b p line k lt there = record {
    loading = λ added rest t stack w fits. load_element x c size k added rest t stack w lt there fits;
    storing = λ added rest t v stack w fits. store_element x c size k added rest t v stack w lt there fits;
    keeping = λ rest t stack w run h. h t;
    doubling = λ rest t v stack w run h. h t;
  }

  -- an operator's number is converted back and stored
  changes : {target : TypedExpr} {c : CellAt} {index : List ℤ} (spot : Spot target c index) (o : BinOp)
      (from in_type : IntType) (line : ℕ) (rest : List Item) (t : Trace)
      (v a : ℤ) (stack : List ℤ) (w : World) → Fits x n w
      → AfterValue x n (at x (plainly (operator o in_type line) (converted in_type from (plainly (stores target) rest)))
      t (v ∷ a ∷ (index ++ stack)) w)
      (λ t v w. at x rest t (v ∷ stack) w) (answered (binary o in_type a v) line w
      (λ r. becomes c (conv_from in_type from r) w))
  changes {target} {c} {index} spot o from in_type line rest t v a stack w fits =
      operates x o in_type line None (converted in_type from (plainly (stores target) rest)) t v a (index ++ stack) w
      (λ r. value_on (converts x in_type from (plainly (stores target) rest) t r (index ++ stack) w)
      (λ t. gives (spot.storing None rest t (conv_from in_type from r) stack w fits) (store_fits c _ fits)))

  -- and the old number is what is given
  changes_after : {target : TypedExpr} {c : CellAt} {index : List ℤ} (spot : Spot target c index) (o : BinOp)
      (from in_type : IntType) (line : ℕ) (rest : List Item)
      (t : Trace) (v a old : ℤ) (stack : List ℤ) (w : World) → Fits x n w → old ≡ load c w
      → AfterValue x n (at x (plainly (operator o in_type line)
      (converted in_type from (plainly (stores target) (plainly op.Drop rest)))) t
      (v ∷ a ∷ (index ++ (old ∷ stack))) w)
      (λ t v w. at x rest t (v ∷ stack) w) (answered (binary o in_type a v) line w
      (λ r. becomes_after c (conv_from in_type from r) w))
  changes_after {target} {c} {index} spot o from in_type line rest t v a old stack w fits is =
      operates x o in_type line None (converted in_type from (plainly (stores target) (plainly op.Drop rest))) t v a
      (index ++ (old ∷ stack)) w
      (λ r. value_on (converts x in_type from (plainly (stores target) (plainly op.Drop rest)) t r
      (index ++ (old ∷ stack)) w)
      (λ t. value_on (spot.storing None (plainly op.Drop rest) t (conv_from in_type from r) (old ∷ stack) w fits)
      (λ t. gives (subst (λ (v : ℤ). Leads x.source (at x rest t (old ∷ stack) (store c (conv_from in_type from r) w))
      (λ t. at x rest t (v ∷ stack) (store c (conv_from in_type from r) w))) is (λ run h. h t)) (store_fits c _ fits))))

  -- what is assigned to has a number
  cell_base : (s : Scope) (target : TypedExpr) → NamesCell target → SoundExpr s target → HasValue (base_of target)
  cell_base s (TypedExpr.At (TypedKind.Name c) b p line) names h = (h.2.1.0, h.2.1.1)
  cell_base s (TypedExpr.At (TypedKind.Index c size place named e) b p line) names h = (h.2.2.1.0, h.2.2.1.1)
  cell_base s (TypedExpr.At kind b p line) names h = absurd names

  module _ (s : Scope) {later : Later} (within : Within x s) (known : Calls x.source n later) where
    -- a byte is read; nothing was pushed
    got : (vs : List ℤ) (line : ℕ) (rest : List Item) (t : Trace) (stack : List ℤ) (w : World) → length vs ≡ 0
        → Fits x n w
        → AfterValue x n (at x (Item.Do op.GetChar (Some line) ∷ rest) t (onto vs stack) w)
        (λ t v w. at x rest t (v ∷ stack) w)
        (call later (suc (length x.callers)) callee.GetChar vs line w)
    got [] line rest t stack w count fits = reads_byte x (Some line) rest t stack w fits
    got (v ∷ vs) line rest t stack w count fits = absurd (omega (arith, count))

    -- a byte is put
    put : (vs : List ℤ) (line : ℕ) (rest : List Item) (t : Trace) (stack : List ℤ) (w : World) → length vs ≡ 1
        → Fits x n w
        → AfterValue x n (at x (Item.Do (op.PutChar line) (Some line) ∷ rest) t (onto vs stack) w)
        (λ t v w. at x rest t (v ∷ stack) w)
        (call later (suc (length x.callers)) callee.PutChar vs line w)
    put [] line rest t stack w count fits = absurd (omega (arith, count))
    put (v ∷ []) line rest t stack w count fits = puts_byte x line (Some line) rest t v stack w fits
    put (v ∷ u ∷ vs) line rest t stack w count fits = absurd (omega (arith, count))

    -- the run ends
    quits : (vs : List ℤ) (line m : ℕ) (rest : List Item) (t : Trace) (stack : List ℤ) (w : World) → length vs ≡ 1
        → Fits x n w
        → AfterValue x n (at x (Item.End Close.Quit (Some line) ∷ Item.Begin (next_of m) (Some line) ∷ rest) t
        (onto vs stack) w) (λ t v w. at x rest t stack w)
        (call later (suc (length x.callers)) callee.Exit vs line w)
    quits [] line m rest t stack w count fits = absurd (omega (arith, count))
    quits (v ∷ []) line m rest t stack w count fits = stops (record
        { blocks = 0; walked = _; comes = refl; same = refl })
    quits (v ∷ u ∷ vs) line m rest t stack w count fits = absurd (omega (arith, count))

    -- a condition that is turned over
    turned : (one other : Name) (zero : Bool) (t : Trace) (stack : List ℤ) (w : World) → Fits x n w
        → AfterValue x n (going x (cond zero (number x one) (number x other)) t stack w)
        (λ t v w. going x (pick v (number x one) (number x other)) t stack w)
        (Gives (truth zero) w)
    turned one other true t stack w fits = gives (λ run g. g t) fits
    turned one other false t stack w fits = gives (λ run g. g t) fits

    -- a cast to a number is one of a number
    cast_value : (b : Base) (u : IntType) → (base.Int u ≡ base.Void) ⊎ HasValue b → HasValue b
    cast_value b u (inl e) = absurd (cc)
    cast_value b u (inr has) = has

    mutual
      -- the graph of an expression does what its meaning says
      pub sims : (e : TypedExpr) → SoundExpr s e → (m : ℕ) → Sims x n (ways e m) (base_of e)
          (λ w. eval later (suc (length x.callers)) e w)
      sims (TypedExpr.At kind b place line) h m = sims_kind kind b line m h.2

      sims_kind : (kind : TypedKind) (b : Base) (line m : ℕ) → SoundKind s kind b
          → Sims x n (kind_ways kind b line m) b (λ w. eval_kind later (suc (length x.callers)) kind (type_in b) line w)
      sims_kind (TypedKind.Name c) b line m h =
          base_sims h.1.1 (plain_sims (base.Int h.1.0) _ (λ rest t stack w placed fits.
          gives (load_cell x c (Some line) rest t stack w (first_there x s c 1 h.1.0 within h.1.2 (omega arith)) fits)
          fits))
      sims_kind (TypedKind.Number k u) b line m h =
          base_sims h.0 (plain_sims (base.Int u) _ (λ rest t stack w placed fits. gives (λ run g. g t) fits))
      sims_kind TypedKind.EofName b line m h =
          base_sims h (plain_sims (base.Int type.Int) _ (λ rest t stack w placed fits. gives (λ run g. g t) fits))
      sims_kind (TypedKind.Call (callee.Function f) args) b line m h =
          let g = h.0.0 in
          base_sims h.0.3 (plain_sims g.result _ (λ rest t stack w placed fits.
          let back : List Item = Item.Begin (next_of m) (Some line) ∷ rest in
          let code : List Item = Item.End (Close.CallTo f line (next_of m)) (Some line) ∷ back in
          let p : Placed x back = past_all (Placed x) (placed_tail x) args (suc m) code placed in
          sims_all args g.params h.0.2 h.1 (suc m) code t stack w placed fits (λ vs t w count fits.
          value_to (calls_function x known f g line (next_of m) (Some line) back t vs stack w
          (subst (λ (fs : List TypedFunction). slice_get fs f ≡ Some g) within.functions h.0.1) count fits)
          (λ t v w. comes_in x (next_of m) (Some line) rest stands p.0 t (pushed g.result v stack) w))))
      sims_kind (TypedKind.Call callee.GetChar args) b line m h =
          base_sims h.0.1 (plain_sims (base.Int type.Int) _ (λ rest t stack w placed fits.
          sims_all args [] h.0.0 h.1 (suc m) (Item.Do op.GetChar (Some line) ∷ rest) t stack w placed fits
          (λ vs t w count fits.
          got vs line rest t stack w count fits)))
      sims_kind (TypedKind.Call callee.PutChar args) b line m h =
          base_sims h.0.1 (plain_sims (base.Int type.Int) _ (λ rest t stack w placed fits.
          sims_all args (type.Int ∷ []) h.0.0 h.1 (suc m) (Item.Do (op.PutChar line) (Some line) ∷ rest) t stack w
          placed fits (λ vs t w count fits.
          put vs line rest t stack w count fits)))
      sims_kind (TypedKind.Call callee.Exit args) b line m h =
          base_sims h.0.1 (plain_sims base.Void _ (λ rest t stack w placed fits.
          sims_all args (type.Int ∷ []) h.0.0 h.1 (suc m) (Item.End Close.Quit (Some line) ∷ Item.Begin (next_of m)
          (Some line) ∷ rest) t stack w placed fits
          (λ vs t w count fits. quits vs line m rest t stack w count fits)))
      sims_kind (TypedKind.Index c size place named e) b line m h =
          base_sims h.2.1.1 (plain_sims (base.Int h.2.1.0) _ (λ rest t stack w placed fits.
          let getting : List Item = Item.Do (load_at c size) (Some named) ∷ rest in
          value_then ((base_sims (sym h.3.1) (sims e h.5 (suc m))).value
          (Item.Do (op.CheckIndex size line) None ∷ getting) t stack w placed fits)
          (λ t i w fits. checks x size line i None getting t stack w (λ k lt.
          gives (load_element x c size k (Some named) rest t stack w lt
          (there_from x s c size h.2.1.0 k within h.2.1.2 lt) fits) fits))))
      sims_kind (TypedKind.Convert e) b line m h =
          base_sims h.0.1 (plain_sims (base.Int h.0.0) _ (λ rest t stack w placed fits.
          value_then ((base_sims (sym h.1.1) (sims e h.4 (suc m))).value
          (converted (type_in (base_of e)) (type_in b) rest) t stack w placed fits)
          (λ t v w fits. gives (converts x (type_in (base_of e)) (type_in b) rest t v stack w) fits)))
      sims_kind (TypedKind.Plus e) b line m h =
          plain_sims b _ (λ rest t stack w placed fits. (base_sims (sym h.1) (sims e h.2 (suc m))).value rest t stack w
          placed fits)
      sims_kind (TypedKind.Minus e) b line m h =
          base_sims h.0.1 (plain_sims (base.Int h.0.0) _ (λ rest t stack w placed fits.
          value_then ((base_sims (sym (h.1 ∙ h.0.1)) (sims e h.2 (suc m))).value
          (plainly (op.Minus (type_in b) line) rest) t stack w placed fits)
          (λ t v w fits. minus x (type_in b) line None rest t v stack w (λ r. gives (λ run g. g t) fits))))
      sims_kind (TypedKind.Complement e) b line m h =
          base_sims h.0.1 (plain_sims (base.Int h.0.0) _ (λ rest t stack w placed fits.
          value_then ((base_sims (sym (h.1 ∙ h.0.1)) (sims e h.2 (suc m))).value
          (plainly (op.Complement (type_in b) line) rest) t stack w placed fits)
          (λ t v w fits. complement x (type_in b) line None rest t v stack w (λ r. gives (λ run g. g t) fits))))
      sims_kind (TypedKind.Not e) b line m h =
          base_sims h.0 (record {
            value = λ rest t stack w placed fits.
                value_then ((base_sims (sym h.1.1) (sims e h.3 (suc m))).value (plainly op.Not rest) t stack w placed
                fits)
                (λ t v w fits. gives (λ run g. g t) fits);
            test = λ one other rest t stack w has placed fits.
                value_then ((base_sims (sym h.1.1) (sims e h.3 (suc m))).test other one rest t stack w (h.1.0, refl)
                placed fits)
                (λ t v w fits. turned one other (int_eq v (pos 0)) t stack w fits);
          })
      sims_kind (TypedKind.Cast base.Void e) b line m h =
          base_sims h.0 (plain_sims base.Void _ (λ rest t stack w placed fits.
          value_then ((sims e h.3 (suc m)).value (dropped (base_of e) rest) t stack w placed fits)
          (λ t v w fits. gives (drops x (base_of e) rest t v stack w) fits)))
      sims_kind (TypedKind.Cast (base.Int u) e) b line m h =
          let has = cast_value (base_of e) u h.1 in
          base_sims h.0 (plain_sims (base.Int u) _ (λ rest t stack w placed fits.
          value_then ((base_sims (sym has.1) (sims e h.3 (suc m))).value (converted (type_in (base_of e)) u rest) t
          stack w placed fits)
          (λ t v w fits. gives (converts x (type_in (base_of e)) u rest t v stack w) fits)))
      sims_kind (TypedKind.Binary o l r) b line m h =
          let has = operands (class o) (base_of l) (base_of r) b h.0 in
          base_sims has.2.1 (plain_sims (base.Int has.2.0) _ (λ rest t stack w placed fits.
          let done : List Item = plainly (operator o (type_in (base_of l)) line) rest in
          let right : List Item = (ways r (suc m + nodes l)).value done in
          value_then ((base_sims (sym has.0.1) (sims l h.1 (suc m))).value right t stack w placed fits) (λ t a w fits.
          value_then ((base_sims (sym has.1.1) (sims r h.2 (suc m + nodes l))).value done t (a ∷ stack) w
          (past_value (Placed x) (placed_tail x) l (suc m) right placed) fits) (λ t y w fits.
          operates x o (type_in (base_of l)) line None rest t y a stack w (λ v. gives (λ run g. g t) fits)))))
      sims_kind (TypedKind.AndAlso l r) b line m h =
          base_sims h.0 (logic_sims m line _ _
          (λ one other rest p. past_test (Placed x) (placed_tail x) r (suc m + nodes l) one other rest
          (placed_tail x (Item.Begin (right_of m) (Some line)) ((ways r (suc m + nodes l)).test one other rest)
          (past_test (Placed x) (placed_tail x) l (suc m) (right_of m) other
          (Item.Begin (right_of m) (Some line) ∷ (ways r (suc m + nodes l)).test one other rest) p)))
          (and_holds line (right_of m) (ways l (suc m)) (ways r (suc m + nodes l)) (base_of l) (base_of r) _ _
          (λ one other rest p. past_test (Placed x) (placed_tail x) l (suc m) one other rest p) h.1 h.2
          (sims l h.5 (suc m)) (sims r h.6 (suc m + nodes l))))
      sims_kind (TypedKind.OrElse l r) b line m h =
          base_sims h.0 (logic_sims m line _ _
          (λ one other rest p. past_test (Placed x) (placed_tail x) r (suc m + nodes l) one other rest
          (placed_tail x (Item.Begin (right_of m) (Some line)) ((ways r (suc m + nodes l)).test one other rest)
          (past_test (Placed x) (placed_tail x) l (suc m) one (right_of m)
          (Item.Begin (right_of m) (Some line) ∷ (ways r (suc m + nodes l)).test one other rest) p)))
          (or_holds line (right_of m) (ways l (suc m)) (ways r (suc m + nodes l)) (base_of l) (base_of r) _ _
          (λ one other rest p. past_test (Placed x) (placed_tail x) l (suc m) one other rest p) h.1 h.2
          (sims l h.5 (suc m)) (sims r h.6 (suc m + nodes l))))
      sims_kind (TypedKind.Choose c l r) b line m h =
          chooses line (second_of m) (third_of m) (join_of m) (ways c (suc m)) (ways l (suc m + nodes c))
          (ways r (suc m + nodes c + nodes l)) (base_of c) b _ _ _
          (λ one other rest p. past_test (Placed x) (placed_tail x) c (suc m) one other rest p)
          (λ rest p. past_value (Placed x) (placed_tail x) l (suc m + nodes c) rest p)
          (λ rest p. past_value (Placed x) (placed_tail x) r (suc m + nodes c + nodes l) rest p)
          h.0 (sims c h.5 (suc m)) (base_sims (sym h.2) (sims l h.6 (suc m + nodes c)))
          (base_sims (sym h.3) (sims r h.7 (suc m + nodes c + nodes l)))
      sims_kind (TypedKind.Assign None target e) b line m h =
          let has = cell_base s target h.0 h.3 in
          base_sims (sym h.1 ∙ has.1) (plain_sims (base.Int has.0) _ (λ rest t stack w placed fits.
          let setting : List Item = Item.Do (stores target) (Some (named_on target)) ∷ rest in
          let right : List Item = (ways e (suc m + nodes target)).value setting in
          places target h.0 h.3 (suc m) right t stack w placed fits (λ c index spot t w fits.
          value_then ((base_sims (sym (sym h.2 ∙ sym h.1 ∙ has.1)) (sims e h.4 (suc m + nodes target))).value setting t
          (index ++ stack) w
          (past_index (Placed x) (placed_tail x) target (suc m) right placed) fits)
          (λ t v w fits. gives (spot.storing (Some (named_on target)) rest t v stack w fits) (store_fits c v fits)))))
      sims_kind (TypedKind.Assign (Some o) target e) b line m h =
          let has = cell_base s target h.0 h.3 in
          let num = changer (class o) b (base_of e) h.2 in
          let ty : IntType = type_in b in
          let u : IntType = changing (class o) (type_in b) (type_in (base_of e)) in
          base_sims (sym h.1 ∙ has.1) (plain_sims (base.Int has.0) _ (λ rest t stack w placed fits.
          let done : List Item = plainly (operator o u line) (converted u ty (plainly (stores target) rest)) in
          let right : List Item = (ways e (suc m + nodes target)).value done in
          let turning : List Item = converted ty u right in
          let getting : List Item = Item.Do (loads target) (Some (named_on target)) ∷ turning in
          let p : Placed x right = past_converted (Placed x) (placed_tail x) ty u right
          (past_kept (Placed x) (placed_tail x) target getting
          (past_index (Placed x) (placed_tail x) target (suc m) (kept target getting) placed)) in
          places target h.0 h.3 (suc m) (kept target getting) t stack w placed fits (λ c index spot t w fits.
          value_on (spot.keeping getting t stack w) (λ t.
          value_on (spot.loading (Some (named_on target)) turning t (index ++ stack) w fits) (λ t.
          value_on (converts x ty u right t (load c w) (index ++ stack) w) (λ t.
          value_then ((base_sims (sym num.1) (sims e h.4 (suc m + nodes target))).value done t
          (conv_from ty u (load c w) ∷ (index ++ stack)) w p fits)
          (λ t v after fits. changes spot o ty u line rest t v (conv_from ty u (load c w)) stack after fits)))))))
      sims_kind (TypedKind.Before o target) b line m h =
          let has = cell_base s target h.1 h.3 in
          let ty : IntType = type_in b in
          let u : IntType = common_type (type_in b) type.Int in
          base_sims (sym h.2 ∙ has.1) (plain_sims (base.Int has.0) _ (λ rest t stack w placed fits.
          let done : List Item = plainly (operator o u line) (converted u ty (plainly (stores target) rest)) in
          let turning : List Item = converted ty u (plainly (op.Push (pos 1)) done) in
          let getting : List Item = Item.Do (loads target) (Some (named_on target)) ∷ turning in
          places target h.1 h.3 (suc m) (kept target getting) t stack w placed fits (λ c index spot t w fits.
          value_on (spot.keeping getting t stack w) (λ t.
          value_on (spot.loading (Some (named_on target)) turning t (index ++ stack) w fits) (λ t.
          value_on (converts x ty u (plainly (op.Push (pos 1)) done) t (load c w) (index ++ stack) w) (λ t.
          changes spot o ty u line rest t (pos 1) (conv_from ty u (load c w)) stack w fits))))))
      sims_kind (TypedKind.After o target) b line m h =
          let has = cell_base s target h.1 h.3 in
          let ty : IntType = type_in b in
          let u : IntType = common_type (type_in b) type.Int in
          base_sims (sym h.2 ∙ has.1) (plain_sims (base.Int has.0) _ (λ rest t stack w placed fits.
          let done : List Item = plainly (operator o u line) (converted u ty
          (plainly (stores target) (plainly op.Drop rest))) in
          let turning : List Item = converted ty u (plainly (op.Push (pos 1)) done) in
          let getting : List Item = Item.Do (loads target) (Some (named_on target)) ∷ doubled target turning in
          places target h.1 h.3 (suc m) (kept target getting) t stack w placed fits (λ c index spot t w fits.
          value_on (spot.keeping getting t stack w) (λ t.
          value_on (spot.loading (Some (named_on target)) (doubled target turning) t (index ++ stack) w fits) (λ t.
          value_on (spot.doubling turning t (load c w) stack w) (λ t.
          value_on (converts x ty u (plainly (op.Push (pos 1)) done) t (load c w) (index ++ (load c w ∷ stack)) w) (λ t.
          changes_after spot o ty u line rest t (pos 1) (conv_from ty u (load c w)) (load c w) stack w fits refl)))))))
      sims_kind (TypedKind.Comma l r) b line m h =
          plain_sims b _ (λ rest t stack w placed fits.
          let right : List Item = (ways r (suc m + nodes l)).value rest in
          value_then ((sims l h.3 (suc m)).value (dropped (base_of l) right) t stack w placed fits) (λ t v w fits.
          value_on (drops x (base_of l) right t v stack w) (λ t.
          (base_sims (sym h.0) (sims r h.4 (suc m + nodes l))).value rest t stack w
          (past_dropped (Placed x) (placed_tail x) (base_of l) right
          (past_value (Placed x) (placed_tail x) l (suc m) (dropped (base_of l) right) placed)) fits)))

      -- what is assigned to is reached
      places : {goal : Trace → ℤ → World → Move} {then : CellAt → World → Result} (target : TypedExpr)
          → NamesCell target → SoundExpr s target → (m : ℕ)
          (rest : List Item) (t : Trace) (stack : List ℤ) (w : World) → Placed x (index_of target m rest) → Fits x n w
          → ((c : CellAt) (index : List ℤ) → Spot target c index → (t : Trace) (w : World) → Fits x n w
          → AfterValue x n (at x rest t (index ++ stack) w) goal (then c w))
          → AfterValue x n (at x (index_of target m rest) t stack w) goal
          (place later (suc (length x.callers)) target w then)
      places (TypedExpr.At (TypedKind.Name c) b p line) names h m rest t stack w placed fits after =
          after c [] (name_spot c b p line (first_there x s c 1 h.2.1.0 within h.2.1.2 (omega arith))) t w fits
      places (TypedExpr.At (TypedKind.Index c size place named e) b p line) names h m rest t stack w placed fits after =
          value_then ((base_sims (sym h.2.3.1) (sims e h.2.5 (suc m))).value
          (Item.Do (op.CheckIndex size line) None ∷ rest) t stack w placed fits)
          (λ t i w fits. checks x size line i None rest t stack w (λ k lt.
          after (beyond c k) (pos k ∷ []) (element_spot c size place named e b p line k lt
          (there_from x s c size h.2.2.1.0 k within h.2.2.1.2 lt)) t w fits))
      places (TypedExpr.At kind b p line) names h m rest t stack w placed fits after = absurd names

      -- arguments from left to right
      sims_all : {goal : Trace → ℤ → World → Move} {then : List ℤ → World → Result} (es : TypedExprs)
          (ps : List IntType) → bases_of es ≡ ints ps → SoundExprs s es
          → (m : ℕ) (rest : List Item) (t : Trace) (stack : List ℤ) (w : World) → Placed x (all_values es m rest)
          → Fits x n w
          → ((vs : List ℤ) (t : Trace) (w : World) → length vs ≡ length ps → Fits x n w
          → AfterValue x n (at x rest t (onto vs stack) w) goal (then vs w))
          → AfterValue x n (at x (all_values es m rest) t stack w) goal
          (eval_all later (suc (length x.callers)) es w then)
      sims_all TypedExprs.End [] e h m rest t stack w placed fits after = after [] t w refl fits
      sims_all TypedExprs.End (p ∷ ps) e h m rest t stack w placed fits after = absurd (cc)
      sims_all (TypedExprs.More a es) [] e h m rest t stack w placed fits after = absurd (cc)
      sims_all (TypedExprs.More a es) (p ∷ ps) e h m rest t stack w placed fits after =
          let more : List Item = all_values es (m + nodes a) rest in
          value_then ((base_sims (sym (ap (λ (l : List Base). first_base l) e)) (sims a h.0 m)).value more t stack w
          placed fits) (λ t v w fits.
          sims_all es ps (ap (λ (l : List Base). later_bases l) e) h.1 (m + nodes a) rest t (v ∷ stack) w
          (past_value (Placed x) (placed_tail x) a m more placed) fits
          (λ vs t w count fits. after (v ∷ vs) t w (ap suc count) fits))
