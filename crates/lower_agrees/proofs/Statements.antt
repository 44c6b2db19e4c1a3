-- The graph of a statement does what its meaning says.
use Rattle.std.proofs.Common.{◌≡◌, refl, sym, ap, subst, ◌∙◌, ℕ, zero, suc, ◌+◌, ◌-◌, ◌≤◌, ◌<◌, Bool, true, false, cond}
use Rattle.std.proofs.Common.{List, [], ◌∷◌, length, map, Option, Some, None, arith}
use Rattle.std.specs.Prelude.{ℤ, pos}
use Rattle.std.specs.Ordering.{int_eq}
use Rattle.int_ops.specs.declared.types.IntType.{IntType}
use Rattle.c_tree.specs.declared.expr.Base.{Base}
use Rattle.c_tree.specs.declared.typed_expr.CellAt.TheVariants as cell
use Rattle.c_tree.specs.Typed.{TypedFunction, Typed}
use Rattle.c_tree.specs.TypedExpr.{TypedExpr}
use Rattle.c_tree.specs.TypedStmt.{TypedInit, TypedVar, TypedStmt, OtherTyped, TypedForHead, TypedStmts, TypedItem}
use Rattle.c_tree.specs.TypedStmt.{TypedItems}
use Rattle.c_tree.specs.Sound.{Scope, Inside, looped, Each, SoundAt, SoundAlone, SoundValue}
use Rattle.c_tree.specs.TypedParts.{base_of, cells_of, size}
use Rattle.c_tree.specs.Sound.{SoundIf, SoundTest, SoundInit, SoundVars, SoundReturn, SoundStmt, SoundOther, SoundStmts}
use Rattle.c_tree.specs.Sound.{SoundItems, with_one, behind, behind_first}
use Rattle.stack_ops.specs.declared.endings.Outcome.TheVariants as outcome
use Rattle.stack_ops.specs.declared.operation.Op.TheVariants as op
use Rattle.c_lower.specs.Items.{
  Name,
  Close,
  Item,
  ways,
  nodes,
  body_of,
  else_of,
  test_of,
  again_of,
  head_of,
  label_of,
  step_of,
  end_of,
}
use Rattle.c_lower.specs.Items.{plainly, dropped, nodes_if, init_nodes, stmt_nodes, other_nodes, zeros, elements}
use Rattle.c_lower.specs.Items.{initialised, declarations, group_at, cases_of, default_of, labelled, value_if}
use Rattle.c_lower.specs.Items.{tested, stepped, continues_to, code, code_other, codes_of, code_items}
use Rattle.flow_graph.specs.WalkRun.{Caller, Move, enters, with_turn, chosen}
use Rattle.c_meaning.specs.Meaning.{World, Flow, Falls, Halts, Later, ends, use_value, pick, store, take_turn, eval}
use Rattle.c_meaning.specs.Meaning.{fill, clear, start, start_all, after_body, again, has_case, has_default, returned}
use Rattle.c_meaning.specs.Meaning.{exec, exec_other, exec_all, exec_items, exec_case, exec_default}
use Rattle.c_meaning.specs.Meaning.{tested as tested_so, stepped as stepped_so}
use Rattle.lower_agrees.proofs.Runs.{Site, Trace, Leads, Placed, Found, Stands, Within, Fits, pushed, AfterFlow, falls}
use Rattle.lower_agrees.proofs.Runs.{breaks, continues, returns, halts, comes_in, flow_on, flow_of_value, flow_then}
use Rattle.lower_agrees.proofs.Runs.{flow_to, body_then, switch_then, within_behind, within_first, number, point}
use Rattle.lower_agrees.proofs.Runs.{finishing, at, going}
use Rattle.lower_agrees.proofs.Passes.{past_value, past_test, past_init, past_tested, past_stepped, past_label}
use Rattle.lower_agrees.proofs.Passes.{past_code, past_other, past_items}
use Rattle.lower_agrees.proofs.Straight.{placed_tail, over_ends, drops, store_cell, store_fits, store_element}
use Rattle.lower_agrees.proofs.Calls.{Calls, site}
use Rattle.lower_agrees.proofs.Expressions.{base_sims, sims}

-- A `for` from its head on: a node m, whose test is node k.
abbrev pub round : Option TypedExpr → Option TypedExpr → TypedStmt → ℕ → ℕ → List Item → List Item
round test step a m k rest =
    Item.Begin (head_of m) None ∷ tested test k (body_of m) (end_of m)
    (code a (k + nodes_if test) (Close.Jump (end_of m)) (continues_to step (step_of m) (head_of m))
    (stepped step (k + nodes_if test + stmt_nodes a) (step_of m)
    (Item.End (Close.Back (head_of m)) None ∷ Item.Begin (end_of m) None ∷ rest)))

-- What comes once a turn was taken: calls, loops, and a `for` from its head on, do what the meaning says.
pub record Known (source : Typed) (n : ℕ) (later : Later) : Type 0 where
  pub calls : Calls source n later
  pub loop : (f : ℕ) (g : TypedFunction) (callers : List Caller) (s : Scope) (i : Inside) (a : TypedStmt) (m : ℕ)
      (b k : Close) (rest : List Item)
      → Stands (site source f g callers) → Within (site source f g callers) s → SoundStmt s i a
      → Placed (site source f g callers) (code a m b k rest)
      → (t : Trace) (w : World) → Fits (site source f g callers) n w → w.turns < n
      → AfterFlow (site source f g callers) n i (at (site source f g callers) (code a m b k rest) t [] w) b k rest
      (later.loop a (suc (length callers)) w)
  pub rounds : (f : ℕ) (g : TypedFunction) (callers : List Caller) (s : Scope) (i : Inside)
      (test step : Option TypedExpr) (a : TypedStmt) (m k : ℕ) (b c : Close)
      (rest : List Item) → Stands (site source f g callers) → Within (site source f g callers) s → SoundTest s test
      → SoundIf s step → SoundStmt s looped a
      → Placed (site source f g callers) (round test step a m k rest)
      → (t : Trace) (w : World) → Fits (site source f g callers) n w → w.turns < n
      → AfterFlow (site source f g callers) n i (at (site source f g callers) (round test step a m k rest) t [] w) b c
      rest
      (later.loop (TypedStmt.For (TypedForHead.Head OtherTyped.Nothing test step) a) (suc (length callers)) w)

-- what initialises an array
several : (s : Scope) (ty : IntType) (l : Option ℕ) (es : List TypedExpr) → SoundInit s ty l (TypedInit.Several es)
    → (length es ≤ cells_of l) × Each (SoundAt s ty) es
several s ty None es h = absurd h
several s ty (Some n) es h = (h.1, h.2)

-- what initialises a number
single : (s : Scope) (ty : IntType) (l : Option ℕ) (e : TypedExpr) → SoundInit s ty l (TypedInit.One e) → SoundAt s ty e
single s ty None e h = h
single s ty (Some n) e h = absurd h

-- the group of a label that stands right before has its block here
abbrev pub Joined : Site → Option Name → List Item → Type 0
Joined x None is = Unit {0}
Joined x (Some l) is = Found x l None is

-- a label's group has its block behind the label
label_found : (x : Site) (g : Option Name) (m : ℕ) (is : List Item) → Joined x g (labelled g m is)
    → Placed x (labelled g m is) → Found x (group_at g m) None is
label_found x None m is joined p = p.0
label_found x (Some l) m is joined p = joined

-- the cases of a switch with numbers of blocks
abbrev numbered_cases : Site → List (ℤ × Name) → List (ℤ × ℕ)
numbered_cases x cs = map (λ c. (c.0, number x c.1)) cs

-- where no case has the value, the default is chosen
no_case : (x : Site) (v : ℤ) (is : TypedItems) (m : ℕ) (g : Option Name) (default : ℕ) → has_case v is ≡ false
    → chosen v (numbered_cases x (cases_of is m g)) default ≡ default
no_case x v TypedItems.Last m g default e = refl
no_case x v (TypedItems.Further (TypedItem.Case n place) is) m g default e =
    go (int_eq n v) e (λ e. no_case x v is (suc m) (Some (group_at g m)) default e)
  where
    go : (hit : Bool) → cond hit true (has_case v is) ≡ false
        → (has_case v is ≡ false → chosen v (numbered_cases x (cases_of is (suc m) (Some (group_at g m)))) default ≡
        default)
        → cond hit (number x (group_at g m)) (chosen v (numbered_cases x (cases_of is (suc m) (Some (group_at g m))))
        default) ≡ default
    go true e more = absurd (let never : true ≡ false = e in cc)
    go false e more = more e
no_case x v (TypedItems.Further (TypedItem.Default place) is) m g default e = no_case x v is (suc m)
    (Some (group_at g m)) default e
no_case x v (TypedItems.Further (TypedItem.Item s) is) m g default e = no_case x v is (m + stmt_nodes s) None default e

-- where there is no default, the end of the switch is chosen
no_default : (is : TypedItems) (m : ℕ) (g : Option Name) (end : Name) → has_default is ≡ false
    → default_of is m g end ≡ end
no_default TypedItems.Last m g end e = refl
no_default (TypedItems.Further (TypedItem.Case n place) is) m g end e = no_default is (suc m) (Some (group_at g m)) end
    e
no_default (TypedItems.Further (TypedItem.Default place) is) m g end e = absurd (let never : true ≡ false = e in cc)
no_default (TypedItems.Further (TypedItem.Item s) is) m g end e = no_default is (m + stmt_nodes s) None end e

module _ (x : Site) (n : ℕ) (stands : Stands x) {later : Later} (known : Known x.source n later) where
  past : (i : Item) (is : List Item) → Placed x (i ∷ is) → Placed x is
  past i is p = placed_tail x i is p

  -- a turn is taken, or the run is out of turns
  goes_round : {i : Inside} {b k : Close} {rest : List Item} (loop : TypedStmt) (l : Name) (t : Trace) (w : World)
      → Fits x n w
      → ((u : ℕ) → u < n → Fits x n (record w { turns = u }) → AfterFlow x n i
      (going x (number x l) t [] (record w { turns = u })) b k rest
      (later.loop loop (suc (length x.callers)) (record w { turns = u })))
      → AfterFlow x n i (finishing x (Close.Back l) (point x t [] w)) b k rest
      (again later (suc (length x.callers)) loop w)
  goes_round {i} {b} {k} {rest} loop l t w fits after = by w.turns fits.turns
    where
      by : (turns : ℕ) → turns ≤ n → AfterFlow x n i (with_turn turns (point x t [] w)
          (λ p. Move.Goes_on (enters (number x l) p))) b k rest
          (take_turn turns (Halts (ends outcome.OutOfTurns w))
          (λ u. later.loop loop (suc (length x.callers)) (record w { turns = u })))
      by zero le = halts (over_ends x.source outcome.OutOfTurns (point x t [] w))
      by (suc u) le = after u le (record {
        turns = let le = le in omega arith;
        cells = fits.cells;
        globals =
            fits.globals;
      })

  -- a condition, with its two blocks
  does_test : {i : Inside} {b k : Close} {rest : List Item} {f g : World → Flow} (s : Scope) → Within x s
      → (c : TypedExpr) → SoundValue s c → (m : ℕ) (one other : Name)
      (is : List Item) (t : Trace) (w : World) → Placed x ((ways c m).test one other is) → Fits x n w
      → ((t : Trace) (w : World) → Fits x n w → AfterFlow x n i (going x (number x one) t [] w) b k rest (f w))
      → ((t : Trace) (w : World) → Fits x n w → AfterFlow x n i (going x (number x other) t [] w) b k rest (g w))
      → AfterFlow x n i (at x ((ways c m).test one other is) t [] w) b k rest
      (use_value (eval later (suc (length x.callers)) c w) (λ v w. pick v (f w) (g w)))
  does_test {i} {b} {k} {rest} {f} {g} s within c h m one other is t w placed fits first second =
      flow_of_value ((sims x n stands s within known.calls c h.2 m).test one other is t [] w h.0 placed fits)
      (λ t v w fits. by (int_eq v (pos 0)) t w fits)
    where
      by : (zero : Bool) (t : Trace) (w : World) → Fits x n w
          → AfterFlow x n i (going x (cond zero (number x other) (number x one)) t [] w) b k rest
          (cond zero (g w) (f w))
      by true t w fits = second t w fits
      by false t w fits = first t w fits

  -- ---- declarations

  -- the first of elements that become 0
  zero_first : (some c size k : ℕ) (line : Option ℕ) (rest : List Item) (t : Trace) (w : World) → k < size
      → c + k < x.text.cells → Fits x n w
      → ((t : Trace) → Leads x.source (at x (zeros some c size (suc k) None rest) t []
      (store (cell.Local (c + k)) (pos 0) w))
      (λ t. at x rest t [] (clear some (c + suc k) (store (cell.Local (c + k)) (pos 0) w)))
      × Fits x n (clear some (c + suc k) (store (cell.Local (c + k)) (pos 0) w)))
      → Leads x.source (at x (zeros (suc some) c size k line rest) t [] w)
      (λ t. at x rest t [] (clear some (c + suc k) (store (cell.Local (c + k)) (pos 0) w)))
      × Fits x n (clear some (c + suc k) (store (cell.Local (c + k)) (pos 0) w))
  zero_first some c size k line rest t w lt there fits more = (
    (λ run h. store_element x (cell.Local c) size k line (plainly op.Drop (zeros some c size (suc k) None rest)) t
        (pos 0) [] w lt there fits run
        (λ t. (more t).0 run h)),
    (more t).1,
  )

  -- elements become 0
  does_zeros : (some c size k : ℕ) (line : Option ℕ) (rest : List Item) (t : Trace) (w : World) → k + some ≤ size
      → c + size ≤ x.text.cells → Fits x n w
      → Leads x.source (at x (zeros some c size k line rest) t [] w) (λ t. at x rest t [] (clear some (c + k) w)) × Fits
      x n (clear some (c + k) w)
  does_zeros zero c size k line rest t w le there fits = ((λ run h. h t), fits)
  does_zeros (suc some) c size k line rest t w le there fits =
      subst (λ (j : ℕ). Leads x.source (at x (zeros (suc some) c size k line rest) t [] w)
      (λ t. at x rest t [] (clear some j (store (cell.Local (c + k)) (pos 0) w))) × Fits x n
      (clear some j (store (cell.Local (c + k)) (pos 0) w)))
      (let e : c + suc k ≡ suc (c + k) = omega arith in e)
      (zero_first some c size k line rest t w (let le = le in omega arith)
      (let le = le in let there = there in omega arith) fits
      (λ t. does_zeros some c size (suc k) None rest t (store (cell.Local (c + k)) (pos 0) w)
      (let le = le in omega arith) there
      (store_fits (cell.Local (c + k)) (pos 0) fits)))

  -- elements are set, and those that remain become 0
  does_elements : {i : Inside} {b d : Close} (s : Scope) → Within x s
      → (ty : IntType) (es : List TypedExpr) (m c size k total : ℕ) (line : Option ℕ) (rest : List Item)
      (t : Trace) (w : World) → k + length es ≡ total → total ≤ size → c + size ≤ x.text.cells → Each (SoundAt s ty) es
      → Placed x (elements es m c size k line rest) → Fits x n w
      → AfterFlow x n i (at x (elements es m c size k line rest) t [] w) b d rest
      (fill later (suc (length x.callers)) (c + k) es w (λ c w. Falls (clear (size - total) c w)))
  does_elements {i} {b} {d} s within ty [] m c size k total line rest t w count le there h placed fits =
      let done = does_zeros (size - k) c size k line rest t w (let count = count in let le = le in omega arith) there
      fits in
      subst (λ (j : ℕ). AfterFlow x n i (at x (zeros (size - k) c size k line rest) t [] w) b d rest
      (Falls (clear (size - j) (c + k) w)))
      (let e : k ≡ total = (let count = count in omega arith) in e) (falls done.0 done.1)
  does_elements {i} {b} {d} s within ty (e ∷ es) m c size k total line rest t w count le there h placed fits =
      let more : List Item = elements es (m + nodes e) c size (suc k) None rest in
      let setting : List Item = Item.Do (op.StoreLocalAt c size) line ∷ plainly op.Drop more in
      flow_of_value ((base_sims (sym h.0.0) (sims x n stands s within known.calls e h.0.1 m)).value setting t
      (pos k ∷ []) w placed fits) (λ t v w fits.
      flow_on (store_element x (cell.Local c) size k line (plainly op.Drop more) t v [] w
      (let count = count in let le = le in omega arith)
      (let count = count in let le = le in let there = there in omega arith) fits) (λ t.
      subst (λ (j : ℕ). AfterFlow x n i (at x more t [] (store (cell.Local (c + k)) v w)) b d rest
      (fill later (suc (length x.callers)) j es (store (cell.Local (c + k)) v w)
      (λ c w. Falls (clear (size - total) c w))))
      (let e : c + suc k ≡ suc (c + k) = omega arith in e)
      (does_elements s within ty es (m + nodes e) c size (suc k) total None rest t (store (cell.Local (c + k)) v w)
      (let count = count in omega arith) le there h.1
      (past_value (Placed x) past e m setting placed) (store_fits (cell.Local (c + k)) v fits))))

  -- a variable with an initialiser is set
  does_init : {i : Inside} {b d : Close} (s : Scope) → Within x s → (v : TypedVar) (init : TypedInit)
      → SoundInit s v.number_type v.length init
      → v.cell + size v ≤ x.text.cells → 1 ≤ size v → (m : ℕ) (rest : List Item) (t : Trace) (w : World)
      → Placed x (initialised v init m rest) → Fits x n w
      → AfterFlow x n i (at x (initialised v init m rest) t [] w) b d rest
      (start later (suc (length x.callers)) v init w)
  does_init s within v TypedInit.Absent h there some m rest t w placed fits = falls (λ run g. g t) fits
  does_init s within v (TypedInit.One e) h there some m rest t w placed fits =
      let one = single s v.number_type v.length e h in
      flow_of_value ((base_sims (sym one.0) (sims x n stands s within known.calls e one.1 m)).value
      (Item.Do (op.StoreLocal v.cell) (Some v.line) ∷ plainly op.Drop rest)
      t [] w placed fits) (λ t a w fits.
      falls (store_cell x (cell.Local v.cell) (Some v.line) (plainly op.Drop rest) t a [] w
      (let there = there in let some = some in omega arith) fits)
      (store_fits (cell.Local v.cell) a fits))
  does_init {i} {b} {d} s within v (TypedInit.Several es) h there some m rest t w placed fits =
      let all = several s v.number_type v.length es h in
      subst (λ (j : ℕ). AfterFlow x n i (at x (elements es m v.cell (size v) 0 (Some v.line) rest) t [] w) b d rest
      (fill later (suc (length x.callers)) j es w (λ c w. Falls (clear (size v - length es) c w))))
      (let e : v.cell + 0 ≡ v.cell = omega arith in e)
      (does_elements s within v.number_type es m v.cell (size v) 0 (length es) (Some v.line) rest t w (omega arith)
      all.0 there all.1 placed fits)

  -- declarations one behind another
  does_vars : {i : Inside} {b d : Close} (s : Scope) → Within x s → (vs : List TypedVar) → SoundVars s vs
      → (m : ℕ) (rest : List Item) (t : Trace) (w : World)
      → Placed x (declarations vs m rest) → Fits x n w
      → AfterFlow x n i (at x (declarations vs m rest) t [] w) b d rest (start_all later (suc (length x.callers)) vs w)
  does_vars s within [] h m rest t w placed fits = falls (λ run g. g t) fits
  does_vars s within (v ∷ vs) h m rest t w placed fits =
      let more : List Item = declarations vs (m + init_nodes v.init) rest in
      let inner : Within x (with_one s v) =
      record { functions = within.functions; cells = within.cells; globals = within.globals; result = within.result } in
      flow_then (does_init (with_one s v) inner v v.init h.0.init
      (let le = h.0.cells.0 in let is = within.cells in omega arith) (let le = h.0.long.some in omega arith)
      m more t w placed fits)
      (λ t w fits. does_vars (with_one s v) inner vs h.1 (m + init_nodes v.init) rest t w
      (past_init (Placed x) past v v.init m more placed) fits)

  -- ---- parts of statements

  -- an expression whose value is let go
  does_value : {i : Inside} {b d : Close} {rest : List Item} {f : World → Flow} (s : Scope) → Within x s
      → (e : TypedExpr) → SoundAlone s e → (m : ℕ) (is : List Item)
      (t : Trace) (w : World) → Placed x ((ways e m).value (dropped (base_of e) is)) → Fits x n w
      → ((t : Trace) (w : World) → Fits x n w → AfterFlow x n i (at x is t [] w) b d rest (f w))
      → AfterFlow x n i (at x ((ways e m).value (dropped (base_of e) is)) t [] w) b d rest
      (use_value (eval later (suc (length x.callers)) e w) (λ v w. f w))
  does_value s within e h m is t w placed fits after =
      flow_of_value ((sims x n stands s within known.calls e h.1 m).value (dropped (base_of e) is) t [] w placed fits)
      (λ t v w fits.
      flow_on (drops x (base_of e) is t v [] w) (λ t. after t w fits))

  -- a `return`
  does_return : {i : Inside} {b d : Close} {rest : List Item} (s : Scope) → Within x s → (e : Option TypedExpr)
      → SoundReturn s e → (m : ℕ) (line : Option ℕ)
      (t : Trace) (w : World) → Placed x (value_if e m (Item.End Close.Leave line ∷ rest)) → Fits x n w
      → AfterFlow x n i (at x (value_if e m (Item.End Close.Leave line ∷ rest)) t [] w) b d rest
      (returned later (suc (length x.callers)) e w)
  does_return s within None h m line t w placed fits =
      returns (subst (λ (l : List ℤ). Leads x.source (finishing x Close.Leave (point x t [] w))
      (λ t. finishing x Close.Leave (point x t l w)))
      (sym (ap (λ (b : Base). pushed b (pos 0) []) (sym within.result ∙ h))) (λ run g. g t)) fits
  does_return {rest = rest} s within (Some e) h m line t w placed fits =
      flow_of_value ((base_sims (sym (h.1 ∙ within.result)) (sims x n stands s within known.calls e h.2 m)).value
      (Item.End Close.Leave line ∷ rest) t [] w placed fits)
      (λ t v w fits. returns (λ run g. g t) fits)

  -- the test of a `for`
  does_tested : {i : Inside} {b d : Close} {rest : List Item} {f : World → Flow} (s : Scope) → Within x s
      → (test : Option TypedExpr) → SoundTest s test → (m : ℕ)
      (one other : Name) (is : List Item) (t : Trace) (w : World) → Placed x (tested test m one other is) → Fits x n w
      → ((t : Trace) (w : World) → Fits x n w → AfterFlow x n i (at x is t [] w) b d rest (f w))
      → ((t : Trace) (w : World) → Leads x.source (going x (number x other) t [] w) (λ t. at x rest t [] w))
      → AfterFlow x n i (at x (tested test m one other is) t [] w) b d rest
      (tested_so later (suc (length x.callers)) test w f)
  does_tested s within None h m one other is t w placed fits after out = after t w fits
  does_tested s within (Some c) h m one other is t w placed fits after out =
      let p : Placed x (Item.Begin one None ∷ is) = past_test (Placed x) past c m one other (Item.Begin one None ∷ is)
      placed in
      does_test s within c h m one other (Item.Begin one None ∷ is) t w placed fits
      (λ t w fits. flow_on (comes_in x one None is stands p.0 t [] w) (λ t. after t w fits))
      (λ t w fits. falls (out t w) fits)

  -- the step of a `for`
  does_step : {i : Inside} {b d : Close} {rest : List Item} {f : World → Flow} (s : Scope) → Within x s
      → (step : Option TypedExpr) → SoundIf s step → (m : ℕ) (name : Name)
      (is : List Item) (t : Trace) (w : World) → Placed x (stepped step m name is) → Fits x n w
      → ((t : Trace) (w : World) → Fits x n w → AfterFlow x n i (at x is t [] w) b d rest (f w))
      → AfterFlow x n i (at x (stepped step m name is) t [] w) b d rest
      (stepped_so later (suc (length x.callers)) step w f)
  does_step s within None h m name is t w placed fits after = after t w fits
  does_step s within (Some e) h m name is t w placed fits after =
      flow_on (comes_in x name None ((ways e m).value (dropped (base_of e) is)) stands placed.0 t [] w) (λ t.
      does_value s within e h m is t w placed.1 fits after)

  -- `continue` in a `for`
  does_continue : {i : Inside} {b d : Close} {rest : List Item} {f : World → Flow} (s : Scope) → Within x s
      → (step : Option TypedExpr) → SoundIf s step → (m : ℕ)
      (name head : Name) (is : List Item) (t : Trace) (w : World)
      → Placed x (stepped step m name (Item.End (Close.Back head) None ∷ is)) → Fits x n w
      → ((t : Trace) (w : World) → Fits x n w → AfterFlow x n i (at x (Item.End (Close.Back head) None ∷ is) t [] w) b d
      rest (f w))
      → AfterFlow x n i (finishing x (continues_to step name head) (point x t [] w)) b d rest
      (stepped_so later (suc (length x.callers)) step w f)
  does_continue s within None h m name head is t w placed fits after = after t w fits
  does_continue s within (Some e) h m name head is t w placed fits after =
      does_step s within (Some e) h m name (Item.End (Close.Back head) None ∷ is) t w placed fits after

  -- a `for` from its head on, with what its body does
  pub does_round : {i : Inside} {b d : Close} (s : Scope) → Within x s
      → (test step : Option TypedExpr) (a : TypedStmt) (m k : ℕ) (rest : List Item) → SoundTest s test
      → SoundIf s step → SoundStmt s looped a
      → ((t : Trace) (w : World) → Fits x n w → AfterFlow x n looped
      (at x (code a (k + nodes_if test) (Close.Jump (end_of m)) (continues_to step (step_of m) (head_of m))
      (stepped step (k + nodes_if test + stmt_nodes a) (step_of m)
      (Item.End (Close.Back (head_of m)) None ∷ Item.Begin (end_of m) None ∷ rest))) t [] w)
      (Close.Jump (end_of m)) (continues_to step (step_of m) (head_of m))
      (stepped step (k + nodes_if test + stmt_nodes a) (step_of m)
      (Item.End (Close.Back (head_of m)) None ∷ Item.Begin (end_of m) None ∷ rest))
      (exec later (suc (length x.callers)) a w))
      → Placed x (round test step a m k rest) → (t : Trace) (w : World) → Fits x n w
      → AfterFlow x n i (at x (round test step a m k rest) t [] w) b d rest
      (tested_so later (suc (length x.callers)) test w (λ w. after_body (exec later (suc (length x.callers)) a w)
      (λ w. stepped_so later (suc (length x.callers)) step w
      (λ w. again later (suc (length x.callers)) (TypedStmt.For (TypedForHead.Head OtherTyped.Nothing test step) a)
      w))))
  does_round {i} {b} {d} s within test step a m k rest ht hs ha body placed t w fits =
      let after : List Item = Item.Begin (end_of m) None ∷ rest in
      let back : List Item = Item.End (Close.Back (head_of m)) None ∷ after in
      let stepping : List Item = stepped step (k + nodes_if test + stmt_nodes a) (step_of m) back in
      let inner : List Item = code a (k + nodes_if test) (Close.Jump (end_of m))
      (continues_to step (step_of m) (head_of m))
      stepping in
      let testing : List Item = tested test k (body_of m) (end_of m) inner in
      let p : Placed x inner = past_tested (Placed x) past test k (body_of m) (end_of m) inner placed.1 in
      let q : Placed x stepping = past_code (Placed x) past a (k + nodes_if test) (Close.Jump (end_of m))
      (continues_to step (step_of m) (head_of m)) stepping p in
      let z : Placed x after = past_stepped (Placed x) past step (k + nodes_if test + stmt_nodes a) (step_of m) back q
      in
      flow_on (comes_in x (head_of m) None testing stands placed.0 t [] w) (λ t.
      does_tested s within test ht k (body_of m) (end_of m) inner t w placed.1 fits
      (λ t w fits. body_then (body t w fits) (λ t w. comes_in x (end_of m) None rest stands z.0 t [] w)
      (λ t w fits. does_step s within step hs (k + nodes_if test + stmt_nodes a) (step_of m) back t w q fits
      (λ t w fits. turn t w fits))
      (λ t w fits. does_continue s within step hs (k + nodes_if test + stmt_nodes a) (step_of m) (head_of m) after t w
      q fits
      (λ t w fits. turn t w fits)))
      (λ t w. comes_in x (end_of m) None rest stands z.0 t [] w))
    where
      turn : (t : Trace) (w : World) → Fits x n w → AfterFlow x n i
          (finishing x (Close.Back (head_of m)) (point x t [] w))
          b d rest
          (again later (suc (length x.callers)) (TypedStmt.For (TypedForHead.Head OtherTyped.Nothing test step) a) w)
      turn t w fits =
          goes_round (TypedStmt.For (TypedForHead.Head OtherTyped.Nothing test step) a) (head_of m) t w fits
          (λ u lt fits.
          known.rounds x.function x.text x.callers s i test step a m k b d rest stands within ht hs ha placed t
          (record w { turns = u }) fits lt)

  -- ---- switches

  -- a label begins its group's block, or stands in it
  label_in : (g : Option Name) (m : ℕ) (is : List Item) (t : Trace) (w : World) → Placed x (labelled g m is)
      → Leads x.source (at x (labelled g m is) t [] w) (λ t. at x is t [] w)
  label_in None m is t w placed = comes_in x (label_of m) None is stands placed.0 t [] w
  label_in (Some l) m is t w placed = λ run h. h t

  -- a case is hit, or a later one
  by_case : {i : Inside} {b d : Close} {rest : List Item} {f g : Flow} (hit flag : Bool) (one other : ℕ) (t : Trace)
      (w : World) → cond hit true flag ≡ true
      → AfterFlow x n i (going x one t [] w) b d rest f → (flag ≡ true
      → AfterFlow x n i (going x other t [] w) b d rest g)
      → AfterFlow x n i (going x (cond hit one other) t [] w) b d rest (cond hit f g)
  by_case true flag one other t w e first later = first
  by_case false flag one other t w e first later = later e

  -- the block that a switch chooses
  does_switch : {i : Inside} {b d : Close} {rest : List Item} {f g : Flow} (v : ℤ) (is : TypedItems) (m : ℕ)
      (end : Name) (t : Trace) (w : World) → Fits x n w
      → (has other : Bool) → has_case v is ≡ has → has_default is ≡ other
      → (has_case v is ≡ true
      → AfterFlow x n i (going x (chosen v (numbered_cases x (cases_of is m None))
      (number x (default_of is m None end))) t [] w) b d rest f)
      → (has_default is ≡ true → AfterFlow x n i (going x (number x (default_of is m None end)) t [] w) b d rest g)
      → Leads x.source (going x (number x end) t [] w) (λ t. at x rest t [] w)
      → AfterFlow x n i (going x (chosen v (numbered_cases x (cases_of is m None))
      (number x (default_of is m None end))) t [] w) b d rest
      (cond has f (cond other g (Falls w)))
  does_switch v is m end t w fits true other e e' first second out = first e
  does_switch {i} {b} {d} {rest} {f} {g} v is m end t w fits false true e e' first second out =
      subst (λ (j : ℕ). AfterFlow x n i (going x j t [] w) b d rest g)
      (sym (no_case x v is m None (number x (default_of is m None end)) e)) (second e')
  does_switch {i} {b} {d} {rest} {f} {g} v is m end t w fits false false e e' first second out =
      subst (λ (j : ℕ). AfterFlow x n i (going x j t [] w) b d rest (Falls w))
      (sym (no_case x v is m None (number x (default_of is m None end)) e))
      (subst (λ (l : Name). AfterFlow x n i (going x (number x l) t [] w) b d rest (Falls w))
      (sym (no_default is m None end e')) (falls out fits))

  -- ---- statements

  mutual
    -- the graph of a statement does what its meaning says
    pub does : (a : TypedStmt) (s : Scope) → Within x s → (i : Inside) → SoundStmt s i a
        → (m : ℕ) (b k : Close) (rest : List Item) → Placed x (code a m b k rest)
        → (t : Trace) (w : World) → Fits x n w
        → AfterFlow x n i (at x (code a m b k rest) t [] w) b k rest (exec later (suc (length x.callers)) a w)
    does (TypedStmt.Vars vars) s within i h m b k rest placed t w fits = does_vars s within vars h.1 (suc m) rest t w
        placed fits
    does (TypedStmt.Block ss) s within i h m b k rest placed t w fits = does_all ss s within i h (suc m) b k rest placed
        t w fits
    does TypedStmt.Empty s within i h m b k rest placed t w fits = falls (λ run g. g t) fits
    does (TypedStmt.Value e) s within i h m b k rest placed t w fits =
        does_value s within e h (suc m) rest t w placed fits (λ t w fits. falls (λ run g. g t) fits)
    does (TypedStmt.If c a OtherTyped.Nothing) s within i h m b k rest placed t w fits =
        let after : List Item = Item.Begin (end_of m) None ∷ rest in
        let one : List Item = code a (suc m + nodes c) b k after in
        let p : Placed x (Item.Begin (body_of m) None ∷ one) = past_test (Placed x) past c (suc m) (body_of m)
        (end_of m)
        (Item.Begin (body_of m) None ∷ one) placed in
        let z : Placed x after = past_code (Placed x) past a (suc m + nodes c) b k after p.1 in
        does_test s within c h.0 (suc m) (body_of m) (end_of m) (Item.Begin (body_of m) None ∷ one) t w placed fits
        (λ t w fits. flow_on (comes_in x (body_of m) None one stands p.0 t [] w) (λ t.
        flow_to (does a s within i h.1 (suc m + nodes c) b k after p.1 t w fits)
        (λ t w. comes_in x (end_of m) None rest stands z.0 t [] w)))
        (λ t w fits. falls (comes_in x (end_of m) None rest stands z.0 t [] w) fits)
    does (TypedStmt.If c a (OtherTyped.There e)) s within i h m b k rest placed t w fits =
        let after : List Item = Item.Begin (end_of m) None ∷ rest in
        let other : List Item = code e (suc m + nodes c + stmt_nodes a) b k after in
        let between : List Item = Item.End (Close.Jump (end_of m)) None ∷ Item.Begin (else_of m) None ∷ other in
        let one : List Item = code a (suc m + nodes c) b k between in
        let p : Placed x (Item.Begin (body_of m) None ∷ one) = past_test (Placed x) past c (suc m) (body_of m)
        (else_of m)
        (Item.Begin (body_of m) None ∷ one) placed in
        let q : Placed x (Item.Begin (else_of m) None ∷ other) = past_code (Placed x) past a (suc m + nodes c) b k
        between
        p.1 in
        let z : Placed x after = past_code (Placed x) past e (suc m + nodes c + stmt_nodes a) b k after q.1 in
        does_test s within c h.0 (suc m) (body_of m) (else_of m) (Item.Begin (body_of m) None ∷ one) t w placed fits
        (λ t w fits. flow_on (comes_in x (body_of m) None one stands p.0 t [] w) (λ t.
        flow_to (does a s within i h.1 (suc m + nodes c) b k between p.1 t w fits)
        (λ t w. comes_in x (end_of m) None rest stands z.0 t [] w)))
        (λ t w fits. flow_on (comes_in x (else_of m) None other stands q.0 t [] w) (λ t.
        flow_to (does e s within i h.2 (suc m + nodes c + stmt_nodes a) b k after q.1 t w fits)
        (λ t w. comes_in x (end_of m) None rest stands z.0 t [] w)))
    does (TypedStmt.While c a) s within i h m b k rest placed t w fits =
        let after : List Item = Item.Begin (end_of m) None ∷ rest in
        let back : List Item = Item.End (Close.Back (head_of m)) None ∷ after in
        let inner : List Item = code a (suc m + nodes c) (Close.Jump (end_of m)) (Close.Back (head_of m)) back in
        let testing : List Item = (ways c (suc m)).test (body_of m) (end_of m) (Item.Begin (body_of m) None ∷ inner) in
        let p : Placed x (Item.Begin (body_of m) None ∷ inner) = past_test (Placed x) past c (suc m) (body_of m)
        (end_of m)
        (Item.Begin (body_of m) None ∷ inner) placed.1 in
        let z : Placed x after = past_code (Placed x) past a (suc m + nodes c) (Close.Jump (end_of m))
        (Close.Back (head_of m)) back p.1 in
        flow_on (comes_in x (head_of m) None testing stands placed.0 t [] w) (λ t.
        does_test s within c h.0 (suc m) (body_of m) (end_of m) (Item.Begin (body_of m) None ∷ inner) t w placed.1 fits
        (λ t w fits. flow_on (comes_in x (body_of m) None inner stands p.0 t [] w) (λ t.
        body_then (does a s within looped h.1 (suc m + nodes c) (Close.Jump (end_of m)) (Close.Back (head_of m)) back
        p.1 t w
        fits)
        (λ t w. comes_in x (end_of m) None rest stands z.0 t [] w)
        (λ t w fits. goes_round (TypedStmt.While c a) (head_of m) t w fits (λ u lt fits.
        known.loop x.function x.text x.callers s i (TypedStmt.While c a) m b k rest stands within h placed t
        (record w { turns = u }) fits lt))
        (λ t w fits. goes_round (TypedStmt.While c a) (head_of m) t w fits (λ u lt fits.
        known.loop x.function x.text x.callers s i (TypedStmt.While c a) m b k rest stands within h placed t
        (record w { turns = u }) fits lt))))
        (λ t w fits. falls (comes_in x (end_of m) None rest stands z.0 t [] w) fits))
    does (TypedStmt.DoWhile a c line) s within i h m b k rest placed t w fits =
        let after : List Item = Item.Begin (end_of m) None ∷ rest in
        let back : List Item = Item.End (Close.Back (body_of m)) None ∷ after in
        let turning : List Item = Item.Begin (again_of m) (Some line) ∷ back in
        let testing : List Item = (ways c (suc m + stmt_nodes a)).test (again_of m) (end_of m) turning in
        let behind_body : List Item = Item.Begin (test_of m) None ∷ testing in
        let inner : List Item = code a (suc m) (Close.Jump (end_of m)) (Close.Jump (test_of m)) behind_body in
        let q : Placed x behind_body = past_code (Placed x) past a (suc m) (Close.Jump (end_of m))
        (Close.Jump (test_of m))
        behind_body placed.1 in
        let r : Placed x turning = past_test (Placed x) past c (suc m + stmt_nodes a) (again_of m) (end_of m) turning
        q.1 in
        flow_on (comes_in x (body_of m) None inner stands placed.0 t [] w) (λ t.
        body_then (does a s within looped h.0 (suc m) (Close.Jump (end_of m)) (Close.Jump (test_of m)) behind_body
        placed.1 t
        w fits)
        (λ t w. comes_in x (end_of m) None rest stands r.1.0 t [] w)
        (λ t w fits. flow_on (comes_in x (test_of m) None testing stands q.0 t [] w) (λ t.
        does_test s within c h.1 (suc m + stmt_nodes a) (again_of m) (end_of m) turning t w q.1 fits
        (λ t w fits. flow_on (comes_in x (again_of m) (Some line) back stands r.0 t [] w) (λ t.
        goes_round (TypedStmt.DoWhile a c line) (body_of m) t w fits (λ u lt fits.
        known.loop x.function x.text x.callers s i (TypedStmt.DoWhile a c line) m b k rest stands within h placed t
        (record w { turns = u }) fits lt)))
        (λ t w fits. falls (comes_in x (end_of m) None rest stands r.1.0 t [] w) fits)))
        (λ t w fits. flow_on (comes_in x (test_of m) None testing stands q.0 t [] w) (λ t.
        does_test s within c h.1 (suc m + stmt_nodes a) (again_of m) (end_of m) turning t w q.1 fits
        (λ t w fits. flow_on (comes_in x (again_of m) (Some line) back stands r.0 t [] w) (λ t.
        goes_round (TypedStmt.DoWhile a c line) (body_of m) t w fits (λ u lt fits.
        known.loop x.function x.text x.callers s i (TypedStmt.DoWhile a c line) m b k rest stands within h placed t
        (record w { turns = u }) fits lt)))
        (λ t w fits. falls (comes_in x (end_of m) None rest stands r.1.0 t [] w) fits))))
    does (TypedStmt.For (TypedForHead.Head first test step) a) s within i h m b k rest placed t w fits =
        let inside = within_first s first within in
        let whole : List Item = round test step a m (suc m + other_nodes first) rest in
        let after : List Item = Item.Begin (end_of m) None ∷ rest in
        let back : List Item = Item.End (Close.Back (head_of m)) None ∷ after in
        let stepping : List Item = stepped step (suc m + other_nodes first + nodes_if test + stmt_nodes a) (step_of m)
        back
        in
        let inner : List Item =
        code a (suc m + other_nodes first + nodes_if test) (Close.Jump (end_of m))
        (continues_to step (step_of m) (head_of m))
        stepping in
        let p : Placed x whole = past_other (Placed x) past first (suc m) b k whole placed in
        let q : Placed x inner = past_tested (Placed x) past test (suc m + other_nodes first) (body_of m) (end_of m)
        inner
        p.1 in
        flow_then (does_other first s within i h.0.1 (suc m) b k whole placed t w fits) (λ t w fits.
        does_round (behind_first s first) inside test step a m (suc m + other_nodes first) rest h.0.2 h.0.3 h.1
        (λ t w fits. does a (behind_first s first) inside looped h.1 (suc m + other_nodes first + nodes_if test)
        (Close.Jump (end_of m))
        (continues_to step (step_of m) (head_of m)) stepping q t w fits) p t w fits)
    does (TypedStmt.Switch e is) s within i h m b k rest placed t w fits =
        let after : List Item = Item.Begin (end_of m) None ∷ rest in
        let inner : List Item = code_items is (suc m + nodes e) None (Close.Jump (end_of m)) k after in
        let choosing : List Item =
        Item.End (Close.Select (cases_of is (suc m + nodes e) None) (default_of is (suc m + nodes e) None (end_of m)))
        None ∷ inner in
        let j : Inside = record { breaks = true; continues = i.continues } in
        let p : Placed x inner = past_value (Placed x) past e (suc m) choosing placed in
        let z : Placed x after = past_items (Placed x) past is (suc m + nodes e) None (Close.Jump (end_of m)) k after p
        in
        flow_of_value ((base_sims (sym h.0.1) (sims x n stands s within known.calls e h.1 (suc m))).value choosing t []
        w placed fits) (λ t v w fits.
        switch_then {j = j} {c = Close.Jump (end_of m)} {middle = after} refl
        (does_switch v is (suc m + nodes e) (end_of m) t w fits (has_case v is) (has_default is) refl refl
        (λ e'. does_case (base_of e) v is s within j h.4 (suc m + nodes e) None (Close.Jump (end_of m)) k after tt p e'
        _
        t w fits)
        (λ e'. does_default (base_of e) is s within j h.4 (suc m + nodes e) None (Close.Jump (end_of m)) k after tt p e'
        (end_of m) t w fits)
        (λ run g. g t))
        (λ t w. comes_in x (end_of m) None rest stands z.0 t [] w)
        (λ t w. comes_in x (end_of m) None rest stands z.0 t [] w))
    does (TypedStmt.Break place line) s within i h m b k rest placed t w fits = breaks (λ run g. g t) fits h.0
    does (TypedStmt.Continue place line) s within i h m b k rest placed t w fits = continues (λ run g. g t) fits h.0
    does (TypedStmt.Return e place line) s within i h m b k rest placed t w fits = does_return s within e h.1 (suc m)
        (Some line) t w placed fits

    does_other : (a : OtherTyped) (s : Scope) → Within x s → (i : Inside) → SoundOther s i a
        → (m : ℕ) (b k : Close) (rest : List Item) → Placed x (code_other a m b k rest)
        → (t : Trace) (w : World) → Fits x n w
        → AfterFlow x n i (at x (code_other a m b k rest) t [] w) b k rest
        (exec_other later (suc (length x.callers)) a w)
    does_other OtherTyped.Nothing s within i h m b k rest placed t w fits = falls (λ run g. g t) fits
    does_other (OtherTyped.There a) s within i h m b k rest placed t w fits = does a s within i h m b k rest placed t w
        fits

    pub does_all : (ss : TypedStmts) (s : Scope) → Within x s → (i : Inside) → SoundStmts s i ss
        → (m : ℕ) (b k : Close) (rest : List Item)
        → Placed x (codes_of ss m b k rest) → (t : Trace) (w : World) → Fits x n w
        → AfterFlow x n i (at x (codes_of ss m b k rest) t [] w) b k rest (exec_all later (suc (length x.callers)) ss w)
    does_all TypedStmts.End s within i h m b k rest placed t w fits = falls (λ run g. g t) fits
    does_all (TypedStmts.More a ss) s within i h m b k rest placed t w fits =
        let more : List Item = codes_of ss (m + stmt_nodes a) b k rest in
        flow_then (does a s within i h.0 m b k more placed t w fits) (λ t w fits.
        does_all ss (behind s a) (within_behind s a within) i h.1 (m + stmt_nodes a) b k rest
        (past_code (Placed x) past a m b k more placed) t w fits)

    -- the items of a switch from the front on
    does_items : (c : Base) (is : TypedItems) (s : Scope) → Within x s → (i : Inside) → SoundItems s i c is
        → (m : ℕ) (g : Option Name) (b k : Close) (rest : List Item)
        → Placed x (code_items is m g b k rest) → (t : Trace) (w : World) → Fits x n w
        → AfterFlow x n i (at x (code_items is m g b k rest) t [] w) b k rest
        (exec_items later (suc (length x.callers)) is w)
    does_items c TypedItems.Last s within i h m g b k rest placed t w fits = falls (λ run q. q t) fits
    does_items c (TypedItems.Further (TypedItem.Case v place) is) s within i h m g b k rest placed t w fits =
        let more : List Item = code_items is (suc m) (Some (group_at g m)) b k rest in
        flow_on (label_in g m more t w placed) (λ t.
        does_items c is s within i h.1 (suc m) (Some (group_at g m)) b k rest
        (past_label (Placed x) past g m more placed) t w fits)
    does_items c (TypedItems.Further (TypedItem.Default place) is) s within i h m g b k rest placed t w fits =
        let more : List Item = code_items is (suc m) (Some (group_at g m)) b k rest in
        flow_on (label_in g m more t w placed) (λ t.
        does_items c is s within i h.1 (suc m) (Some (group_at g m)) b k rest
        (past_label (Placed x) past g m more placed) t w fits)
    does_items c (TypedItems.Further (TypedItem.Item a) is) s within i h m g b k rest placed t w fits =
        let more : List Item = code_items is (m + stmt_nodes a) None b k rest in
        flow_then (does a s within i h.0 m b k more placed t w fits) (λ t w fits.
        does_items c is (behind s a) (within_behind s a within) i h.1 (m + stmt_nodes a) None b k rest
        (past_code (Placed x) past a m b k more placed) t w fits)

    -- the items behind the case of a value
    does_case : (c : Base) (v : ℤ) (is : TypedItems) (s : Scope) → Within x s → (i : Inside) → SoundItems s i c is
        → (m : ℕ) (g : Option Name) (b k : Close)
        (rest : List Item) → Joined x g (code_items is m g b k rest) → Placed x (code_items is m g b k rest)
        → has_case v is ≡ true → (default : ℕ)
        → (t : Trace) (w : World) → Fits x n w
        → AfterFlow x n i (going x (chosen v (numbered_cases x (cases_of is m g)) default) t [] w) b k rest
        (exec_case later (suc (length x.callers)) v is w)
    does_case c v TypedItems.Last s within i h m g b k rest joined placed e default t w fits = absurd
        (let never : false ≡ true = e in cc)
    does_case c v (TypedItems.Further (TypedItem.Case u place) is) s within i h m g b k rest joined placed e default t w
        fits =
        let more : List Item = code_items is (suc m) (Some (group_at g m)) b k rest in
        let found = label_found x g m more joined placed in
        let p : Placed x more = past_label (Placed x) past g m more placed in
        by_case (int_eq u v) (has_case v is) (number x (group_at g m))
        (chosen v (numbered_cases x (cases_of is (suc m) (Some (group_at g m)))) default) t w e
        (flow_on (comes_in x (group_at g m) None more stands found t [] w)
        (λ t. does_items c is s within i h.1 (suc m) (Some (group_at g m)) b k rest p t w fits))
        (λ e. does_case c v is s within i h.1 (suc m) (Some (group_at g m)) b k rest found p e default t w fits)
    does_case c v (TypedItems.Further (TypedItem.Default place) is) s within i h m g b k rest joined placed e default t
        w fits =
        let more : List Item = code_items is (suc m) (Some (group_at g m)) b k rest in
        does_case c v is s within i h.1 (suc m) (Some (group_at g m)) b k rest (label_found x g m more joined placed)
        (past_label (Placed x) past g m more placed)
        e default t w fits
    does_case c v (TypedItems.Further (TypedItem.Item a) is) s within i h m g b k rest joined placed e default t w fits
        =
        let more : List Item = code_items is (m + stmt_nodes a) None b k rest in
        does_case c v is (behind s a) (within_behind s a within) i h.1 (m + stmt_nodes a) None b k rest tt
        (past_code (Placed x) past a m b k more placed)
        e default t w fits

    -- the items behind the default
    does_default : (c : Base) (is : TypedItems) (s : Scope) → Within x s → (i : Inside) → SoundItems s i c is
        → (m : ℕ) (g : Option Name) (b k : Close)
        (rest : List Item) → Joined x g (code_items is m g b k rest) → Placed x (code_items is m g b k rest)
        → has_default is ≡ true → (end : Name)
        → (t : Trace) (w : World) → Fits x n w
        → AfterFlow x n i (going x (number x (default_of is m g end)) t [] w) b k rest
        (exec_default later (suc (length x.callers)) is w)
    does_default c TypedItems.Last s within i h m g b k rest joined placed e end t w fits = absurd
        (let never : false ≡ true = e in cc)
    does_default c (TypedItems.Further (TypedItem.Case u place) is) s within i h m g b k rest joined placed e end t w
        fits =
        let more : List Item = code_items is (suc m) (Some (group_at g m)) b k rest in
        does_default c is s within i h.1 (suc m) (Some (group_at g m)) b k rest (label_found x g m more joined placed)
        (past_label (Placed x) past g m more placed)
        e end t w fits
    does_default c (TypedItems.Further (TypedItem.Default place) is) s within i h m g b k rest joined placed e end t w
        fits =
        let more : List Item = code_items is (suc m) (Some (group_at g m)) b k rest in
        flow_on (comes_in x (group_at g m) None more stands (label_found x g m more joined placed) t [] w) (λ t.
        does_items c is s within i h.1 (suc m) (Some (group_at g m)) b k rest
        (past_label (Placed x) past g m more placed) t w fits)
    does_default c (TypedItems.Further (TypedItem.Item a) is) s within i h m g b k rest joined placed e end t w fits =
        let more : List Item = code_items is (m + stmt_nodes a) None b k rest in
        does_default c is (behind s a) (within_behind s a within) i h.1 (m + stmt_nodes a) None b k rest tt
        (past_code (Placed x) past a m b k more placed)
        e end t w fits
