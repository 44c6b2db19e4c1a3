-- A call of a function: its arguments, its run, and how it comes back.
use Rattle.std.proofs.Common.{◌≡◌, refl, sym, ap, subst, ◌∙◌, ℕ, zero, suc, ◌-◌, ◌≤◌, ◌<◌, Bool, true, false, cond}
use Rattle.std.proofs.Common.{List, [], ◌∷◌, ◌++◌, length, map, Option, Some, arith}
use Rattle.std.specs.Prelude.{ℤ, pos, slice_get, nat_lt, take, drop, reverse, replicate}
use Rattle.std.specs.Option.{option_map}
use Rattle.std.proofs.Math.Seq.{take-append_seam, drop-append_seam}
use Rattle.std.proofs.lemmas.List.{reverse-append, length-reverse}
use Rattle.std.proofs.lemmas.Option.{slice_get-map, none-some}
use Rattle.cov_base.specs.Walks.{Walk}
use Rattle.c_tree.specs.declared.expr.Base.{Base}
use Rattle.c_tree.specs.declared.expr.Base.TheVariants as base
use Rattle.c_tree.specs.Typed.{TypedFunction, Typed}
use Rattle.stack_ops.specs.declared.endings.Outcome.TheVariants as outcome
use Rattle.stack_ops.specs.declared.endings.Trap.TheVariants as trap
use Rattle.flow_graph.specs.Graph.{Ending, Graph}
use Rattle.c_lower.specs.Items.{Name, Close, Item, gives_number}
use Rattle.c_lower.specs.Lowered.{graph_of, unit_of}
use Rattle.flow_graph.specs.WalkRun.{Caller, Move, over, walk_on, with_turn, begins, calls, ends_so}
use Rattle.c_meaning.specs.Meaning.{World, Result, Stops, Later, ends, take_turn, back_in, call_function, frame}
use Rattle.lower_agrees.proofs.Runs.{Site, Trace, Leads, Fits, AfterValue, gives, stops, point, number, finishing, at}
use Rattle.lower_agrees.proofs.Runs.{going, pushed}
use Rattle.lower_agrees.proofs.Straight.{over_ends}

-- values that were pushed one after another, the last at the top
abbrev pub onto : List ℤ → List ℤ → List ℤ
onto [] stack = stack
onto (v ∷ vs) stack = onto vs (v ∷ stack)

joined : (a : List ℤ) (v : ℤ) (b : List ℤ) → a ++ v ∷ b ≡ (a ++ v ∷ []) ++ b
joined [] v b = refl
joined (x ∷ a) v b = ap (λ (l : List ℤ). x ∷ l) (joined a v b)

onto_is : (vs stack : List ℤ) → onto vs stack ≡ reverse vs ++ stack
onto_is [] stack = refl
onto_is (v ∷ vs) stack =
    onto_is vs (v ∷ stack) ∙ joined (reverse vs) v stack ∙ ap (λ (l : List ℤ). l ++ stack)
    (sym (reverse-append (v ∷ []) vs))

back_again : (vs : List ℤ) → reverse (reverse vs) ≡ vs
back_again [] = refl
back_again (v ∷ vs) =
    ap (λ (l : List ℤ). reverse l) (reverse-append (v ∷ []) vs) ∙ reverse-append (reverse vs) (v ∷ []) ∙ ap
    (λ (l : List ℤ). v ∷ l) (back_again vs)

-- the arguments are taken off the operands
taken : (vs stack : List ℤ) (count : ℕ) → length vs ≡ count → reverse (take count (onto vs stack)) ≡ vs
taken vs stack count e =
    subst (λ (k : ℕ). reverse (take k (onto vs stack)) ≡ vs) (length-reverse vs ∙ e)
    (subst (λ (l : List ℤ). reverse (take (length (reverse vs)) l) ≡ vs) (sym (onto_is vs stack))
    (ap (λ (l : List ℤ). reverse l) (take-append_seam (reverse vs) stack) ∙ back_again vs))

dropped_off : (vs stack : List ℤ) (count : ℕ) → length vs ≡ count → drop count (onto vs stack) ≡ stack
dropped_off vs stack count e =
    subst (λ (k : ℕ). drop k (onto vs stack) ≡ stack) (length-reverse vs ∙ e)
    (subst (λ (l : List ℤ). drop (length (reverse vs)) l ≡ stack) (sym (onto_is vs stack))
    (drop-append_seam (reverse vs) stack))

-- the call that waits
abbrev pub waiting : Site → Trace → List ℤ → World → ℕ → Caller
waiting x t stack w next = record {
  function = x.function;
  operands = stack;
  cells = w.cells;
  walk = t.walk;
  next =
      next;
}

-- a function that is called
abbrev pub called_by : Site → ℕ → TypedFunction → Caller → Site
called_by x f g c = record { source = x.source; function = f; text = g; callers = c ∷ x.callers }

-- a call begins in its first block
abbrev pub starting : ℕ → List Walk → Trace
starting walk walks = record { block = 2; walk = walk; walks = walks }

-- a site of this source
abbrev pub site : Typed → ℕ → TypedFunction → List Caller → Site
site source f g callers = record { source = source; function = f; text = g; callers = callers }

-- What comes of a call once its turn was taken: its run does what the meaning says, up to its `return`.
pub record Calls (source : Typed) (n : ℕ) (later : Later) : Type 0 where
  pub call : (f : ℕ) (g : TypedFunction) (callers : List Caller) (args : List ℤ) (w : World) (walk : ℕ)
      (walks : List Walk)
      → slice_get source.functions f ≡ Some g → length args ≡ length g.params → w.turns < n
      → length w.globals ≡ length source.globals
      → AfterValue (site source f g callers) n
      (Move.Goes_on (point (site source f g callers) (starting walk walks) [] (record w { cells = frame g args })))
      (λ t v w. finishing (site source f g callers) Close.Leave
      (point (site source f g callers) t (pushed g.result v []) w))
      (later.call f (suc (length callers)) args w)

-- a call that ends comes back
returns_to : (x : Site) (f : ℕ) (g : TypedFunction) (before : Trace) (stack : List ℤ) (w : World) (next : ℕ) (t : Trace)
    (v : ℤ) (after : World)
    → Leads x.source
    (finishing (called_by x f g (waiting x before stack w next)) Close.Leave
    (point (called_by x f g (waiting x before stack w next)) t (pushed g.result v []) after))
    (λ t. going x next t (pushed g.result v stack) (record after { cells = w.cells }))
returns_to x f g before stack w next t v after = go g.result
  where
    there : Trace
    there = record { block = 0; walk = before.walk; walks = walk_on t.walk 1 t.walks }

    go : (b : Base) → Leads x.source
        (ends_so (unit_of x.source) (gives_number b) Ending.Return
        (point (called_by x f g (waiting x before stack w next)) t (pushed b v []) after))
        (λ t. going x next t (pushed b v stack) (record after { cells = w.cells }))
    go (base.Int ty) = λ run h. h there
    go base.Void = λ run h. h there

-- and the caller has its cells again
comes_back : {n : ℕ} {m : Move} {r : Result} (x : Site) (f : ℕ) (g : TypedFunction) (before : Trace) (stack : List ℤ)
    (w : World) (next : ℕ) → Fits x n w
    → AfterValue (called_by x f g (waiting x before stack w next)) n m
    (λ t v after. finishing (called_by x f g (waiting x before stack w next)) Close.Leave
    (point (called_by x f g (waiting x before stack w next)) t (pushed g.result v []) after)) r
    → AfterValue x n m (λ t v w. going x next t (pushed g.result v stack) w) (back_in w.cells r)
comes_back x f g before stack w next fits (gives lead own) =
    gives (λ run h. lead run (λ t. returns_to x f g before stack w next t _ _ run h))
    (record { turns = own.turns; cells = fits.cells; globals = own.globals })
comes_back x f g before stack w next fits (stops e) = stops e

-- a call begins, with its arguments, over what its caller has below them
abbrev begun : Site → ℕ → TypedFunction → ℕ → Trace → World → List ℤ → List ℤ → ℕ → Move
begun x f g next t w front below count = Move.Goes_on (record {
  function = f;
  block = 2;
  operands = [];
  cells = front ++ replicate (g.cells - count) (pos 0);
  walk = length t.walks;
  callers = record { function = x.function; operands = below; cells = w.cells; walk = t.walk; next = next } ∷ x.callers;
  globals = w.globals;
  input = w.input;
  output = w.output;
  turns = w.turns;
  walks = t.walks ++ record { function = f; blocks = 0 ∷ 2 ∷ [] } ∷ [];
})

-- the graph of a function stands at the function's number
pub graph_found : (fs : List TypedFunction) (f : ℕ) (g : TypedFunction) → slice_get fs f ≡ Some g
    → slice_get (map graph_of fs) f ≡ Some (graph_of g)
graph_found fs f g e = slice_get-map graph_of fs f ∙ ap (λ (o : Option TypedFunction). option_map graph_of o) e

-- and each graph is that of the function of its number
pub text_found : (fs : List TypedFunction) (f : ℕ) (g : Graph) → slice_get (map graph_of fs) f ≡ Some g
    → (text : TypedFunction) × (slice_get fs f ≡ Some text)
text_found [] f g e = absurd (none-some g e)
text_found (x ∷ xs) zero g e = (x, refl)
text_found (x ∷ xs) (suc f) g e = text_found xs f g e

module _ {n : ℕ} {later : Later} (x : Site) (known : Calls x.source n later) where
  -- The end of a block calls a function: its run comes back to the block behind.
  pub calls_function : (f : ℕ) (g : TypedFunction) (line : ℕ) (next : Name) (added : Option ℕ) (is : List Item)
      (t : Trace) (vs stack : List ℤ) (w : World)
      → slice_get x.source.functions f ≡ Some g → length vs ≡ length g.params → Fits x n w
      → AfterValue x n (at x (Item.End (Close.CallTo f line next) added ∷ is) t (onto vs stack) w)
      (λ t v w. going x (number x next) t (pushed g.result v stack) w)
      (call_function later (suc (length x.callers)) f vs line w)
  calls_function f g line next added is t vs stack w found count fits =
      subst (λ (o : Option Graph). AfterValue x n (calls o f line (number x next) (point x t (onto vs stack) w))
      (λ t v w. going x (number x next) t (pushed g.result v stack) w)
      (call_function later (suc (length x.callers)) f vs line w))
      (sym (graph_found x.source.functions f g found)) (turned w.turns fits.turns)
    where
      target : Trace → ℤ → World → Move
      target t v w = going x (number x next) t (pushed g.result v stack) w

      deep : (u : ℕ) → suc u ≤ n → (shallow : Bool) → AfterValue x n
          (cond shallow (begins (graph_of g) f (number x next) (point x t (onto vs stack) (record w { turns = u })))
          (over (outcome.Trapped trap.CallDepth line) (point x t (onto vs stack) (record w { turns = u })))) target
          (cond shallow (back_in w.cells (later.call f (suc (suc (length x.callers))) vs (record w { turns = u })))
          (Stops (ends (outcome.Trapped trap.CallDepth line) (record w { turns = u }))))
      deep u le true =
          let r = back_in w.cells (later.call f (suc (suc (length x.callers))) vs (record w { turns = u })) in
          let v : World = record w { turns = u } in
          subst (λ (l : List ℤ). AfterValue x n (begun x f g (number x next) t v l
          (drop (length g.params) (onto vs stack)) (length g.params)) target r)
          (sym (taken vs stack (length g.params) count))
          (subst (λ (l : List ℤ). AfterValue x n (begun x f g (number x next) t v vs l (length g.params)) target r)
          (sym (dropped_off vs stack (length g.params) count))
          (subst (λ (k : ℕ). AfterValue x n (begun x f g (number x next) t v vs stack k) target r) count
          (comes_back x f g t stack v (number x next) (record
          { turns = let le = le in omega arith; cells = fits.cells; globals = fits.globals })
          (known.call f g (waiting x t stack v (number x next) ∷ x.callers) vs v (length t.walks)
          (t.walks ++ record { function = f; blocks = 0 ∷ 2 ∷ [] } ∷ []) found count le fits.globals))))
      deep u le false = stops (over_ends x.source (outcome.Trapped trap.CallDepth line)
          (point x t (onto vs stack) (record w { turns = u })))

      turned : (turns : ℕ) → turns ≤ n → AfterValue x n
          (with_turn turns (point x t (onto vs stack) w) (λ p. cond (nat_lt (suc (length p.callers)) 2000)
          (begins (graph_of g) f (number x next) p)
          (over (outcome.Trapped trap.CallDepth line) p))) target
          (take_turn turns (Stops (ends outcome.OutOfTurns w)) (λ u.
          cond (nat_lt (suc (length x.callers)) 2000) (back_in w.cells
          (later.call f (suc (suc (length x.callers))) vs (record w { turns = u })))
          (Stops (ends (outcome.Trapped trap.CallDepth line) (record w { turns = u })))))
      turned zero le = stops (over_ends x.source outcome.OutOfTurns (point x t (onto vs stack) w))
      turned (suc u) le = deep u le (nat_lt (suc (length x.callers)) 2000)
