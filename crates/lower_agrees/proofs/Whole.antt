-- The run of the graphs of a sound source has the output and the ending that the source means.
use Rattle.std.proofs.Common.{◌≡◌, refl, sym, ap, subst, ◌∙◌, ℕ, zero, suc, ◌+◌, ◌-◌, ◌≤◌, ◌<◌, true, false, List, []}
use Rattle.std.proofs.Common.{◌∷◌, length, Option, Some, None, arith, length-append}
use Rattle.std.specs.Prelude.{ℤ, pos, slice_get, replicate}
use Rattle.std.proofs.lemmas.List.{length-replicate}
use Rattle.std.proofs.lemmas.Option.{same_Some, none-some}
use Rattle.cov_base.specs.Walks.{Walk}
use Rattle.int_ops.specs.declared.types.IntType.TheVariants as type
use Rattle.c_tree.specs.declared.expr.Base.{Base}
use Rattle.c_tree.specs.declared.expr.Base.TheVariants as base
use Rattle.c_tree.specs.Typed.{TypedFunction, Typed}
use Rattle.c_tree.specs.TypedStmt.{TypedVar}
use Rattle.c_tree.specs.Sound.{Scope, Inside, looped, Each, Numbered, declared_in, at_start, standing}
use Rattle.c_tree.specs.TypedParts.{size}
use Rattle.c_tree.specs.Sound.{SoundFunction, Sound}
use Rattle.c_tree.specs.declared.typed_expr.CellAt.TheVariants as cell
use Rattle.flow_graph.specs.Graph.{Ending, Graph, GraphUnit}
use Rattle.c_lower.specs.Items.{
  Close,
  Item,
  body_of,
  head_of,
  step_of,
  end_of,
  nodes_if,
  stmt_nodes,
  stepped,
  continues_to,
}
use Rattle.c_lower.specs.Items.{code, items_of, gives_number}
use Rattle.c_lower.specs.Lowered.{Named, finished, block_of, named_blocks, graph_of, unit_of}
use Rattle.flow_graph.specs.WalkRun.{Caller, Point, Walked, Move, does as does_ops, ends_so, block_at, cells_of, move}
use Rattle.flow_graph.specs.WalkRun.{first, then_goes, goes}
use Rattle.c_meaning.specs.Meaning.{World, Run, Result, Gives, Flow, Later, gave, frame, run_body, later_at, final}
use Rattle.c_meaning.specs.Meaning.{meaning}
use Rattle.lower_agrees.specs.Agreement.{Agrees}
use Rattle.lower_agrees.proofs.Runs.{Site, Trace, Leads, Ends, Placed, Stands, Within, Fits, pushed, AfterValue}
use Rattle.lower_agrees.proofs.Runs.{AfterFlow, gives, stops, falls, breaks, continues, returns, halts, entered}
use Rattle.lower_agrees.proofs.Runs.{value_on, value_more, flow_more, number, left, graph_at, point, finishing, at}
use Rattle.lower_agrees.proofs.Finds.{all_placed}
use Rattle.lower_agrees.proofs.Passes.{past_tested}
use Rattle.lower_agrees.proofs.Straight.{placed_tail}
use Rattle.lower_agrees.proofs.Calls.{site, starting, graph_found}
use Rattle.lower_agrees.proofs.Statements.{Known, does, does_all, does_round}

-- what is so of each is so of one
pub each_at : {A : Type 0} (P : A → Type 0) (xs : List A) (k : ℕ) (a : A) → Each P xs → slice_get xs k ≡ Some a → P a
each_at P [] k a h e = absurd (none-some a e)
each_at P (x ∷ xs) zero a h e = subst P (same_Some x a e) h.0
each_at P (x ∷ xs) (suc k) a h e = each_at P xs k a h.1 e

-- numbers of cells go up
numbered_up : (vs : List TypedVar) (next last : ℕ) → Numbered next vs last → next ≤ last
numbered_up [] next last h = omega (arith, h)
numbered_up (v ∷ vs) next last h = let up = numbered_up vs (next + size v) last h.1 in omega (arith, up)

-- a call enters the first block of its function
comes_into : (y : Site) → Stands y → (walk : ℕ) (walks : List Walk) (w : World)
    → Leads y.source (Move.Goes_on (point y (starting walk walks) [] w)) (λ t. at y (items_of y.text) t [] w)
comes_into y stands walk walks w run h =
    let there : Trace = starting walk walks in
    let b : Named = record {
      name = None;
      ops = (left y (items_of y.text)).ops;
      close =
          (left y (items_of y.text)).close;
      lines = lines_of (named_blocks y.text);
    } in
    let e = h there in
    let found : block_at (graph_at y) 2 ≡ Some (block_of (number y) b) =
    subst (λ (g : Option Graph). block_at g 2 ≡ Some (block_of (number y) b)) (sym stands) refl in
    let goes_in = entered (unit_of y.source) (point y there [] w) (graph_at y) (graph_of y.text) (block_of (number y) b)
    refl stands found in
    record {
      blocks = suc e.blocks;
      walked = e.walked;
      comes = subst (λ (m : Move). then_goes m (goes e.blocks (unit_of y.source)) ≡ Some e.walked) (sym goes_in)
          e.comes;
      same = e.same;
    }
  where
    lines_of : List Named → List ℕ
    lines_of [] = []
    lines_of (b ∷ bs) = b.lines

-- a function that is open at its end gives 0, or gives none
ended_so : (y : Site) (b : Base) (t : Trace) (w : World)
    → Leads y.source (does_ops (finished (gives_number b)).ops (point y t [] w)
    (λ p. finishing y (finished (gives_number b)).close p))
    (λ t. finishing y Close.Leave (point y t (pushed b (pos 0) []) w))
ended_so y (base.Int ty) t w = λ run h. h t
ended_so y base.Void t w = λ run h. h t

-- what a body does, a call gives
gives_so : {y : Site} {n : ℕ} {i : Inside} {m : Move} {r : Flow} → i.breaks ≡ false → i.continues ≡ false
    → AfterFlow y n i m Close.Leave Close.Leave [] r
    → AfterValue y n m (λ t v w. finishing y Close.Leave (point y t (pushed y.text.result v []) w)) (gave r)
gives_so {y} nb nc (falls lead fits) = gives (λ run h. lead run (λ t. ended_so y y.text.result t _ run h)) fits
gives_so nb nc (breaks lead fits may) = absurd (let never : true ≡ false = sym may ∙ nb in cc)
gives_so nb nc (continues lead fits may) = absurd (let never : true ≡ false = sym may ∙ nc in cc)
gives_so nb nc (returns lead fits) = gives lead fits
gives_so nb nc (halts e) = stops e

-- the cells of a call
frame_cells : (f : TypedFunction) (args : List ℤ) → length args ≡ length f.params → length f.params ≤ f.cells
    → length (frame f args) ≡ f.cells
frame_cells f args count le =
    let whole = length-append args (replicate (f.cells - length args) (pos 0)) in
    let zeros = length-replicate (f.cells - length args) (pos 0) in omega (arith, whole, zeros, count, le)

module _ (source : Typed) (sound : Sound source) where
  -- The body of a function does what it means, from its first block to its `return`.
  runs_body : {n : ℕ} {later : Later} → Known source n later → (f : ℕ) (g : TypedFunction) (callers : List Caller)
      (args : List ℤ) (w : World) (walk : ℕ)
      (walks : List Walk) → slice_get source.functions f ≡ Some g → length args ≡ length g.params → w.turns ≤ n
      → length w.globals ≡ length source.globals
      → AfterValue (site source f g callers) n
      (Move.Goes_on (point (site source f g callers) (starting walk walks) [] (record w { cells = frame g args })))
      (λ t v w. finishing (site source f g callers) Close.Leave
      (point (site source f g callers) t (pushed g.result v []) w))
      (run_body later (suc (length callers)) (Some g) args w)
  runs_body {n} {later} known f g callers args w walk walks found count le globals =
      let own = each_at (SoundFunction source.functions (standing cell.Global 0 sound.global_lengths) sound.global_types
      (length source.globals))
      source.functions f g sound.functions found in
      let y : Site = site source f g callers in
      let stands : Stands y = graph_found source.functions f g found in
      let s : Scope = record {
        functions = source.functions;
        variables = at_start g (standing cell.Global 0 sound.global_lengths);
        global_types = sound.global_types;
        globals = length source.globals;
        local_types = own.local_types;
        cells = g.cells;
        result = g.result;
      } in
      let within : Within y s = record { functions = refl; cells = refl; globals = refl; result = refl } in
      let v : World = record w { cells = frame g args } in
      let up = numbered_up (declared_in g.body) (length g.params) g.cells own.cells in
      let fits : Fits y n v = record { turns = le; cells = frame_cells g args count up; globals = globals } in
      value_on (comes_into y stands walk walks v) (λ t.
      gives_so refl refl (does_all y n stands known g.body s within (record { breaks = false; continues = false })
      own.body 0 Close.Leave Close.Leave []
      (all_placed y stands) t v fits))

  -- with so many turns, what comes once a turn was taken does what it means
  known_at : (n : ℕ) → Known source n (later_at source.functions n)
  known_at zero = record {
    calls = record { call = λ f g callers args w walk walks found count lt globals. absurd (omega (arith, lt)) };
    loop = λ f g callers s i a m b k rest stands within h placed t w fits lt. absurd (omega (arith, lt));
    rounds = λ f g callers s i test step a m k b c rest stands within ht hs ha placed t w fits lt. absurd
        (omega (arith, lt));
  }
  known_at (suc n) = record {
    calls = record {
      call = λ f g callers args w walk walks found count lt globals.
          subst (λ (o : Option TypedFunction). AfterValue (site source f g callers) (suc n)
          (Move.Goes_on (point (site source f g callers) (starting walk walks) [] (record w { cells = frame g args })))
          (λ t v w. finishing (site source f g callers) Close.Leave
          (point (site source f g callers) t (pushed g.result v []) w))
          (run_body (later_at source.functions n) (suc (length callers)) o args w)) (sym found)
          (value_more (runs_body (known_at n) f g callers args w walk walks found count (omega (arith, lt)) globals));
    };
    loop = λ f g callers s i a m b k rest stands within h placed t w fits lt.
        flow_more (does (site source f g callers) n stands (known_at n) a s within i h m b k rest placed t w
        (fewer (site source f g callers) n w fits lt));
    rounds = λ f g callers s i test step a m k b c rest stands within ht hs ha placed t w fits lt.
        let y : Site = site source f g callers in
        let stepping : List Item = stepped step (k + nodes_if test + stmt_nodes a) (step_of m)
        (Item.End (Close.Back (head_of m)) None ∷ Item.Begin (end_of m) None ∷ rest) in
        let inner : List Item = code a (k + nodes_if test) (Close.Jump (end_of m))
        (continues_to step (step_of m) (head_of m))
        stepping in
        let p : Placed y inner = past_tested (Placed y) (placed_tail y) test k (body_of m) (end_of m) inner placed.1 in
        flow_more (does_round y n stands (known_at n) s within test step a m k rest ht hs ha
        (λ t w fits. does y n stands (known_at n) a s within looped ha (k + nodes_if test) (Close.Jump (end_of m))
        (continues_to step (step_of m) (head_of m)) stepping p t w fits)
        placed t w (fewer y n w fits lt));
  }
    where
      fewer : (y : Site) (n : ℕ) (w : World) → Fits y (suc n) w → w.turns < suc n → Fits y n w
      fewer y n w fits lt = record { turns = omega (arith, lt); cells = fits.cells; globals = fits.globals }

  -- `main` comes back to nobody: the run returns its number
  main_ends : {n : ℕ} {m : Move} {r : Result} (f : ℕ) (g : TypedFunction) → g.result ≡ base.Int type.Int
      → AfterValue (site source f g []) n m (λ t v w. finishing (site source f g []) Close.Leave
      (point (site source f g []) t (pushed g.result v []) w)) r
      → Ends source m (final r)
  main_ends f g is (gives {v} {w} lead fits) =
      lead (final (Gives v w)) (λ t. subst (λ (b : Base). Ends source
      (ends_so (unit_of source) (gives_number b) Ending.Return (point (site source f g []) t (pushed b v []) w))
      (final (Gives v w))) (sym is)
      (record { blocks = 0; walked = _; comes = refl; same = refl }))
  main_ends f g is (stops e) = e

  -- a run from the first block of `main` comes to what the source means
  runs : (input : List ℕ) (n : ℕ) → Ends source (Move.Goes_on (first (unit_of source) input n)) (meaning source input n)
  runs input n =
      let g = sound.main.0 in
      let found = sound.main.1 in
      let w : World = record { globals = source.globals; cells = []; input = input; output = []; turns = n } in
      let r : Result = run_body (later_at source.functions n) 1 (Some g) [] w in
      let walks : List Walk = record { function = source.main; blocks = 0 ∷ 2 ∷ [] } ∷ [] in
      let none : List ℤ = [] in
      let count : length none ≡ length g.params = sym (ap length sound.main.2.params) in
      subst (λ (o : Option TypedFunction). Ends source (Move.Goes_on (first (unit_of source) input n))
      (final (run_body (later_at source.functions n) 1 o [] w)))
      (sym found)
      (subst (λ (o : Option Graph). Ends source (Move.Goes_on
      (point (site source source.main g []) (starting 0 walks) []
      (record w { cells = replicate (cells_of o) (pos 0) }))) (final r))
      (sym (graph_found source.functions source.main g found))
      (subst (λ (c : ℕ). Ends source (Move.Goes_on (point (site source source.main g []) (starting 0 walks) []
      (record w { cells = replicate c (pos 0) }))) (final r)) (let e : g.cells - 0 ≡ g.cells = omega arith in e)
      (main_ends source.main g sound.main.2.result (runs_body (known_at n) source.main g [] [] w 0 walks found count
      (omega arith) refl))))

-- a run comes to one thing alone
one_outcome : (u : GraphUnit) (k j : ℕ) (p : Point) (a b : Walked) → goes k u p ≡ Some a → goes j u p ≡ Some b → a ≡ b
one_outcome u zero j p a b e e' = absurd (none-some a e)
one_outcome u (suc k) zero p a b e e' = absurd (none-some b e')
one_outcome u (suc k) (suc j) p a b e e' = go (move u p) (λ q e e'. one_outcome u k j q a b e e') e e'
  where
    go : (m : Move) → ((q : Point) → goes k u q ≡ Some a → goes j u q ≡ Some b → a ≡ b)
        → then_goes m (λ q. goes k u q) ≡ Some a → then_goes m (λ q. goes j u q) ≡ Some b → a ≡ b
    go (Move.Goes_on q) more e e' = more q e e'
    go (Move.Over w) more e e' = sym (same_Some w a e) ∙ same_Some w b e'
    go Move.Broken more e e' = absurd (none-some a e)

-- The agreement: for every sound source, every input and every number of turns.
pub agree : (source : Typed) → Sound source → (input : List ℕ) (n : ℕ) → Agrees source input n
agree source sound input n =
    let e = runs source sound input n in
    record {
      walked = e.walked;
      comes = (e.blocks, e.comes);
      alone = λ other run. one_outcome (unit_of source) run.0 e.blocks (first (unit_of source) input n) other e.walked
          run.1 e.comes;
      output = ap (λ (r : Run). r.output) e.same;
      ending = ap (λ (r : Run). r.ending) e.same;
    }
