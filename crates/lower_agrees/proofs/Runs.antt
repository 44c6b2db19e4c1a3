-- How a run of graphs is said to do what the meaning says: the words, and how they are put one behind another.
use Rattle.std.proofs.Common.{◌≡◌, refl, sym, subst, ◌∙◌, ℕ, suc, ◌≤◌, true, List, [], ◌∷◌, length, Option, Some, arith}
use Rattle.std.specs.Prelude.{ℤ, slice_get}
use Rattle.cov_base.specs.Walks.{Walk}
use Rattle.c_tree.specs.declared.expr.Base.{Base}
use Rattle.c_tree.specs.declared.expr.Base.TheVariants as base
use Rattle.c_tree.specs.Typed.{TypedFunction, Typed}
use Rattle.c_tree.specs.TypedStmt.{TypedVar, TypedStmt, TypedItem, OtherTyped}
use Rattle.c_tree.specs.Sound.{Scope, Inside, HasValue, with_one, with_all, behind, behind_item, behind_first}
use Rattle.flow_graph.specs.Graph.{Block, Graph, GraphUnit}
use Rattle.c_lower.specs.Items.{Name, Close, Item, Ways, gives_number}
use Rattle.c_lower.specs.Lowered.{Named, Opened, add_line, opened, number_from, numbered, block_of, named_blocks}
use Rattle.c_lower.specs.Lowered.{graph_of, unit_of}
use Rattle.flow_graph.specs.WalkRun.{Caller, Point, Walked, Move, walk_on, enters, ends_so, does, block_at, gives_at}
use Rattle.flow_graph.specs.WalkRun.{in_block, move, then_goes, goes}
use Rattle.c_meaning.specs.Meaning.{World, Run, Result, Gives, Stops, Flow, Falls, Breaks, Continues, Returns, Halts}
use Rattle.c_meaning.specs.Meaning.{with_value, use_value, pick, then_on, after_body, caught}

-- a call that runs: its source, the number and the text of its function, and the calls that wait
pub record Site : Type 0 where
  pub source : Typed
  pub function : ℕ
  pub text : TypedFunction
  pub callers : List Caller

-- what a run keeps beside numbers: its block, and the walks; nothing of what comes looks at it
pub record Trace : Type 0 where
  pub block : ℕ
  pub walk : ℕ
  pub walks : List Walk

-- where a run is
abbrev pub point : Site → Trace → List ℤ → World → Point
point x t stack w = record {
  function = x.function;
  block = t.block;
  operands = stack;
  cells = w.cells;
  walk = t.walk;
  callers = x.callers;
  globals = w.globals;
  input = w.input;
  output = w.output;
  turns = w.turns;
  walks = t.walks;
}

-- the number of the block of a name
abbrev pub number : Site → Name → ℕ
number x l = number_from 2 (named_blocks x.text) l

-- the items from here on, where a block is open
abbrev pub left : Site → List Item → Opened
left x is = opened (gives_number x.text.result) is

-- a block ends so
abbrev pub finishing : Site → Close → Point → Move
finishing x c p = ends_so (unit_of x.source) (gives_number x.text.result) (numbered (number x) c) p

-- the rest of an open block is done
abbrev pub at : Site → List Item → Trace → List ℤ → World → Move
at x is t stack w = does (left x is).ops (point x t stack w) (λ p. finishing x (left x is).close p)

-- a block is entered
abbrev pub going : Site → ℕ → Trace → List ℤ → World → Move
going x b t stack w = Move.Goes_on (enters b (point x t stack w))

-- a run from here on comes to this output and ending
pub record Ends (source : Typed) (m : Move) (run : Run) : Type 0 where
  pub blocks : ℕ
  pub walked : Walked
  pub comes : then_goes m (goes blocks (unit_of source)) ≡ Some walked
  pub same : (let r : Run = record { output = walked.output; ending = walked.ending } in r) ≡ run

-- whatever a run comes to from there on, it comes to from here on
abbrev pub Leads : Typed → Move → (Trace → Move) → Type 0
Leads source m target = (run : Run) → ((t : Trace) → Ends source (target t) run) → Ends source m run

-- the block that begins with this name and line in front of items
abbrev pub header : Site → Name → Option ℕ → List Item → Named
header x l line is = record {
  name = Some l;
  ops = (left x is).ops;
  close = (left x is).close;
  lines = add_line line
      (left x is).lines;
}

abbrev pub graph_at : Site → Option Graph
graph_at x = slice_get (unit_of x.source).graphs x.function

-- the graph has that block at the number of its name
abbrev pub Found : Site → Name → Option ℕ → List Item → Type 0
Found x l line is = block_at (graph_at x) (number x l) ≡ Some (block_of (number x) (header x l line is))

-- the graph has each block that begins among the items
abbrev pub Placed : Site → List Item → Type 0
Placed x [] = Unit {0}
Placed x (Item.Begin l line ∷ is) = Found x l line is × Placed x is
Placed x (Item.Do o line ∷ is) = Placed x is
Placed x (Item.End c line ∷ is) = Placed x is

-- the graph of the site's function is that of its text
abbrev pub Stands : Site → Type 0
Stands x = graph_at x ≡ Some (graph_of x.text)

-- a scope is one of the site's function
pub record Within (x : Site) (s : Scope) : Type 0 where
  pub functions : s.functions ≡ x.source.functions
  pub cells : s.cells ≡ x.text.cells
  pub globals : s.globals ≡ length x.source.globals
  pub result : s.result ≡ x.text.result

-- a world has the site's cells and globals, and no more than so many turns
pub record Fits (x : Site) (n : ℕ) (w : World) : Type 0 where
  pub turns : w.turns ≤ n
  pub cells : length w.cells ≡ x.text.cells
  pub globals : length w.globals ≡ length x.source.globals

-- an expression's value stands on the operands, if it has one
abbrev pub pushed : Base → ℤ → List ℤ → List ℤ
pushed (base.Int t) v stack = v ∷ stack
pushed base.Void v stack = stack

-- what an expression comes to: the run comes to the target, or ends
pub data AfterValue (x : Site) (n : ℕ) (m : Move) (target : Trace → ℤ → World → Move) : Result → Type 0 where
  gives : {v : ℤ} {w : World} → Leads x.source m (λ t. target t v w) → Fits x n w → AfterValue x n m target (Gives v w)
  stops : {run : Run} → Ends x.source m run → AfterValue x n m target (Stops run)

-- what a statement comes to, where `break` and `continue` go there
pub data AfterFlow (x : Site) (n : ℕ) (i : Inside) (m : Move) (b k : Close) (rest : List Item) : Flow → Type 0 where
  falls : {w : World} → Leads x.source m (λ t. at x rest t [] w) → Fits x n w → AfterFlow x n i m b k rest (Falls w)
  breaks : {w : World} → Leads x.source m (λ t. finishing x b (point x t [] w)) → Fits x n w → i.breaks ≡ true
      → AfterFlow x n i m b k rest (Breaks w)
  continues : {w : World} → Leads x.source m (λ t. finishing x k (point x t [] w)) → Fits x n w → i.continues ≡ true
      → AfterFlow x n i m b k rest (Continues w)
  returns : {v : ℤ} {w : World} → Leads x.source m (λ t. finishing x Close.Leave
      (point x t (pushed x.text.result v []) w)) → Fits x n w
      → AfterFlow x n i m b k rest (Returns v w)
  halts : {run : Run} → Ends x.source m run → AfterFlow x n i m b k rest (Halts run)

-- an expression's ways do what its meaning says
pub record Sims (x : Site) (n : ℕ) (ws : Ways) (b : Base) (r : World → Result) : Type 0 where
  pub value : (rest : List Item) (t : Trace) (stack : List ℤ) (w : World) → Placed x (ws.value rest) → Fits x n w
      → AfterValue x n (at x (ws.value rest) t stack w) (λ t v w. at x rest t (pushed b v stack) w) (r w)
  pub test : (one other : Name) (rest : List Item) (t : Trace) (stack : List ℤ) (w : World) → HasValue b
      → Placed x (ws.test one other rest) → Fits x n w
      → AfterValue x n (at x (ws.test one other rest) t stack w)
      (λ t v w. going x (pick v (number x one) (number x other)) t stack w) (r w)

-- some trace
abbrev pub some_trace : Trace
some_trace = record { block = 0; walk = 0; walks = [] }

-- what a block comes to where it stands in its graph
pub entered : (u : GraphUnit) (p : Point) (g : Option Graph) (graph : Graph) (b : Block)
    → slice_get u.graphs p.function ≡ g → g ≡ Some graph
    → block_at g p.block ≡ Some b → move u p ≡ does b.ops p (λ p. ends_so u graph.gives b.end p)
entered u p g graph b is stands found =
    subst (λ (h : Option Graph). in_block u (gives_at h) (block_at h p.block) p ≡ does b.ops p
    (λ p. ends_so u graph.gives b.end p)) (sym is)
    (subst (λ (h : Option Block). in_block u (gives_at g) h p ≡ does b.ops p (λ p. ends_so u graph.gives b.end p))
    (sym found)
    (subst (λ (h : Option Graph). does b.ops p (λ p. ends_so u (gives_at h) b.end p) ≡ does b.ops p
    (λ p. ends_so u graph.gives b.end p)) (sym stands) refl))

-- A block that stands in the graph is entered: the run does what follows its name.
pub comes_in : (x : Site) (l : Name) (line : Option ℕ) (is : List Item) → Stands x → Found x l line is
    → (t : Trace) (stack : List ℤ) (w : World)
    → Leads x.source (going x (number x l) t stack w) (λ t. at x is t stack w)
comes_in x l line is stands found t stack w run h =
    let there : Trace = record { block = number x l; walk = t.walk; walks = walk_on t.walk (number x l) t.walks } in
    let e = h there in
    let goes_in = entered (unit_of x.source) (point x there stack w) (graph_at x) (graph_of x.text)
    (block_of (number x) (header x l line is)) refl stands found in
    record {
      blocks = suc e.blocks;
      walked = e.walked;
      comes = subst (λ (m : Move). then_goes m (goes e.blocks (unit_of x.source)) ≡ Some e.walked) (sym goes_in)
          e.comes;
      same = e.same;
    }

-- one behind another
pub on_to : {source : Typed} {m : Move} {middle target : Trace → Move} → Leads source m middle
    → ((t : Trace) → Leads source (middle t) target)
    → Leads source m target
on_to first second run h = first run (λ t. second t run h)

module _ {x : Site} {n : ℕ} where
  -- ---- values

  lead_of : {m : Move} {target : Trace → ℤ → World → Move} {v : ℤ} {w : World} → AfterValue x n m target (Gives v w)
      → Leads x.source m (λ t. target t v w)
  lead_of (gives lead fits) = lead

  fits_of : {m : Move} {target : Trace → ℤ → World → Move} {v : ℤ} {w : World} → AfterValue x n m target (Gives v w)
      → Fits x n w
  fits_of (gives lead fits) = fits

  ends_of : {m : Move} {target : Trace → ℤ → World → Move} {run : Run} → AfterValue x n m target (Stops run)
      → Ends x.source m run
  ends_of (stops e) = e

  -- behind what leads on
  pub value_on : {m : Move} {middle : Trace → Move} {target : Trace → ℤ → World → Move} {r : Result}
      → Leads x.source m middle
      → ((t : Trace) → AfterValue x n (middle t) target r) → AfterValue x n m target r
  value_on {r = Gives v w} lead after = gives (λ run h. lead run (λ t. lead_of (after t) run h))
      (fits_of (after some_trace))
  value_on {r = Stops run} lead after = stops (lead run (λ t. ends_of (after t)))

  -- with the number that an expression gives
  pub value_then : {m : Move} {middle target : Trace → ℤ → World → Move} {r : Result} {k : ℤ → World → Result}
      → AfterValue x n m middle r
      → ((t : Trace) (v : ℤ) (w : World) → Fits x n w → AfterValue x n (middle t v w) target (k v w))
      → AfterValue x n m target (with_value r k)
  value_then (gives lead fits) then = value_on lead (λ t. then t _ _ fits)
  value_then (stops e) then = stops e

  -- from the target on to another
  pub value_to : {m : Move} {middle target : Trace → ℤ → World → Move} {r : Result} → AfterValue x n m middle r
      → ((t : Trace) (v : ℤ) (w : World) → Leads x.source (middle t v w) (λ t. target t v w))
      → AfterValue x n m target r
  value_to (gives lead fits) on = gives (λ run h. lead run (λ t. on t _ _ run h)) fits
  value_to (stops e) on = stops e

  -- ---- statements

  module _ {i : Inside} {b k : Close} {rest : List Item} where
    falls_of : {m : Move} {w : World} → AfterFlow x n i m b k rest (Falls w)
        → Leads x.source m (λ t. at x rest t [] w) × Fits x n w
    falls_of (falls lead fits) = (lead, fits)

    breaks_of : {m : Move} {w : World} → AfterFlow x n i m b k rest (Breaks w)
        → Leads x.source m (λ t. finishing x b (point x t [] w)) × Fits x n w × (i.breaks ≡ true)
    breaks_of (breaks lead fits may) = (lead, fits, may)

    continues_of : {m : Move} {w : World} → AfterFlow x n i m b k rest (Continues w)
        → Leads x.source m (λ t. finishing x k (point x t [] w)) × Fits x n w × (i.continues ≡ true)
    continues_of (continues lead fits may) = (lead, fits, may)

    returns_of : {m : Move} {v : ℤ} {w : World} → AfterFlow x n i m b k rest (Returns v w)
        → Leads x.source m (λ t. finishing x Close.Leave (point x t (pushed x.text.result v []) w)) × Fits x n w
    returns_of (returns lead fits) = (lead, fits)

    halts_of : {m : Move} {run : Run} → AfterFlow x n i m b k rest (Halts run) → Ends x.source m run
    halts_of (halts e) = e

    -- behind what leads on
    pub flow_on : {m : Move} {middle : Trace → Move} {f : Flow} → Leads x.source m middle
        → ((t : Trace) → AfterFlow x n i (middle t) b k rest f)
        → AfterFlow x n i m b k rest f
    flow_on {f = Falls w} lead after = falls (λ run h. lead run (λ t. (falls_of (after t)).0 run h))
        (falls_of (after some_trace)).1
    flow_on {f = Breaks w} lead after =
        breaks (λ run h. lead run (λ t. (breaks_of (after t)).0 run h)) (breaks_of (after some_trace)).1
        (breaks_of (after some_trace)).2
    flow_on {f = Continues w} lead after =
        continues (λ run h. lead run (λ t. (continues_of (after t)).0 run h)) (continues_of (after some_trace)).1
        (continues_of (after some_trace)).2
    flow_on {f = Returns v w} lead after = returns (λ run h. lead run (λ t. (returns_of (after t)).0 run h))
        (returns_of (after some_trace)).1
    flow_on {f = Halts run} lead after = halts (lead run (λ t. halts_of (after t)))

    -- with the number that an expression gives
    pub flow_of_value : {m : Move} {middle : Trace → ℤ → World → Move} {r : Result} {f : ℤ → World → Flow}
        → AfterValue x n m middle r
        → ((t : Trace) (v : ℤ) (w : World) → Fits x n w → AfterFlow x n i (middle t v w) b k rest (f v w))
        → AfterFlow x n i m b k rest (use_value r f)
    flow_of_value (gives lead fits) then = flow_on lead (λ t. then t _ _ fits)
    flow_of_value (stops e) then = halts e

    -- behind a statement
    pub flow_then : {m : Move} {middle : List Item} {r : Flow} {f : World → Flow} → AfterFlow x n i m b k middle r
        → ((t : Trace) (w : World) → Fits x n w → AfterFlow x n i (at x middle t [] w) b k rest (f w))
        → AfterFlow x n i m b k rest (then_on r f)
    flow_then (falls lead fits) then = flow_on lead (λ t. then t _ fits)
    flow_then (breaks lead fits may) then = breaks lead fits may
    flow_then (continues lead fits may) then = continues lead fits may
    flow_then (returns lead fits) then = returns lead fits
    flow_then (halts e) then = halts e

    -- from the items behind a statement on to others
    pub flow_to : {m : Move} {middle : List Item} {r : Flow} → AfterFlow x n i m b k middle r
        → ((t : Trace) (w : World) → Leads x.source (at x middle t [] w) (λ t. at x rest t [] w))
        → AfterFlow x n i m b k rest r
    flow_to (falls lead fits) on = falls (λ run h. lead run (λ t. on t _ run h)) fits
    flow_to (breaks lead fits may) on = breaks lead fits may
    flow_to (continues lead fits may) on = continues lead fits may
    flow_to (returns lead fits) on = returns lead fits
    flow_to (halts e) on = halts e

    -- behind the body of a loop, with its own `break` and `continue`
    pub body_then : {j : Inside} {m : Move} {c d : Close} {middle : List Item} {r : Flow} {f : World → Flow}
        → AfterFlow x n j m c d middle r
        → ((t : Trace) (w : World) → Leads x.source (finishing x c (point x t [] w)) (λ t. at x rest t [] w))
        → ((t : Trace) (w : World) → Fits x n w → AfterFlow x n i (at x middle t [] w) b k rest (f w))
        → ((t : Trace) (w : World) → Fits x n w → AfterFlow x n i (finishing x d (point x t [] w)) b k rest (f w))
        → AfterFlow x n i m b k rest (after_body r f)
    body_then (falls lead fits) out falling on = flow_on lead (λ t. falling t _ fits)
    body_then (breaks lead fits may) out falling on = falls (λ run h. lead run (λ t. out t _ run h)) fits
    body_then (continues lead fits may) out falling on = flow_on lead (λ t. on t _ fits)
    body_then (returns lead fits) out falling on = returns lead fits
    body_then (halts e) out falling on = halts e

    -- behind a switch, which catches its `break`
    pub switch_then : {j : Inside} {m : Move} {c : Close} {middle : List Item} {r : Flow} → j.continues ≡ i.continues
        → AfterFlow x n j m c k middle r
        → ((t : Trace) (w : World) → Leads x.source (at x middle t [] w) (λ t. at x rest t [] w))
        → ((t : Trace) (w : World) → Leads x.source (finishing x c (point x t [] w)) (λ t. at x rest t [] w))
        → AfterFlow x n i m b k rest (caught r)
    switch_then same (falls lead fits) falling out = falls (λ run h. lead run (λ t. falling t _ run h)) fits
    switch_then same (breaks lead fits may) falling out = falls (λ run h. lead run (λ t. out t _ run h)) fits
    switch_then same (continues lead fits may) falling out = continues lead fits (sym same ∙ may)
    switch_then same (returns lead fits) falling out = returns lead fits
    switch_then same (halts e) falling out = halts e

-- ---- more turns, and scopes

more_fits : {x : Site} {n : ℕ} {w : World} → Fits x n w → Fits x (suc n) w
more_fits f = record { turns = let le = f.turns in omega arith; cells = f.cells; globals = f.globals }

-- where so many turns are enough, one more is
pub flow_more : {x : Site} {n : ℕ} {i : Inside} {m : Move} {b k : Close} {rest : List Item} {f : Flow}
    → AfterFlow x n i m b k rest f
    → AfterFlow x (suc n) i m b k rest f
flow_more (falls lead fits) = falls lead (more_fits fits)
flow_more (breaks lead fits may) = breaks lead (more_fits fits) may
flow_more (continues lead fits may) = continues lead (more_fits fits) may
flow_more (returns lead fits) = returns lead (more_fits fits)
flow_more (halts e) = halts e

pub value_more : {x : Site} {n : ℕ} {m : Move} {target : Trace → ℤ → World → Move} {r : Result}
    → AfterValue x n m target r → AfterValue x (suc n) m target r
value_more (gives lead fits) = gives lead (more_fits fits)
value_more (stops e) = stops e

within_all : {x : Site} (vs : List TypedVar) (s : Scope) → Within x s → Within x (with_all s vs)
within_all [] s h = h
within_all (v ∷ vs) s h = within_all vs (with_one s v) (record
    { functions = h.functions; cells = h.cells; globals = h.globals; result = h.result })

-- what is declared changes nothing of this
pub within_behind : {x : Site} (s : Scope) (a : TypedStmt) → Within x s → Within x (behind s a)
within_behind s (TypedStmt.Vars vars) h = within_all vars _ h
within_behind s _ h = h

pub within_item : {x : Site} (s : Scope) (a : TypedItem) → Within x s → Within x (behind_item s a)
within_item s (TypedItem.Item a) h = within_behind s a h
within_item s (TypedItem.Case v place) h = h
within_item s (TypedItem.Default place) h = h

pub within_first : {x : Site} (s : Scope) (a : OtherTyped) → Within x s → Within x (behind_first s a)
within_first s OtherTyped.Nothing h = h
within_first s (OtherTyped.There a) h = within_behind s a h
