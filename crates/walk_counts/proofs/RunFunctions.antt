-- Each walk of a run is one of a function of its unit.
use Rattle.std.proofs.Common.{◌≡◌, refl, subst, ℕ, zero, suc, ◌<◌, Bool, true, false, cond}
use Rattle.std.proofs.Common.{List, [], ◌∷◌, ◌++◌, length, Option, Some, None, pos}
use Rattle.std.specs.Prelude.{ℤ, nat_lt, slice_get}
use Rattle.std.specs.List.{All}
use Rattle.std.specs.Ordering.{int_eq}
use Rattle.std.proofs.lemmas.List.Elements.{All-nil, All-cons, All-append, All-head, All-tail}
use Rattle.std.proofs.lemmas.Option.{same_Some, none-some, slice_get_within}
use Rattle.cov_base.specs.Limits.{frame_limit}
use Rattle.cov_base.specs.Walks.{Walk}
use Rattle.stack_ops.specs.declared.operation.Op.{Op}
use Rattle.stack_ops.specs.declared.endings.Outcome.TheVariants as outcome
use Rattle.stack_ops.specs.declared.endings.Trap.TheVariants as trap
use Rattle.stack_ops.specs.Effect.{Step, effect}
use Rattle.flow_graph.specs.Graph.{Ending, Block, Graph, GraphUnit}
use Rattle.flow_graph.specs.WalkRun.{Caller, Point, Walked, Move, over, walk_on, all_left, enters, with_turn, with_top}
use Rattle.flow_graph.specs.WalkRun.{chosen, begins, calls, goes_back, ends_so, state_of, with_state, stepped}
use Rattle.flow_graph.specs.WalkRun.{does, block_at, gives_at, in_block, move, first, then_goes, goes}
use Rattle.walk_counts.specs.Laws.{RunsStayInside}

module _ (u : GraphUnit) where
  -- the walk is one of a function of the unit
  abbrev Inside : Walk → Type 0
  Inside w = w.function < length u.graphs

  on_inside : (n b : ℕ) (ws : List Walk) → All Inside ws → All Inside (walk_on n b ws)
  on_inside n b [] h = h
  on_inside zero b (w ∷ ws) h =
      All-cons Inside (record w { blocks = w.blocks ++ b ∷ [] }) ws (All-head Inside w ws h) (All-tail Inside w ws h)
  on_inside (suc n) b (w ∷ ws) h =
      All-cons Inside w (walk_on n b ws) (All-head Inside w ws h) (on_inside n b ws (All-tail Inside w ws h))

  left_inside : (cs : List Caller) (ws : List Walk) → All Inside ws → All Inside (all_left cs ws)
  left_inside [] ws h = h
  left_inside (c ∷ cs) ws h = left_inside cs (walk_on c.walk 1 ws) (on_inside c.walk 1 ws h)

  -- the walks of what a move comes to are of functions of the unit
  abbrev Keeps : Move → Type 0
  Keeps (Move.Goes_on p) = All Inside p.walks
  Keeps (Move.Over walked) = All Inside walked.walks
  Keeps Move.Broken = Unit {0}

  turn_keeps : (t : ℕ) (p : Point) (then : Point → Move) → All Inside p.walks
      → ((t : ℕ) → Keeps (then (record p { turns = t }))) → Keeps (with_turn t p then)
  turn_keeps zero p then h go = h
  turn_keeps (suc t) p then h go = go t

  top_keeps : (os : List ℤ) (p : Point) (then : ℤ → Point → Move)
      → ((a : ℤ) (rest : List ℤ) → Keeps (then a (record p { operands = rest }))) → Keeps (with_top os p then)
  top_keeps [] p then go = tt
  top_keeps (a ∷ rest) p then go = go a rest

  back_keeps : (cs : List Caller) (given : List ℤ) (status : ℤ) (p : Point) → All Inside p.walks
      → Keeps (goes_back cs given status p)
  back_keeps [] given status p h = h
  back_keeps (c ∷ cs) given status p h = on_inside c.walk c.next p.walks h

  call_keeps : (f line next : ℕ) (p : Point) → All Inside p.walks → Keeps (calls (slice_get u.graphs f) f line next p)
  call_keeps f line next p h = by (slice_get u.graphs f) refl
    where
      begun : (g : Graph) (n : ℕ) → slice_get u.graphs f ≡ Some g → Keeps (begins g f next (record p { turns = n }))
      begun g n at = All-append Inside p.walks (record { function = f; blocks = 0 ∷ 2 ∷ [] } ∷ []) h
          (All-cons Inside (record { function = f; blocks = 0 ∷ 2 ∷ [] }) [] (slice_get_within u.graphs f g at)
          (All-nil Inside))

      deep : (z : Bool) (g : Graph) (n : ℕ) → slice_get u.graphs f ≡ Some g
          → Keeps (cond z (begins g f next (record p { turns = n }))
          (over (outcome.Trapped trap.CallDepth line) (record p { turns = n })))
      deep true g n at = begun g n at
      deep false g n at = h

      by : (o : Option Graph) → slice_get u.graphs f ≡ o → Keeps (calls o f line next p)
      by None at = tt
      by (Some g) at = turn_keeps p.turns p _ h (λ n. deep (nat_lt (suc (length p.callers)) frame_limit) g n at)

  ends_keep : (gives : Bool) (e : Ending) (p : Point) → All Inside p.walks → Keeps (ends_so u gives e p)
  ends_keep gives (Ending.Jump t) p h = on_inside p.walk t p.walks h
  ends_keep gives (Ending.Back t) p h = turn_keeps p.turns p _ h (λ n. on_inside p.walk t p.walks h)
  ends_keep gives (Ending.Branch t f) p h =
      top_keeps p.operands p _ (λ a rest. on_inside p.walk (cond (int_eq a (pos 0)) f t) p.walks h)
  ends_keep gives (Ending.Switch cases default) p h =
      top_keeps p.operands p _ (λ a rest. on_inside p.walk (chosen a cases default) p.walks h)
  ends_keep gives (Ending.Call f line next) p h = call_keeps f line next p h
  ends_keep true Ending.Return p h =
      top_keeps p.operands p _ (λ a rest. back_keeps p.callers (a ∷ []) a (enters 1 (record p { operands = rest }))
      (on_inside p.walk 1 p.walks h))
  ends_keep false Ending.Return p h = back_keeps p.callers [] (pos 0) (enters 1 p) (on_inside p.walk 1 p.walks h)
  ends_keep gives Ending.Exit p h =
      top_keeps p.operands p _
      (λ a rest. left_inside p.callers (walk_on p.walk 1 p.walks) (on_inside p.walk 1 p.walks h))

  does_keep : (os : List Op) (p : Point) (then : Point → Move) → All Inside p.walks
      → ((q : Point) → All Inside q.walks → Keeps (then q)) → Keeps (does os p then)
  does_keep [] p then h go = go p h
  does_keep (o ∷ os) p then h go = by (effect o (state_of p)) (λ q r. does_keep os q then r go)
    where
      by : (s : Step) → ((q : Point) → All Inside q.walks → Keeps (does os q then))
          → Keeps (stepped s p (λ q. does os q then))
      by (Step.Goes s) rest = rest (with_state s p) h
      by (Step.Traps t line) rest = h
      by Step.Stuck rest = tt

  move_keeps : (p : Point) → All Inside p.walks → Keeps (move u p)
  move_keeps p h = by (gives_at (slice_get u.graphs p.function)) (block_at (slice_get u.graphs p.function) p.block)
    where
      by : (gives : Bool) (o : Option Block) → Keeps (in_block u gives o p)
      by gives None = tt
      by gives (Some b) = does_keep b.ops p (λ q. ends_so u gives b.end q) h (λ q r. ends_keep gives b.end q r)

  goes_keep : (k : ℕ) (p : Point) → All Inside p.walks → (walked : Walked) → goes k u p ≡ Some walked
      → All Inside walked.walks
  goes_keep zero p h walked e = absurd (none-some walked e)
  goes_keep (suc k) p h walked e = by (move u p) (move_keeps p h) (λ q r come. goes_keep k q r walked come) e
    where
      by : (m : Move) → Keeps m
          → ((q : Point) → All Inside q.walks → goes k u q ≡ Some walked → All Inside walked.walks)
          → then_goes m (λ q. goes k u q) ≡ Some walked → All Inside walked.walks
      by (Move.Goes_on q) kept rest e = rest q kept e
      by (Move.Over other) kept rest e = subst (λ (w : Walked). All Inside w.walks) (same_Some other walked e) kept
      by Move.Broken kept rest e = absurd (none-some walked e)

  -- a run that is over began in a function of the unit
  begins_inside : (input : List ℕ) (n k : ℕ) (walked : Walked) → goes k u (first u input n) ≡ Some walked
      → u.main < length u.graphs
  begins_inside input n zero walked e = absurd (none-some walked e)
  begins_inside input n (suc k) walked e = by (slice_get u.graphs u.main) refl e
    where
      by : (o : Option Graph) → slice_get u.graphs u.main ≡ o
          → then_goes (in_block u (gives_at o) (block_at o 2) (first u input n)) (λ q. goes k u q) ≡ Some walked
          → u.main < length u.graphs
      by None at e = absurd (none-some walked e)
      by (Some g) at e = slice_get_within u.graphs u.main g at

pub runs_inside : RunsStayInside
runs_inside u input turns walked run =
    goes_keep u run.0 (first u input turns)
    (All-cons (Inside u) (record { function = u.main; blocks = 0 ∷ 2 ∷ [] }) []
    (begins_inside u input turns run.0 walked run.1) (All-nil (Inside u))) walked run.1
