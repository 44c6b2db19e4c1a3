-- Each call has one walk, and where a run is closed each walk is whole: it begins in the entry and block 2 and ends in
-- the exit.
use Rattle.std.proofs.Common.{
  ◌≡◌,
  refl,
  sym,
  ap,
  subst,
  ℕ,
  zero,
  suc,
  List,
  [],
  ◌∷◌,
  ◌++◌,
  length,
  Bool,
  true,
  false,
  cond,
  ◌⊎◌,
  inl,
  inr,
  arith,
  length-append,
}
use Rattle.std.specs.Prelude.{ℤ, pos, Option, Some, None, slice_get, nat_lt}
use Rattle.std.proofs.lemmas.Option.{same_Some, none-some}
use Rattle.cov_base.specs.Walks.{Walk}
use Rattle.stack_ops.specs.declared.operation.Op.{Op}
use Rattle.stack_ops.specs.declared.endings.Outcome.TheVariants as outcome
use Rattle.stack_ops.specs.declared.endings.Trap.{Trap}
use Rattle.stack_ops.specs.declared.endings.Trap.TheVariants as trap
use Rattle.stack_ops.specs.Effect.{Step, effect}
use Rattle.flow_graph.specs.Graph.{Ending, Block, Graph, GraphUnit}
use Rattle.flow_graph.specs.Laws.{IsWhole, AllWhole}
use Rattle.flow_graph.specs.WalkRun.{
  Caller,
  Point,
  Walked,
  Move,
  over,
  walk_on,
  all_left,
  enters,
  with_turn,
  with_top,
  begins,
  calls,
  goes_back,
  ends_so,
}
use Rattle.flow_graph.specs.WalkRun.{
  state_of,
  stepped,
  does,
  block_at,
  gives_at,
  in_block,
  move,
  first,
  then_goes,
  goes,
  WalkRun,
  IsClosed,
}

-- ---- what holds of each move that may come

-- operations keep a point's walk, callers and walks, so what they allow the ending to come to holds of the block
does_keeps : (I : ℕ → List Caller → List Walk → Type 0) (M : Move → Type 0) → M Move.Broken
    → ((t : Trap) (line : ℕ) (p : Point) → I p.walk p.callers p.walks → M (over (outcome.Trapped t line) p))
    → (os : List Op) (p : Point) (then : Point → Move) → I p.walk p.callers p.walks
    → ((q : Point) → I q.walk q.callers q.walks → M (then q)) → M (does os p then)
does_keeps I M broken traps [] p then kept go = go p kept
does_keeps I M broken traps (o ∷ os) p then kept go =
    step (effect o (state_of p)) (λ q k. does_keeps I M broken traps os q then k go)
  where
    step : (s : Step) → ((q : Point) → I q.walk q.callers q.walks → M (does os q then)) → M
        (stepped s p (λ q. does os q then))
    step (Step.Goes s) behind = behind _ kept
    step (Step.Traps t line) behind = traps t line p kept
    step Step.Stuck behind = broken

-- the same of a turn that is taken
turn_keeps : (M : Move → Type 0) (t : ℕ) (p : Point) (then : Point → Move)
    → M (over outcome.OutOfTurns p) → ((t : ℕ) → M (then (record p { turns = t }))) → M (with_turn t p then)
turn_keeps M zero p then out go = out
turn_keeps M (suc t) p then out go = go t

-- the same of an operand that is taken
top_keeps : (M : Move → Type 0) (os : List ℤ) (p : Point) (then : ℤ → Point → Move)
    → M Move.Broken → ((a : ℤ) (rest : List ℤ) → M (then a (record p { operands = rest }))) → M (with_top os p then)
top_keeps M [] p then broken go = broken
top_keeps M (a ∷ rest) p then broken go = go a rest

-- the same of a test
cond_keeps : (M : Move → Type 0) (c : Bool) (a b : Move) → M a → M b → M (cond c a b)
cond_keeps M true a b first second = first
cond_keeps M false a b first second = second

-- the same of a call
call_keeps : (M : Move → Type 0) (g : Option Graph) (f line next : ℕ) (p : Point)
    → M Move.Broken → M (over outcome.OutOfTurns p) → ((n : ℕ) → M
    (over (outcome.Trapped trap.CallDepth line) (record p { turns = n })))
    → ((g : Graph) (n : ℕ) → M (begins g f next (record p { turns = n }))) → M (calls g f line next p)
call_keeps M None f line next p broken out deep go = broken
call_keeps M (Some g) f line next p broken out deep go =
    turn_keeps M p.turns p _ out (λ n. cond_keeps M (nat_lt (suc (length p.callers)) 2000)
    (begins g f next (record p { turns = n }))
    (over (outcome.Trapped trap.CallDepth line) (record p { turns = n })) (go g n) (deep n))

-- ---- one walk a call

-- the block ends in a call
abbrev pub is_call : Ending → Bool
is_call (Ending.Call f line next) = true
is_call e = false

-- the block is there and ends in a call
abbrev pub calls_there : Option Block → Bool
calls_there None = false
calls_there (Some b) = is_call b.end

-- the block of a point ends in a call
abbrev pub calls_next : GraphUnit → Point → Bool
calls_next u p = calls_there (block_at (slice_get u.graphs p.function) p.block)

-- A move adds a walk, and a call that waits; or there are as many walks as before.
abbrev pub Grows : Bool → Point → Point → Type 0
Grows true p q = (length q.walks ≡ suc (length p.walks)) × (length q.callers ≡ suc (length p.callers))
Grows false p q = length q.walks ≡ length p.walks

-- what a move makes of the walks of a point
abbrev Counted : Bool → Point → Move → Type 0
Counted c p (Move.Goes_on q) = Grows c p q
Counted c p (Move.Over walked) = length walked.walks ≡ length p.walks
Counted c p Move.Broken = Unit {0}

-- a walk that goes on is one walk still
length-walk_on : (n b : ℕ) (ws : List Walk) → length (walk_on n b ws) ≡ length ws
length-walk_on n b [] = refl
length-walk_on zero b (w ∷ ws) = refl
length-walk_on (suc n) b (w ∷ ws) = ap suc (length-walk_on n b ws)

-- and so are those that end in the exit
length-all_left : (cs : List Caller) (ws : List Walk) → length (all_left cs ws) ≡ length ws
length-all_left [] ws = refl
length-all_left (c ∷ cs) ws = rw (length-all_left cs (walk_on c.walk 1 ws), length-walk_on c.walk 1 ws) refl

-- a call that ends keeps the number of walks
goes_back_counted : (p : Point) (cs : List Caller) (given : List ℤ) (status : ℤ) (q : Point)
    → length q.walks ≡ length p.walks → Counted false p (goes_back cs given status q)
goes_back_counted p [] given status q e = e
goes_back_counted p (c ∷ cs) given status q e = rw (length-walk_on c.walk c.next q.walks) e

-- a call that begins adds one
calls_counted : (g : Option Graph) (f line next : ℕ) (p : Point) → Counted true p (calls g f line next p)
calls_counted g f line next p = call_keeps (Counted true p) g f line next p tt refl (λ n. refl)
    (λ g n. (rw (length-append p.walks (record { function = f; blocks = 0 ∷ 2 ∷ [] } ∷ [])) (omega arith), refl))

-- the same of each ending
ends_counted : (u : GraphUnit) (gives : Bool) (e : Ending) (p : Point) → Counted (is_call e) p (ends_so u gives e p)
ends_counted u gives (Ending.Jump t) p = length-walk_on p.walk t p.walks
ends_counted u gives (Ending.Back t) p =
    turn_keeps (Counted false p) p.turns p _ refl (λ n. length-walk_on p.walk t p.walks)
ends_counted u gives (Ending.Branch t f) p =
    top_keeps (Counted false p) p.operands p _ tt (λ a rest. length-walk_on p.walk _ p.walks)
ends_counted u gives (Ending.Switch cases default) p =
    top_keeps (Counted false p) p.operands p _ tt (λ a rest. length-walk_on p.walk _ p.walks)
ends_counted u gives (Ending.Call f line next) p = calls_counted (slice_get u.graphs f) f line next p
ends_counted u true Ending.Return p =
    top_keeps (Counted false p) p.operands p _ tt (λ a rest. goes_back_counted p p.callers _ a _
    (length-walk_on p.walk 1 p.walks))
ends_counted u false Ending.Return p = goes_back_counted p p.callers _ _ _ (length-walk_on p.walk 1 p.walks)
ends_counted u gives Ending.Exit p =
    top_keeps (Counted false p) p.operands p _ tt
    (λ a rest. rw (length-all_left p.callers (walk_on p.walk 1 p.walks), length-walk_on p.walk 1 p.walks) refl)

-- the same of a block, whose operations keep the walks and the callers
block_counted : (u : GraphUnit) (gives : Bool) (b : Option Block) (p : Point) → Counted (calls_there b) p
    (in_block u gives b p)
block_counted u gives None p = tt
block_counted u gives (Some b) p =
    does_keeps (λ w cs ws. (cs ≡ p.callers) × (ws ≡ p.walks)) (Counted (is_call b.end) p) tt
    (λ t line q same. ap length same.1)
    b.ops p (λ q. ends_so u gives b.end q) (refl, refl)
    (λ q same. as_before (is_call b.end) q same (ends_so u gives b.end q) (ends_counted u gives b.end q))
  where
    as_before : (c : Bool) (q : Point) → (q.callers ≡ p.callers) × (q.walks ≡ p.walks) → (m : Move) → Counted c q m →
        Counted c p m
    as_before true q same (Move.Goes_on r) h = rw (sym same.0, sym same.1) h
    as_before false q same (Move.Goes_on r) h = rw (sym same.1) h
    as_before c q same (Move.Over walked) h = rw (sym same.1) h
    as_before c q same Move.Broken h = tt

-- A block that ends in a call that begins adds one walk, and one call that waits; each other block keeps the number of
-- walks.
pub one_walk_a_call : (u : GraphUnit) (p q : Point) → move u p ≡ Move.Goes_on q → Grows (calls_next u p) p q
one_walk_a_call u p q e =
    subst (Counted (calls_next u p) p) e (block_counted u (gives_at (slice_get u.graphs p.function))
    (block_at (slice_get u.graphs p.function) p.block) p)

-- A run that is over has as many walks as the point before.
pub no_walk_at_the_end : (u : GraphUnit) (p : Point) (walked : Walked) → move u p ≡ Move.Over walked → length
    walked.walks ≡ length p.walks
no_walk_at_the_end u p walked e =
    subst (Counted (calls_next u p) p) e (block_counted u (gives_at (slice_get u.graphs p.function))
    (block_at (slice_get u.graphs p.function) p.block) p)

-- ---- whole walks

-- it begins in the entry and block 2
abbrev pub IsBegun : List ℕ → Type 0
IsBegun blocks = (rest : List ℕ) × (blocks ≡ 0 ∷ 2 ∷ rest)

-- Each walk has begun, and is whole or, by its number, open.
abbrev Kept : (ℕ → Type 0) → List Walk → Type 0
Kept Open [] = Unit {0}
Kept Open (w ∷ ws) = IsBegun w.blocks × (IsWhole w.blocks ⊎ Open zero) × Kept (λ n. Open (suc n)) ws

-- the walks of calls that wait
abbrev Waits : List Caller → ℕ → Type 0
Waits [] n = ⊥
Waits (c ∷ cs) n = (n ≡ c.walk) ⊎ Waits cs n

-- each walk has begun, and is whole or one of the call that runs or of calls that wait
abbrev Going : ℕ → List Caller → List Walk → Type 0
Going walk cs ws = Kept (λ n. (n ≡ walk) ⊎ Waits cs n) ws

-- what has begun and goes on has begun
goes_on-begun : (blocks : List ℕ) (b : ℕ) → IsBegun blocks → IsBegun (blocks ++ b ∷ [])
goes_on-begun blocks b (rest, e) = (rest ++ b ∷ [], ap (λ (l : List ℕ). l ++ b ∷ []) e)

-- what has begun and comes to the exit is whole
ended-whole : (blocks : List ℕ) → IsBegun blocks → IsWhole (blocks ++ 1 ∷ [])
ended-whole blocks (rest, e) = (rest, ap (λ (l : List ℕ). l ++ 1 ∷ []) e)

-- more walks may be open
Kept-more : (P Q : ℕ → Type 0) → ((n : ℕ) → P n → Q n) → (ws : List Walk) → Kept P ws → Kept Q ws
Kept-more P Q more [] kept = tt
Kept-more P Q more (w ∷ ws) (begun, inl whole, rest) =
    (begun, inl whole, Kept-more (λ n. P (suc n)) (λ n. Q (suc n)) (λ n. more (suc n)) ws rest)
Kept-more P Q more (w ∷ ws) (begun, inr at, rest) =
    (begun, inr (more zero at), Kept-more (λ n. P (suc n)) (λ n. Q (suc n)) (λ n. more (suc n)) ws rest)

-- an open walk goes on and is open
Kept-walk_on : (P : ℕ → Type 0) (n b : ℕ) (ws : List Walk) → P n → Kept P ws → Kept P (walk_on n b ws)
Kept-walk_on P n b [] at kept = tt
Kept-walk_on P zero b (w ∷ ws) at (begun, _, rest) = (goes_on-begun w.blocks b begun, inr at, rest)
Kept-walk_on P (suc n) b (w ∷ ws) at (begun, now, rest) = (begun, now, Kept-walk_on (λ n. P (suc n)) n b ws at rest)

-- a walk that comes to the exit is open no longer
Kept-exit : (P Q : ℕ → Type 0) (n : ℕ) (ws : List Walk) → ((m : ℕ) → P m → (m ≡ n) ⊎ Q m) → Kept P ws → Kept Q
    (walk_on n 1 ws)
Kept-exit P Q n [] left kept = tt
Kept-exit P Q zero (w ∷ ws) left (begun, _, rest) = (
  goes_on-begun w.blocks 1 begun,
  inl (ended-whole w.blocks begun),
  Kept-more (λ n. P (suc n)) (λ n. Q (suc n))
      (λ m at. go m (left (suc m) at)) ws rest,
)
  where
    go : (m : ℕ) → (suc m ≡ 0) ⊎ Q (suc m) → Q (suc m)
    go m (inl e) = absurd (omega (arith, e))
    go m (inr at) = at
Kept-exit P Q (suc n) (w ∷ ws) left (begun, now, rest) =
    (begun, head now, Kept-exit (λ n. P (suc n)) (λ n. Q (suc n)) n ws (λ m at. go m (left (suc m) at)) rest)
  where
    head : IsWhole w.blocks ⊎ P zero → IsWhole w.blocks ⊎ Q zero
    head (inl whole) = inl whole
    head (inr at) = elim (left zero at) [ inl e ↦ absurd (omega (arith, e)) | inr other ↦ inr other ]

    go : (m : ℕ) → (suc m ≡ suc n) ⊎ Q (suc m) → (m ≡ n) ⊎ Q (suc m)
    go m (inl e) = inl (omega (arith, e))
    go m (inr at) = inr at

-- a walk that has begun is added, and is open
Kept-begins : (P Q : ℕ → Type 0) (ws : List Walk) (w : Walk) → ((n : ℕ) → P n → Q n) → Q (length ws) → IsBegun w.blocks
    → Kept P ws → Kept Q (ws ++ w ∷ [])
Kept-begins P Q [] w more at begun kept = (begun, inr at, tt)
Kept-begins P Q (v ∷ ws) w more at begun (first, now, rest) = (
  first,
  elim now [ inl whole ↦ inl whole | inr at ↦ inr (more zero at) ],
  Kept-begins (λ n. P (suc n))
      (λ n. Q (suc n)) ws w (λ n. more (suc n)) at begun rest,
)

-- where none is open, each is whole
none_open : (ws : List Walk) → Kept (λ n. ⊥) ws → AllWhole ws
none_open [] kept = tt
none_open (w ∷ ws) (begun, inl whole, rest) = (whole, none_open ws rest)
none_open (w ∷ ws) (begun, inr never, rest) = absurd never

-- the walks of calls that wait come to the exit
Kept-all_left : (cs : List Caller) (ws : List Walk) → Kept (Waits cs) ws → Kept (λ n. ⊥) (all_left cs ws)
Kept-all_left [] ws kept = kept
Kept-all_left (c ∷ cs) ws kept =
    Kept-all_left cs (walk_on c.walk 1 ws) (Kept-exit (Waits (c ∷ cs)) (Waits cs) c.walk ws (λ m at. at) kept)

-- a run that goes on keeps its walks so, and one that is closed has whole ones
abbrev Sound : Move → Type 0
Sound (Move.Goes_on q) = Going q.walk q.callers q.walks
Sound (Move.Over walked) = IsClosed walked.ending → AllWhole walked.walks
Sound Move.Broken = Unit {0}

-- the innermost call goes to a block
enters_sound : (b : ℕ) (p : Point) → Going p.walk p.callers p.walks → Sound (Move.Goes_on (enters b p))
enters_sound b p going = Kept-walk_on (λ n. (n ≡ p.walk) ⊎ Waits p.callers n) p.walk b p.walks (inl refl) going

-- the innermost call comes to the exit
exit_kept : (p : Point) → Going p.walk p.callers p.walks → Kept (Waits p.callers) (walk_on p.walk 1 p.walks)
exit_kept p going =
    Kept-exit (λ n. (n ≡ p.walk) ⊎ Waits p.callers n) (Waits p.callers) p.walk p.walks (λ m at. at) going

-- the caller goes on, or the run is closed
goes_back_sound : (cs : List Caller) (given : List ℤ) (status : ℤ) (q : Point) → Kept (Waits cs) q.walks → Sound
    (goes_back cs given status q)
goes_back_sound [] given status q kept = λ closed. none_open q.walks kept
goes_back_sound (c ∷ cs) given status q kept = Kept-walk_on (Waits (c ∷ cs)) c.walk c.next q.walks (inl refl) kept

-- a call begins
begins_sound : (g : Graph) (f next : ℕ) (p : Point) → Going p.walk p.callers p.walks → Sound (begins g f next p)
begins_sound g f next p going =
    Kept-begins (λ n. (n ≡ p.walk) ⊎ Waits p.callers n)
    (λ n. (n ≡ length p.walks) ⊎ ((n ≡ p.walk) ⊎ Waits p.callers n)) p.walks
    (record { function = f; blocks = 0 ∷ 2 ∷ [] }) (λ n at. inr at) (inl refl) ([], refl) going

-- the same of each ending
ends_sound : (u : GraphUnit) (gives : Bool) (e : Ending) (p : Point) → Going p.walk p.callers p.walks → Sound
    (ends_so u gives e p)
ends_sound u gives (Ending.Jump t) p going = enters_sound t p going
ends_sound u gives (Ending.Back t) p going =
    turn_keeps Sound p.turns p _ (λ closed. absurd closed) (λ n. enters_sound t (record p { turns = n }) going)
ends_sound u gives (Ending.Branch t f) p going =
    top_keeps Sound p.operands p _ tt (λ a rest. enters_sound _ (record p { operands = rest }) going)
ends_sound u gives (Ending.Switch cases default) p going =
    top_keeps Sound p.operands p _ tt (λ a rest. enters_sound _ (record p { operands = rest }) going)
ends_sound u gives (Ending.Call f line next) p going =
    call_keeps Sound (slice_get u.graphs f) f line next p tt (λ closed. absurd closed) (λ n closed. absurd closed)
    (λ g n. begins_sound g f next (record p { turns = n }) going)
ends_sound u true Ending.Return p going =
    top_keeps Sound p.operands p _ tt (λ a rest. goes_back_sound p.callers (a ∷ []) a (enters 1 (record p {
      operands =
          rest;
    })) (exit_kept p going))
ends_sound u false Ending.Return p going = goes_back_sound p.callers [] (pos 0) (enters 1 p) (exit_kept p going)
ends_sound u gives Ending.Exit p going =
    top_keeps Sound p.operands p _ tt (λ a rest closed. none_open _
    (Kept-all_left p.callers (walk_on p.walk 1 p.walks) (exit_kept p going)))

-- the same of a block
block_sound : (u : GraphUnit) (gives : Bool) (b : Option Block) (p : Point) → Going p.walk p.callers p.walks → Sound
    (in_block u gives b p)
block_sound u gives None p going = tt
block_sound u gives (Some b) p going =
    does_keeps Going Sound tt (λ t line q kept closed. absurd closed) b.ops p (λ q. ends_so u gives b.end q) going
    (λ q kept. ends_sound u gives b.end q kept)

-- the same of a run from a point on
goes_whole : (k : ℕ) (u : GraphUnit) (p : Point) (walked : Walked) → Going p.walk p.callers p.walks
    → goes k u p ≡ Some walked → IsClosed walked.ending → AllWhole walked.walks
goes_whole zero u p walked going e closed = absurd (none-some walked e)
goes_whole (suc k) u p walked going e closed =
    go (move u p) (block_sound u (gives_at (slice_get u.graphs p.function))
    (block_at (slice_get u.graphs p.function) p.block) p going)
    (λ q kept come. goes_whole k u q walked kept come closed) e
  where
    go : (m : Move) → Sound m → ((q : Point) → Going q.walk q.callers q.walks → goes k u q ≡ Some walked → AllWhole
        walked.walks)
        → then_goes m (λ q. goes k u q) ≡ Some walked → AllWhole walked.walks
    go (Move.Goes_on q) sound behind e = behind q sound e
    go (Move.Over other) sound behind e =
        subst (λ (w : Walked). IsClosed w.ending → AllWhole w.walks) (same_Some other walked e) sound closed
    go Move.Broken sound behind e = absurd (none-some walked e)

-- Where a run is closed, the walk of each call begins in the entry and block 2 and ends in the exit.
pub closed_walks : (u : GraphUnit) (input : List ℕ) (n : ℕ) (walked : Walked)
    → WalkRun u input n walked → IsClosed walked.ending → AllWhole walked.walks
closed_walks u input n walked run closed =
    goes_whole run.0 u (first u input n) walked (([], refl), inr (inl refl), tt) run.1 closed
