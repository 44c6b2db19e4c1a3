-- A run of a source's graphs is over within a number of blocks.
use Rattle.std.proofs.Common.{
  ◌≡◌,
  refl,
  sym,
  ap,
  subst,
  ◌∙◌,
  ◌<◌,
  ◌≤◌,
  arith,
  length,
  ℕ,
  zero,
  suc,
  ◌+◌,
  ◌-◌,
  ◌*◌,
  ◌==◌,
}
use Rattle.std.proofs.Common.{
  inl,
  inr,
  ◌||◌,
  Bool,
  true,
  false,
  cond,
  nat_lt,
  List,
  [],
  ◌∷◌,
  Option,
  Some,
  None,
  slice_get,
}
use Rattle.std.specs.Prelude.{ℤ, pos}
use Rattle.std.specs.Ordering.{int_eq}
use Rattle.std.proofs.lemmas.Bool.{eq-eqb, or_left, or_right, or_cases}
use Rattle.std.proofs.Math.Nat.{suc-mul}
use Rattle.std.proofs.lemmas.Option.{none-some}
use Rattle.c_tree.specs.Typed.{Typed}
use Rattle.stack_ops.specs.declared.operation.Op.{Op}
use Rattle.stack_ops.specs.Effect.{Step, effect}
use Rattle.flow_graph.specs.Ascending.{inserted}
use Rattle.flow_graph.specs.Graph.{Ending, Block, Graph, GraphUnit}
use Rattle.flow_graph.specs.Nets.{targets, among}
use Rattle.flow_graph.specs.WalkRun.{
  Caller,
  Point,
  Walked,
  Move,
  enters,
  with_turn,
  with_top,
  chosen,
  begins,
  calls,
  goes_back,
}
use Rattle.flow_graph.specs.WalkRun.{ends_so, state_of, with_state, stepped, does, block_at, gives_at, in_block, move}
use Rattle.stack_ops.specs.declared.endings.Outcome.TheVariants as outcome
use Rattle.stack_ops.specs.declared.endings.Trap.TheVariants as trap
use Rattle.flow_graph.specs.WalkRun.{over, first, then_goes, goes, WalkRun}
use Rattle.c_lower.specs.Lowered.{unit_of}
use Rattle.lower_agrees.specs.Agreement.{EndsWell, is_back, blocks_in, most_blocks}
use Rattle.lower_agrees.proofs.Targets.{targets_stand, in_length}

-- a number that is put among others is among them, and so are those
put_among : (n : ℕ) (ls : List ℕ) → among n (inserted n ls) ≡ true
put_among n [] = or_left _ _ (eq-eqb n n refl)
put_among n (l ∷ ls) = go (nat_lt n l) (n == l) refl (put_among n ls)
  where
    go : (x y : Bool) → (n == l) ≡ y → among n (inserted n ls) ≡ true
        → among n (cond x (n ∷ l ∷ ls) (cond y (l ∷ ls) (l ∷ inserted n ls))) ≡ true
    go true y e more = or_left _ _ (eq-eqb n n refl)
    go false true e more = or_left _ _ e
    go false false e more = or_right _ _ more

still_among : (n t : ℕ) (ls : List ℕ) → among t ls ≡ true → among t (inserted n ls) ≡ true
still_among n t [] h = absurd (let never : false ≡ true = h in cc)
still_among n t (l ∷ ls) h = go (nat_lt n l) (n == l) h (λ more. still_among n t ls more)
  where
    go : (x y : Bool) → (t == l || among t ls) ≡ true → (among t ls ≡ true → among t (inserted n ls) ≡ true)
        → among t (cond x (n ∷ l ∷ ls) (cond y (l ∷ ls) (l ∷ inserted n ls))) ≡ true
    go true y h more = or_right _ _ h
    go false true h more = h
    go false false h more = elim (or_cases (t == l) (among t ls) h) [
      | inl e ↦ or_left _ _ e
      | inr later ↦ or_right _ _ (more later)
    ]

alone : (t : ℕ) → among t (t ∷ []) ≡ true
alone t = or_left _ _ (eq-eqb t t refl)

-- the block that a switch goes to is one of those that it leads to
chosen_among : (v : ℤ) (cases : List (ℤ × ℕ)) (default : ℕ)
    → among (chosen v cases default) (targets (Ending.Switch cases default)) ≡ true
chosen_among v [] default = alone default
chosen_among v (c ∷ cases) default = go (int_eq c.0 v) (chosen_among v cases default)
  where
    go : (hit : Bool) → among (chosen v cases default) (targets (Ending.Switch cases default)) ≡ true
        → among (cond hit c.1 (chosen v cases default)) (inserted c.1 (targets (Ending.Switch cases default))) ≡ true
    go true more = put_among c.1 (targets (Ending.Switch cases default))
    go false more = still_among c.1 (chosen v cases default) (targets (Ending.Switch cases default)) more

-- how many blocks a graph has
abbrev size_of : Option Graph → ℕ
size_of None = 0
size_of (Some g) = length g.blocks

size_within : (gs : List Graph) (f : ℕ) → size_of (slice_get gs f) ≤ blocks_in gs
size_within [] f = omega arith
size_within (g ∷ gs) zero = omega arith
size_within (g ∷ gs) (suc f) = let more = size_within gs f in omega (arith, more)

module _ (u : GraphUnit) where
  -- how many blocks a call has from this one on
  abbrev left : ℕ → ℕ → ℕ
  left f b = size_of (slice_get u.graphs f) - (b - 2)

  -- how many the calls have that wait
  abbrev waiting : List Caller → ℕ
  waiting [] = 0
  waiting (c ∷ cs) = suc (left c.function c.next) + waiting cs

  -- Each block that a run enters makes this less: each turn is worth all blocks.
  abbrev worth : ℕ → ℕ → ℕ → List Caller → ℕ
  worth turns f b cs = turns * suc (blocks_in u.graphs) + (left f b + waiting cs)

  abbrev weight : Point → ℕ
  weight p = worth p.turns p.function p.block p.callers

  -- the run is over, or goes on with less
  abbrev Less : ℕ → Move → Type 0
  Less n (Move.Goes_on q) = weight q < n
  Less n (Move.Over walked) = Unit {0}
  Less n Move.Broken = Unit {0}

  abbrev Beside : Point → Point → Type 0
  Beside p q = (q.turns ≡ p.turns) × (q.function ≡ p.function) × (q.block ≡ p.block) × (q.callers ≡ p.callers)

  -- operations keep it
  does_less : (n : ℕ) (os : List Op) (p q : Point) (then : Point → Move) → Beside p q
      → ((r : Point) → Beside p r → Less n (then r)) → Less n (does os q then)
  does_less n [] p q then same h = h q same
  does_less n (o ∷ os) p q then same h = go (effect o (state_of q)) (λ r same. does_less n os p r then same h)
    where
      go : (s : Step) → ((r : Point) → Beside p r → Less n (does os r then)) → Less n
          (stepped s q (λ r. does os r then))
      go (Step.Goes s) more = more (with_state s q) same
      go (Step.Traps t line) more = tt
      go Step.Stuck more = tt

  top_less : (n : ℕ) (stack : List ℤ) (p : Point) (then : ℤ → Point → Move)
      → ((a : ℤ) (rest : List ℤ) → Less n (then a (record p { operands = rest }))) → Less n (with_top stack p then)
  top_less n [] p then h = tt
  top_less n (a ∷ rest) p then h = h a rest

  turn_less : (n turns : ℕ) (p : Point) (then : Point → Move)
      → ((t : ℕ) → turns ≡ suc t → Less n (then (record p { turns = t }))) → Less n (with_turn turns p then)
  turn_less n zero p then h = tt
  turn_less n (suc t) p then h = h t refl

  -- a call that comes back
  back_less : (n : ℕ) (cs : List Caller) (given : List ℤ) (status : ℤ) (q : Point)
      → q.turns * suc (blocks_in u.graphs) + waiting cs ≤ n → Less n (goes_back cs given status q)
  back_less n [] given status q le = tt
  back_less n (c ∷ cs) given status q le = omega (arith, le)

  -- a call that begins
  call_less : (n : ℕ) (g : Option Graph) (f line next : ℕ) (p : Point)
      → ((t : ℕ) → p.turns ≡ suc t → worth t f 2 p.callers + suc (left p.function next) < n)
      → Less n (calls g f line next p)
  call_less n None f line next p h = tt
  call_less n (Some g) f line next p h = turn_less n p.turns p _ (λ t e. go t e (nat_lt (suc (length p.callers)) 2000))
    where
      go : (t : ℕ) → p.turns ≡ suc t → (shallow : Bool)
          → Less n (cond shallow (begins g f next (record p { turns = t }))
          (over (outcome.Trapped trap.CallDepth line) (record p { turns = t })))
      go t e true = let less = h t e in omega (arith, less)
      go t e false = tt

  branch_among : (t f : ℕ) (zero : Bool) → among (cond zero f t) (inserted t (f ∷ [])) ≡ true
  branch_among t f true = still_among t f (f ∷ []) (alone f)
  branch_among t f false = put_among t (f ∷ [])

  -- a turn is worth all blocks
  turn_worth : (turns t : ℕ) → turns ≡ suc t
      → turns * suc (blocks_in u.graphs) ≡ t * suc (blocks_in u.graphs) + suc (blocks_in u.graphs)
  turn_worth turns t e = ap (λ (n : ℕ). n * suc (blocks_in u.graphs)) e ∙ suc-mul t (suc (blocks_in u.graphs))

  module _ (q : Point) (g : Graph) (found : slice_get u.graphs q.function ≡ Some g)
      (within : q.block - 2 < length g.blocks) where
    -- an arc upward
    up_less : (t : ℕ) → 2 + (q.block - 2) < t → left q.function t < left q.function q.block
    up_less t up = let size = ap size_of found in omega (arith, within, up, size)

    enters_less : (end : Ending) (t : ℕ) → EndsWell g (q.block - 2) end → is_back end ≡ false
        → among t (targets end) ≡ true → left q.function t < left q.function q.block
    enters_less end t well forth h = up_less t (well.up forth t h)

    -- each ending makes it less
    ends_less : (gives : Bool) (end : Ending) → EndsWell g (q.block - 2) end → Less (weight q) (ends_so u gives end q)
    ends_less gives (Ending.Jump t) well =
        let less = enters_less (Ending.Jump t) t well refl (alone t) in omega (arith, less)
    ends_less gives (Ending.Back t) well = turn_less (weight q) q.turns q _ (λ turns e.
        let worth = turn_worth q.turns turns e in let size = size_within u.graphs q.function in omega
        (arith, worth, size))
    ends_less gives (Ending.Branch t f) well = top_less (weight q) q.operands q _ (λ a rest.
        let less = enters_less (Ending.Branch t f) (cond (int_eq a (pos 0)) f t) well refl
        (branch_among t f (int_eq a (pos 0))) in omega (arith, less))
    ends_less gives (Ending.Switch cases default) well = top_less (weight q) q.operands q _ (λ a rest.
        let less = enters_less (Ending.Switch cases default) (chosen a cases default) well refl
        (chosen_among a cases default) in omega (arith, less))
    ends_less gives (Ending.Call f line next) well =
        call_less (weight q) (slice_get u.graphs f) f line next q (λ turns e.
        let worth = turn_worth q.turns turns e in let size = size_within u.graphs f in
        let less = enters_less (Ending.Call f line next) next well refl (alone next) in
        omega (arith, worth, size, less))
    ends_less true Ending.Return well = top_less (weight q) q.operands q _ (λ a rest.
        back_less (weight q) q.callers (a ∷ []) a (enters 1 (record q { operands = rest })) (omega arith))
    ends_less false Ending.Return well = back_less (weight q) q.callers [] (pos 0) (enters 1 q) (omega arith)
    ends_less gives Ending.Exit well = top_less (weight q) q.operands q _ (λ a rest. tt)

  same_weight : (p r : Point) → Beside p r → weight r ≡ weight p
  same_weight p r same =
      ap (λ (t : ℕ). worth t r.function r.block r.callers) same.0
      ∙ ap (λ (f : ℕ). worth p.turns f r.block r.callers) same.1
      ∙ ap (λ (b : ℕ). worth p.turns p.function b r.callers) same.2
      ∙ ap (λ (cs : List Caller). worth p.turns p.function p.block cs) same.3

  module _ (each : (f : ℕ) (g : Graph) (k : ℕ) (b : Block) → slice_get u.graphs f ≡ Some g → slice_get g.blocks k ≡
      Some b
      → EndsWell g k b.end) where
    block_less : (p : Point) (o : Option Graph) → slice_get u.graphs p.function ≡ o → (found : Option Block)
        → block_at o p.block ≡ found → Less (weight p) (in_block u (gives_at o) found p)
    block_less p o e None is = tt
    block_less p None e (Some b) is = absurd (none-some b is)
    block_less p (Some g) e (Some b) is =
        let here : Beside p p = (refl, refl, refl, refl) in
        does_less (weight p) b.ops p p (λ q. ends_so u g.gives b.end q) here (λ r same.
        subst (λ (n : ℕ). Less n (ends_so u g.gives b.end r)) (same_weight p r same)
        (ends_less r g (subst (λ (f : ℕ). slice_get u.graphs f ≡ Some g) (sym same.1) e)
        (subst (λ (k : ℕ). k - 2 < length g.blocks) (sym same.2) (in_length g.blocks (p.block - 2) b is)) g.gives b.end
        (subst (λ (k : ℕ). EndsWell g (k - 2) b.end) (sym same.2) (each p.function g (p.block - 2) b e is))))

    -- a run that comes to something comes to it in fewer blocks than it is worth
    over_within : (k j : ℕ) (p : Point) (walked : Walked) → goes k u p ≡ Some walked → weight p < j
        → goes j u p ≡ Some walked
    over_within zero j p walked e lt = absurd (none-some walked e)
    over_within (suc k) zero p walked e lt = absurd (omega (arith, lt))
    over_within (suc k) (suc j) p walked e lt =
        go (move u p) (block_less p (slice_get u.graphs p.function) refl
        (block_at (slice_get u.graphs p.function) p.block) refl)
        (λ q less e. over_within k j q walked e (omega (arith, less, lt))) e
      where
        go : (m : Move) → Less (weight p) m
            → ((q : Point) → weight q < weight p → goes k u q ≡ Some walked → goes j u q ≡ Some walked)
            → then_goes m (λ q. goes k u q) ≡ Some walked → then_goes m (λ q. goes j u q) ≡ Some walked
        go (Move.Goes_on q) less more e = more q less e
        go (Move.Over other) less more e = e
        go Move.Broken less more e = absurd (none-some walked e)

-- A run of a source's graphs that comes to something has come to it within as many blocks as all turns allow.
pub runs_within : (source : Typed) (input : List ℕ) (n : ℕ) (walked : Walked) → WalkRun (unit_of source) input n walked
    → goes (most_blocks (unit_of source) n) (unit_of source) (first (unit_of source) input n) ≡ Some walked
runs_within source input n walked run =
    let u : GraphUnit = unit_of source in
    let size = size_within u.graphs u.main in
    let whole = suc-mul n (suc (blocks_in u.graphs)) in
    over_within u (λ f g k b graph block. targets_stand source g b
    (record { function = f; graph = graph; place = k; block = block }))
    run.0 (most_blocks u n) (first u input n) walked run.1 (omega (arith, size, whole))
