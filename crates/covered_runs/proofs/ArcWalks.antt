-- The walks of a run go along arcs of the nets of their functions.
use Rattle.std.proofs.Common.{◌≡◌, refl, sym, ap, subst, ◌∙◌, ℕ, zero, suc, ◌+◌, ◌-◌, ◌<◌, ◌≤◌, ◌==◌, ◌||◌, Bool, true}
use Rattle.std.proofs.Common.{false, cond, List, [], ◌∷◌, ◌++◌, length, map, Option, Some, None, arith, eqb-true, eq-eqb}
use Rattle.std.proofs.Common.{inl, inr}
use Rattle.std.specs.Prelude.{ℤ, pos, nat_lt, slice_get}
use Rattle.std.specs.List.{All}
use Rattle.std.specs.Ordering.{int_eq}
use Rattle.std.proofs.lemmas.Bool.{and_from, or_cases, or_left, or_right}
use Rattle.std.proofs.lemmas.List.Elements.{All-nil, All-cons, All-append, All-head, All-tail}
use Rattle.std.proofs.lemmas.List.Folds.{list_any-append}
use Rattle.std.proofs.lemmas.Option.{same_Some, none-some}
use Rattle.cov_base.specs.Net.{has_arc, joins}
use Rattle.cov_base.specs.Walks.{Walk, moves_from, moves, GoesAlong}
use Rattle.cov_base.specs.declared.net.FlowArc.{FlowArc}
use Rattle.stack_ops.specs.declared.operation.Op.{Op}
use Rattle.stack_ops.specs.declared.endings.Outcome.TheVariants as outcome
use Rattle.stack_ops.specs.declared.endings.Trap.TheVariants as trap
use Rattle.stack_ops.specs.Effect.{Step, effect}
use Rattle.flow_graph.specs.Ascending.{inserted}
use Rattle.flow_graph.specs.Graph.{Ending, Block, Graph, GraphUnit}
use Rattle.flow_graph.specs.Nets.{targets, among, real, call_exit, arcs_out, arcs_from, net_of}
use Rattle.flow_graph.specs.WalkRun.{Caller, Point, Walked, Move, over, walk_on, all_left, enters, with_turn, with_top, chosen, begins, calls, goes_back, ends_so, state_of, with_state, stepped, does, block_at, gives_at, in_block, move, first, then_goes, goes, WalkRun}
use Rattle.fake_arcs.specs.Tidy.{IsWellMade}
use Rattle.fake_arcs.proofs.Lockstep.{among_line, itself}

-- ---- arcs

arc_out : (b t : ℕ) (ts : List ℕ) → among t ts ≡ true → has_arc (map (real b) ts) b t ≡ true
arc_out b t [] h = absurd (let never : false ≡ true = h in cc)
arc_out b t (s ∷ ts) h = elim (or_cases (t == s) (among t ts) h) [
  | inl same ↦ or_left _ _ (and_from (b == b) (s == t) (eq-eqb b b refl) (eq-eqb s t (sym (eqb-true t s same))))
  | inr later ↦ or_right _ _ (arc_out b t ts later)
]

-- an ending's targets are led to
target_arc : (b t : ℕ) (e : Ending) → among t (targets e) ≡ true → has_arc (arcs_out b e) b t ≡ true
target_arc b t (Ending.Jump s) h = arc_out b t (s ∷ []) h
target_arc b t (Ending.Back s) h = arc_out b t (s ∷ []) h
target_arc b t (Ending.Branch s f) h = arc_out b t (inserted s (f ∷ [])) h
target_arc b t (Ending.Switch cases default) h = arc_out b t (targets (Ending.Switch cases default)) h
target_arc b t (Ending.Call f line next) h =
    or_right (joins b t (call_exit b)) (has_arc (real b next ∷ []) b t) (arc_out b t (next ∷ []) h)
target_arc b t Ending.Return h = absurd (let never : false ≡ true = h in cc)
target_arc b t Ending.Exit h = absurd (let never : false ≡ true = h in cc)

exit_arc : (b : ℕ) → joins b 1 (call_exit b) ≡ true
exit_arc b = and_from (b == b) true (eq-eqb b b refl) refl

return_arc : (b : ℕ) → joins b 1 (real b 1) ≡ true
return_arc b = and_from (b == b) true (eq-eqb b b refl) refl

-- an arc out of a block is one of all
arc_of_block : (n k m : ℕ) (bs : List Block) (block : Block) (a t : ℕ) → slice_get bs k ≡ Some block → m ≡ n + k
    → has_arc (arcs_out m block.end) a t ≡ true → has_arc (arcs_from n bs) a t ≡ true
arc_of_block n k m [] block a t at e h = absurd (none-some block at)
arc_of_block n zero m (b ∷ bs) block a t at e h =
    let same : m ≡ n = omega (arith, e) in
    list_any-append (joins a t) (arcs_out n b.end) (arcs_from (suc n) bs)
    ∙ or_left _ _ (ap (λ (x : Block). has_arc (arcs_out n x.end) a t) (same_Some b block at)
    ∙ ap (λ i. has_arc (arcs_out i block.end) a t) (sym same) ∙ h)
arc_of_block n (suc k) m (b ∷ bs) block a t at e h =
    list_any-append (joins a t) (arcs_out n b.end) (arcs_from (suc n) bs)
    ∙ or_right _ _ (arc_of_block (suc n) k m bs block a t at (omega (arith, e)) h)

-- ---- walks

-- the walk goes along arcs of the net of its function
abbrev pub Along : GraphUnit → Walk → Type 0
Along u w = (g : Graph) → slice_get u.graphs w.function ≡ Some g → GoesAlong (net_of g).arcs w.blocks

-- an arc leads from the one block to the other in this function
abbrev Link : GraphUnit → ℕ → ℕ → ℕ → Type 0
Link u f a b = (g : Graph) → slice_get u.graphs f ≡ Some g → has_arc (net_of g).arcs a b ≡ true

moves_on : (x : ℕ) (front : List ℕ) (a b : ℕ)
    → moves_from x ((front ++ a ∷ []) ++ b ∷ []) ≡ moves_from x (front ++ a ∷ []) ++ (a, b) ∷ []
moves_on x [] a b = refl
moves_on x (y ∷ front) a b = ap (λ l. (x, y) ∷ l) (moves_on y front a b)

along_more : (arcs : List FlowArc) (front : List ℕ) (a b : ℕ) → GoesAlong arcs (front ++ a ∷ []) → has_arc arcs a b ≡ true
    → GoesAlong arcs ((front ++ a ∷ []) ++ b ∷ [])
along_more arcs front a b h link =
    subst (λ l. All (λ m. has_arc arcs m.0 m.1 ≡ true) l) (sym (by front))
    (All-append (λ m. has_arc arcs m.0 m.1 ≡ true) (moves (front ++ a ∷ [])) ((a, b) ∷ []) h
    (All-cons (λ m. has_arc arcs m.0 m.1 ≡ true) (a, b) [] link (All-nil (λ m. has_arc arcs m.0 m.1 ≡ true))))
  where
    by : (front : List ℕ) → moves ((front ++ a ∷ []) ++ b ∷ []) ≡ moves (front ++ a ∷ []) ++ (a, b) ∷ []
    by [] = refl
    by (x ∷ front) = moves_on x front a b

-- the walk of this number is one of the function, and has come to the block
record At (ws : List Walk) (n f a : ℕ) : Type 0 where
  front : List ℕ
  there : slice_get ws n ≡ Some (record { function = f; blocks = front ++ a ∷ [] })

at_on : (ws : List Walk) (n f a b : ℕ) → At ws n f a → At (walk_on n b ws) n f b
at_on [] n f a b o = absurd (none-some _ o.there)
at_on (w ∷ ws) zero f a b o = record {
  front = o.front ++ a ∷ [];
  there = ap (λ (v : Walk). Some (record v { blocks = v.blocks ++ b ∷ [] })) (same_Some w _ o.there);
}
at_on (w ∷ ws) (suc n) f a b o = let h = at_on ws n f a b (record { front = o.front; there = o.there }) in
    record { front = h.front; there = h.there }

at_within : (ws : List Walk) (n f a : ℕ) → At ws n f a → n < length ws
at_within [] n f a o = absurd (none-some _ o.there)
at_within (w ∷ ws) zero f a o = omega arith
at_within (w ∷ ws) (suc n) f a o = let h = at_within ws n f a (record { front = o.front; there = o.there }) in
    omega (arith, h)

other_stays : (ws : List Walk) (n m b : ℕ) → m < n → slice_get (walk_on n b ws) m ≡ slice_get ws m
other_stays [] n m b lt = refl
other_stays (w ∷ ws) zero m b lt = absurd (omega (arith, lt))
other_stays (w ∷ ws) (suc n) zero b lt = refl
other_stays (w ∷ ws) (suc n) (suc m) b lt = other_stays ws n m b (omega (arith, lt))

added_stays : (ws : List Walk) (w : Walk) (m : ℕ) → m < length ws → slice_get (ws ++ w ∷ []) m ≡ slice_get ws m
added_stays [] w m lt = absurd (omega (arith, lt))
added_stays (v ∷ ws) w zero lt = refl
added_stays (v ∷ ws) w (suc m) lt = added_stays ws w m (omega (arith, lt))

added_there : (ws : List Walk) (w : Walk) → slice_get (ws ++ w ∷ []) (length ws) ≡ Some w
added_there [] w = refl
added_there (v ∷ ws) w = added_there ws w

module _ (u : GraphUnit) where
  -- a walk goes on along an arc
  along_on : (ws : List Walk) (n f a b : ℕ) → At ws n f a → Link u f a b → All (Along u) ws → All (Along u) (walk_on n b ws)
  along_on [] n f a b o link h = h
  along_on (w ∷ ws) zero f a b o link h =
      All-cons (Along u) (record w { blocks = w.blocks ++ b ∷ [] }) ws
      (by w (record { function = f; blocks = o.front ++ a ∷ [] }) (same_Some w _ o.there) refl refl
      (All-head (Along u) w ws h)) (All-tail (Along u) w ws h)
    where
      by : (w v : Walk) → w ≡ v → v.function ≡ f → v.blocks ≡ o.front ++ a ∷ [] → Along u w
          → Along u (record w { blocks = w.blocks ++ b ∷ [] })
      by w v e fe be al g at =
          let fs : w.function ≡ f = ap (λ (x : Walk). x.function) e ∙ fe in
          let bs : w.blocks ≡ o.front ++ a ∷ [] = ap (λ (x : Walk). x.blocks) e ∙ be in
          subst (λ (l : List ℕ). GoesAlong (net_of g).arcs (l ++ b ∷ [])) (sym bs)
          (along_more (net_of g).arcs o.front a b (subst (λ (l : List ℕ). GoesAlong (net_of g).arcs l) bs (al g at))
          (link g (subst (λ (i : ℕ). slice_get u.graphs i ≡ Some g) fs at)))
  along_on (w ∷ ws) (suc n) f a b o link h =
      All-cons (Along u) w (walk_on n b ws) (All-head (Along u) w ws h)
      (along_on ws n f a b (record { front = o.front; there = o.there }) link (All-tail (Along u) w ws h))

  -- a call that waits: its walk has come to a block that ends in the call, so it may go on behind it, or to the exit
  record Calls (ws : List Walk) (c : Caller) : Type 0 where
    block : ℕ
    at : At ws c.walk c.function block
    on : Link u c.function block c.next
    out : Link u c.function block 1
    high : 2 ≤ c.next

  -- the calls that wait; each has a lower number than the one above it
  abbrev Waits : List Walk → ℕ → List Caller → Type 0
  Waits ws k [] = Unit {0}
  Waits ws k (c ∷ cs) = (c.walk < k) × Calls ws c × Waits ws c.walk cs

  calls_on : (ws : List Walk) (n b : ℕ) (c : Caller) → c.walk < n → Calls ws c → Calls (walk_on n b ws) c
  calls_on ws n b c lt h = record {
    block = h.block;
    at = record { front = h.at.front; there = other_stays ws n c.walk b lt ∙ h.at.there };
    on = h.on;
    out = h.out;
    high = h.high;
  }

  waits_on : (ws : List Walk) (n b k : ℕ) (cs : List Caller) → k ≤ n → Waits ws k cs → Waits (walk_on n b ws) k cs
  waits_on ws n b k [] le h = tt
  waits_on ws n b k (c ∷ cs) le h =
      let lt : c.walk < k = h.0 in (
        lt,
        calls_on ws n b c (omega (arith, lt, le)) h.1,
        waits_on ws n b c.walk cs (omega (arith, lt, le)) h.2,
      )

  waits_added : (ws : List Walk) (w : Walk) (k : ℕ) (cs : List Caller) → Waits ws k cs → Waits (ws ++ w ∷ []) k cs
  waits_added ws w k [] h = tt
  waits_added ws w k (c ∷ cs) h = (
    h.0,
    record {
      block = h.1.block;
      at = record {
        front = h.1.at.front;
        there = added_stays ws w c.walk (at_within ws c.walk c.function h.1.block h.1.at) ∙ h.1.at.there;
      };
      on = h.1.on;
      out = h.1.out;
      high = h.1.high;
    },
    waits_added ws w c.walk cs h.2,
  )

  -- ---- along a run

  record Runs (p : Point) : Type 0 where
    along : All (Along u) p.walks
    here : At p.walks p.walk p.function p.block
    waits : Waits p.walks p.walk p.callers
    high : 2 ≤ p.block

  abbrev Keeps : Move → Type 0
  Keeps (Move.Goes_on p) = Runs p
  Keeps (Move.Over walked) = All (Along u) walked.walks
  Keeps Move.Broken = Unit {0}

  enters_keep : (b : ℕ) (q : Point) → Link u q.function q.block b → 2 ≤ b → Runs q → Keeps (Move.Goes_on (enters b q))
  enters_keep b q link high h = record {
    along = along_on q.walks q.walk q.function q.block b h.here link h.along;
    here = at_on q.walks q.walk q.function q.block b h.here;
    waits = waits_on q.walks q.walk b q.walk q.callers (omega arith) h.waits;
    high = high;
  }

  turn_keeps : (t : ℕ) (p : Point) (then : Point → Move) → Runs p → ((t : ℕ) → Keeps (then (record p { turns = t })))
      → Keeps (with_turn t p then)
  turn_keeps zero p then h go = h.along
  turn_keeps (suc t) p then h go = go t

  top_keeps : (os : List ℤ) (p : Point) (then : ℤ → Point → Move)
      → ((a : ℤ) (rest : List ℤ) → Keeps (then a (record p { operands = rest }))) → Keeps (with_top os p then)
  top_keeps [] p then go = tt
  top_keeps (a ∷ rest) p then go = go a rest

  -- a point with other lists
  with_turns : (p : Point) (t : ℕ) → Runs p → Runs (record p { turns = t })
  with_turns p t h = record { along = h.along; here = h.here; waits = h.waits; high = h.high }

  with_rest : (p : Point) (rest : List ℤ) → Runs p → Runs (record p { operands = rest })
  with_rest p rest h = record { along = h.along; here = h.here; waits = h.waits; high = h.high }

  back_keep : (cs : List Caller) (given : List ℤ) (status : ℤ) (k : ℕ) (q : Point) → All (Along u) q.walks
      → Waits q.walks k cs → Keeps (goes_back cs given status q)
  back_keep [] given status k q along h = along
  back_keep (c ∷ cs) given status k q along h = record {
    along = along_on q.walks c.walk c.function h.1.block c.next h.1.at h.1.on along;
    here = at_on q.walks c.walk c.function h.1.block c.next h.1.at;
    waits = waits_on q.walks c.walk c.next c.walk cs (omega arith) h.2;
    high = h.1.high;
  }

  left_keep : (cs : List Caller) (k : ℕ) (ws : List Walk) → All (Along u) ws → Waits ws k cs
      → All (Along u) (all_left cs ws)
  left_keep [] k ws along h = along
  left_keep (c ∷ cs) k ws along h =
      left_keep cs c.walk (walk_on c.walk 1 ws) (along_on ws c.walk c.function h.1.block 1 h.1.at h.1.out along)
      (waits_on ws c.walk 1 c.walk cs (omega arith) h.2)

  -- what is known of an ending of a block of a function
  record Ends (e : Ending) (f a : ℕ) : Type 0 where
    link : (t : ℕ) → has_arc (arcs_out a e) a t ≡ true → Link u f a t
    high : (t : ℕ) → among t (targets e) ≡ true → 2 ≤ t

  chosen_among : (v : ℤ) (cases : List (ℤ × ℕ)) (default : ℕ)
      → among (chosen v cases default) (targets (Ending.Switch cases default)) ≡ true
  chosen_among v [] default = itself default []
  chosen_among v (c ∷ cases) default =
      among_line c.1 _ (targets (Ending.Switch cases default)) (go (int_eq c.0 v) (chosen_among v cases default))
    where
      go : (b : Bool) → among (chosen v cases default) (targets (Ending.Switch cases default)) ≡ true
          → (cond b c.1 (chosen v cases default) == c.1 || among (cond b c.1 (chosen v cases default))
          (targets (Ending.Switch cases default))) ≡ true
      go true h = or_left _ _ (eq-eqb c.1 c.1 refl)
      go false h = or_right _ _ h

  goes_to : (e : Ending) (p q : Point) (t : ℕ) → Ends e p.function p.block → q.function ≡ p.function → q.block ≡ p.block
      → among t (targets e) ≡ true → Runs q → Keeps (Move.Goes_on (enters t q))
  goes_to e p q t ends ef eb m h =
      enters_keep t q
      (subst (λ (f : ℕ). Link u f q.block t) (sym ef)
      (subst (λ (b : ℕ). Link u p.function b t) (sym eb) (ends.link t (target_arc p.block t e m)))) (ends.high t m) h

  exit_kept : (p : Point) → Link u p.function p.block 1 → Runs p → All (Along u) (walk_on p.walk 1 p.walks)
  exit_kept p link h = along_on p.walks p.walk p.function p.block 1 h.here link h.along

  exit_waits : (p : Point) → Runs p → Waits (walk_on p.walk 1 p.walks) p.walk p.callers
  exit_waits p h = waits_on p.walks p.walk 1 p.walk p.callers (omega arith) h.waits

  ends_keep : (gives : Bool) (e : Ending) (p : Point) → Ends e p.function p.block → Runs p → Keeps (ends_so u gives e p)
  ends_keep gives (Ending.Jump t) p ends h = goes_to (Ending.Jump t) p p t ends refl refl (itself t []) h
  ends_keep gives (Ending.Back t) p ends h =
      turn_keeps p.turns p _ h (λ n. goes_to (Ending.Back t) p (record p { turns = n }) t ends refl refl (itself t [])
      (with_turns p n h))
  ends_keep gives (Ending.Branch t f) p ends h =
      top_keeps p.operands p _ (λ a rest. pick (int_eq a (pos 0)) rest)
    where
      pick : (z : Bool) (rest : List ℤ) → Keeps (Move.Goes_on (enters (cond z f t) (record p { operands = rest })))
      pick true rest = goes_to (Ending.Branch t f) p (record p { operands = rest }) f ends refl refl
          (among_line t f (f ∷ []) (or_right _ _ (itself f []))) (with_rest p rest h)
      pick false rest = goes_to (Ending.Branch t f) p (record p { operands = rest }) t ends refl refl
          (among_line t t (f ∷ []) (itself t (f ∷ []))) (with_rest p rest h)
  ends_keep gives (Ending.Switch cases default) p ends h =
      top_keeps p.operands p _ (λ a rest. goes_to (Ending.Switch cases default) p (record p { operands = rest })
      (chosen a cases default) ends refl refl (chosen_among a cases default) (with_rest p rest h))
  ends_keep gives (Ending.Call f line next) p ends h = by (slice_get u.graphs f)
    where
      begun : (g : Graph) (n : ℕ) → Keeps (begins g f next (record p { turns = n }))
      begun g n = record {
        along = All-append (Along u) p.walks (record { function = f; blocks = 0 ∷ 2 ∷ [] } ∷ []) h.along
            (All-cons (Along u) (record { function = f; blocks = 0 ∷ 2 ∷ [] }) [] (λ g at.
            All-cons (λ m. has_arc (net_of g).arcs m.0 m.1 ≡ true) (0, 2) []
            refl (All-nil (λ m. has_arc (net_of g).arcs m.0 m.1 ≡ true)))
            (All-nil (Along u)));
        here = record { front = 0 ∷ []; there = added_there p.walks (record { function = f; blocks = 0 ∷ 2 ∷ [] }) };
        waits = (
          at_within p.walks p.walk p.function p.block h.here,
          record {
            block = p.block;
            at = record {
              front = h.here.front;
              there = added_stays p.walks (record { function = f; blocks = 0 ∷ 2 ∷ [] }) p.walk
                  (at_within p.walks p.walk p.function p.block h.here) ∙ h.here.there;
            };
            on = ends.link next (target_arc p.block next (Ending.Call f line next) (itself next []));
            out = ends.link 1 (or_left _ _ (exit_arc p.block));
            high = ends.high next (itself next []);
          },
          waits_added p.walks (record { function = f; blocks = 0 ∷ 2 ∷ [] }) p.walk p.callers h.waits,
        );
        high = omega arith;
      }

      deep : (z : Bool) (g : Graph) (n : ℕ) → Keeps (cond z (begins g f next (record p { turns = n }))
          (over (outcome.Trapped trap.CallDepth line) (record p { turns = n })))
      deep true g n = begun g n
      deep false g n = h.along

      by : (o : Option Graph) → Keeps (calls o f line next p)
      by None = tt
      by (Some g) = turn_keeps p.turns p _ h (λ n. deep (nat_lt (suc (length p.callers)) 2000) g n)
  ends_keep true Ending.Return p ends h =
      top_keeps p.operands p _ (λ a rest. back_keep p.callers (a ∷ []) a p.walk (enters 1 (record p { operands = rest }))
      (exit_kept p (ends.link 1 (or_left _ _ (return_arc p.block))) h) (exit_waits p h))
  ends_keep false Ending.Return p ends h =
      back_keep p.callers [] (pos 0) p.walk (enters 1 p)
      (exit_kept p (ends.link 1 (or_left _ _ (return_arc p.block))) h) (exit_waits p h)
  ends_keep gives Ending.Exit p ends h =
      top_keeps p.operands p _ (λ a rest. left_keep p.callers p.walk (walk_on p.walk 1 p.walks)
      (exit_kept p (ends.link 1 (or_left _ _ (exit_arc p.block))) h) (exit_waits p h))

  does_keep : (os : List Op) (p : Point) (then : Point → Move) → Runs p
      → ((q : Point) → q.function ≡ p.function → q.block ≡ p.block → Runs q → Keeps (then q)) → Keeps (does os p then)
  does_keep [] p then h go = go p refl refl h
  does_keep (o ∷ os) p then h go =
      by (effect o (state_of p)) (λ q f b r. does_keep os q then r (λ x xf xb xr. go x (xf ∙ f) (xb ∙ b) xr))
    where
      by : (s : Step) → ((q : Point) → q.function ≡ p.function → q.block ≡ p.block → Runs q → Keeps (does os q then))
          → Keeps (stepped s p (λ q. does os q then))
      by (Step.Goes s) rest =
          rest (with_state s p) refl refl (record { along = h.along; here = h.here; waits = h.waits; high = h.high })
      by (Step.Traps t line) rest = h.along
      by Step.Stuck rest = tt

  move_keeps : ((i : ℕ) (g : Graph) → slice_get u.graphs i ≡ Some g → IsWellMade g) → (p : Point) → Runs p
      → Keeps (move u p)
  move_keeps made p h = by (slice_get u.graphs p.function) refl
    where
      ended : (g : Graph) (b : Block) → slice_get u.graphs p.function ≡ Some g
          → slice_get g.blocks (p.block - 2) ≡ Some b → Ends b.end p.function p.block
      ended g b at there =
          let high : 2 ≤ p.block = h.high in
          record {
            link = λ t m k is. (let same : g ≡ k = same_Some g k (sym at ∙ is) in
                subst (λ (x : Graph). has_arc (net_of x).arcs p.block t ≡ true) same
                (or_right _ _ (arc_of_block 2 (p.block - 2) p.block g.blocks b p.block t there (omega (arith, high)) m)));
            high = λ t m. (let two : 2 < t = ((made p.function g at).aims (p.block - 2) t b there m).0 in
                omega (arith, two));
          }

      inside : (g : Graph) → slice_get u.graphs p.function ≡ Some g → (o : Option Block)
          → slice_get g.blocks (p.block - 2) ≡ o → Keeps (in_block u g.gives o p)
      inside g at None there = tt
      inside g at (Some b) there =
          does_keep b.ops p (λ q. ends_so u g.gives b.end q) h
          (λ q f k r. ends_keep g.gives b.end q
          (subst (λ (x : ℕ). Ends b.end x q.block) (sym f)
          (subst (λ (y : ℕ). Ends b.end p.function y) (sym k) (ended g b at there))) r)

      by : (o : Option Graph) → slice_get u.graphs p.function ≡ o → Keeps (in_block u (gives_at o) (block_at o p.block) p)
      by None at = tt
      by (Some g) at = inside g at (slice_get g.blocks (p.block - 2)) refl

  goes_keep : ((i : ℕ) (g : Graph) → slice_get u.graphs i ≡ Some g → IsWellMade g) → (k : ℕ) (p : Point) → Runs p
      → (walked : Walked) → goes k u p ≡ Some walked → All (Along u) walked.walks
  goes_keep made zero p h walked e = absurd (none-some walked e)
  goes_keep made (suc k) p h walked e =
      by (move u p) (move_keeps made p h) (λ q r come. goes_keep made k q r walked come) e
    where
      by : (m : Move) → Keeps m → ((q : Point) → Runs q → goes k u q ≡ Some walked → All (Along u) walked.walks)
          → then_goes m (λ q. goes k u q) ≡ Some walked → All (Along u) walked.walks
      by (Move.Goes_on q) kept rest e = rest q kept e
      by (Move.Over other) kept rest e = subst (λ (w : Walked). All (Along u) w.walks) (same_Some other walked e) kept
      by Move.Broken kept rest e = absurd (none-some walked e)

  first_runs : (input : List ℕ) (n : ℕ) → Runs (first u input n)
  first_runs input n = record {
    along = All-cons (Along u) (record { function = u.main; blocks = 0 ∷ 2 ∷ [] }) [] (λ g at.
        All-cons (λ m. has_arc (net_of g).arcs m.0 m.1 ≡ true) (0, 2) []
        refl (All-nil (λ m. has_arc (net_of g).arcs m.0 m.1 ≡ true)))
        (All-nil (Along u));
    here = record { front = 0 ∷ []; there = refl };
    waits = tt;
    high = omega arith;
  }

-- Each walk of a run goes along arcs of the net of its function.
pub walks_along : (u : GraphUnit) → ((i : ℕ) (g : Graph) → slice_get u.graphs i ≡ Some g → IsWellMade g)
    → (input : List ℕ) (turns : ℕ) (walked : Walked) → WalkRun u input turns walked → All (Along u) walked.walks
walks_along u made input turns walked run =
    goes_keep u made run.0 (first u input turns) (first_runs u input turns) walked run.1
