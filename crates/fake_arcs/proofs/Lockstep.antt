-- A run of the pruned unit goes block for block with the run of the unit.
use Rattle.std.proofs.Common.{◌≡◌, refl, sym, ap, subst, ◌∙◌, ℕ, zero, suc, ◌+◌, ◌-◌, ◌≤◌, ◌<◌, ◌||◌, ◌==◌, List, []}
use Rattle.std.proofs.Common.{◌∷◌, ◌++◌, length, Bool, true, false, cond, ◌⊎◌, inl, inr, arith, eq-eqb, eqb-true}
use Rattle.std.specs.Prelude.{ℤ, pos, map, Option, Some, None, slice_get, nat_lt, take, drop, reverse}
use Rattle.std.specs.Prelude.{replicate}
use Rattle.std.specs.Ordering.{int_eq}
use Rattle.std.specs.Option.{option_map}
use Rattle.std.proofs.lemmas.Bool.{or_cases, or_left, or_right, cond-true, cond-false}
use Rattle.std.proofs.lemmas.Bool.{cases_lt, le-ltb, lt-ltb, false_from_ne_true}
use Rattle.std.proofs.lemmas.Option.{slice_get_past, slice_get-map, none-some, same_Some}
use Rattle.std.proofs.lemmas.List.{map-append, length-map}
use Rattle.cov_base.specs.Walks.{Walk}
use Rattle.stack_ops.specs.declared.operation.Op.{Op}
use Rattle.stack_ops.specs.declared.endings.Outcome.TheVariants as outcome
use Rattle.stack_ops.specs.declared.endings.Trap.TheVariants as trap
use Rattle.stack_ops.specs.Effect.{State, Step, effect, byte_of}
use Rattle.flow_graph.specs.Graph.{Ending, Block, Graph, GraphUnit}
use Rattle.flow_graph.specs.Ascending.{inserted}
use Rattle.flow_graph.specs.Nets.{targets, among, numbers_from, reached, rank_from, new_number, renamed, kept_blocks}
use Rattle.flow_graph.specs.Nets.{pruned_graph, pruned}
use Rattle.flow_graph.specs.WalkRun.{Caller, Point, Walked, Move, over, walk_on, all_left, enters, with_turn, with_top}
use Rattle.flow_graph.specs.WalkRun.{chosen, begins, calls, goes_back, leaves, ends_so}
use Rattle.flow_graph.specs.WalkRun.{state_of, with_state, stepped, does, block_at, gives_at, in_block, move, first}
use Rattle.flow_graph.specs.WalkRun.{cells_of, then_goes, goes, WalkRun}
use Rattle.fake_arcs.specs.Runs.{number_of, renamed_walk, renamed_walked, KeepsRuns}
use Rattle.fake_arcs.proofs.Reaching.{reached_two, reached_filtered, reached_closed, numbers_within}
use Rattle.fake_arcs.proofs.Reaching.{among_filtered}
use Rattle.fake_arcs.proofs.Ranks.{with_numbers, kept_of, pruned_at, pruned_past}

-- ---- points in the new numbers

abbrev pub number_in : GraphUnit → ℕ → ℕ → ℕ
number_in u f b = number_of (slice_get u.graphs f) b

abbrev renamed_caller : GraphUnit → Caller → Caller
renamed_caller u c = record c { next = number_in u c.function c.next }

abbrev renamed_point : GraphUnit → Point → Point
renamed_point u p = record p {
  block = number_in u p.function p.block;
  callers = map (renamed_caller u) p.callers;
  walks = map (renamed_walk u) p.walks;
}

-- ---- what holds of the points of a run

-- the entry or the exit, or a block that is kept, or none
abbrev Here : Option Graph → ℕ → Type 0
Here None b = Unit {0}
Here (Some g) b = (b < 2) ⊎ ((2 ≤ b) × ((among b (reached g.blocks) ≡ true) ⊎ (2 + length g.blocks ≤ b)))

-- the walk of this number is there, and is one of the function
abbrev Own : ℕ → ℕ → List Walk → Type 0
Own f n [] = ⊥
Own f zero (w ∷ ws) = w.function ≡ f
Own f (suc n) (w ∷ ws) = Own f n ws

abbrev Waits : GraphUnit → List Walk → List Caller → Type 0
Waits u ws [] = Unit {0}
Waits u ws (c ∷ cs) = Here (slice_get u.graphs c.function) c.next × Own c.function c.walk ws × Waits u ws cs

record Stands (u : GraphUnit) (f b w : ℕ) (cs : List Caller) (ws : List Walk) : Type 0 where
  pub here : Here (slice_get u.graphs f) b
  pub own : Own f w ws
  pub waits : Waits u ws cs

abbrev StandsAt : GraphUnit → Point → Type 0
StandsAt u p = Stands u p.function p.block p.walk p.callers p.walks

-- what the second move comes to is what the first does, renamed
abbrev Follows : GraphUnit → Move → Move → Type 0
Follows u (Move.Goes_on p) m = (m ≡ Move.Goes_on (renamed_point u p)) × StandsAt u p
Follows u (Move.Over w) m = m ≡ Move.Over (renamed_walked u w)
Follows u Move.Broken m = m ≡ Move.Broken

-- ---- numbers

number_one : (g : Option Graph) → number_of g 1 ≡ 1
number_one None = refl
number_one (Some g) = refl

number_zero : (g : Option Graph) → number_of g 0 ≡ 0
number_zero None = refl
number_zero (Some g) = refl

pub number_two : (g : Option Graph) → number_of g 2 ≡ 2
number_two None = refl
number_two (Some g) = go g.blocks
  where
    go : (blocks : List Block) → rank_from 2 (reached blocks) 2 ≡ 2
    go [] = refl
    go (x ∷ bs) =
        ap (λ (l : List ℕ). rank_from 2 l 2) (reached_filtered (x ∷ bs) (omega arith)
        ∙ cond-true (among 2 (reached (x ∷ bs))) (2 ∷ kept_of (reached (x ∷ bs)) 3 bs)
        (kept_of (reached (x ∷ bs)) 3 bs) (reached_two (x ∷ bs)))

pub number_inside : (kept : List ℕ) (b : ℕ) → 2 ≤ b → new_number kept b ≡ rank_from 2 kept b
number_inside kept b low = cond-false _ _ _ (le-ltb b 2 low)

number_outside : (kept : List ℕ) (b : ℕ) → b < 2 → new_number kept b ≡ b
number_outside kept b high = cond-true _ _ _ (lt-ltb b 2 high)

-- ---- walks

own_walk_on : (f n m b : ℕ) (ws : List Walk) → Own f n ws → Own f n (walk_on m b ws)
own_walk_on f n m b [] own = own
own_walk_on f zero zero b (w ∷ ws) own = own
own_walk_on f zero (suc m) b (w ∷ ws) own = own
own_walk_on f (suc n) zero b (w ∷ ws) own = own
own_walk_on f (suc n) (suc m) b (w ∷ ws) own = own_walk_on f n m b ws own

own_more : (f n : ℕ) (ws vs : List Walk) → Own f n ws → Own f n (ws ++ vs)
own_more f n [] vs own = absurd own
own_more f zero (w ∷ ws) vs own = own
own_more f (suc n) (w ∷ ws) vs own = own_more f n ws vs own

own_last : (f : ℕ) (ws : List Walk) (w : Walk) → w.function ≡ f → Own f (length ws) (ws ++ w ∷ [])
own_last f [] w e = e
own_last f (v ∷ ws) w e = own_last f ws w e

waits_walk_on : (u : GraphUnit) (m b : ℕ) (ws : List Walk) (cs : List Caller) → Waits u ws cs
    → Waits u (walk_on m b ws) cs
waits_walk_on u m b ws [] h = tt
waits_walk_on u m b ws (c ∷ cs) h = (h.0, own_walk_on c.function c.walk m b ws h.1, waits_walk_on u m b ws cs h.2)

waits_more : (u : GraphUnit) (ws vs : List Walk) (cs : List Caller) → Waits u ws cs → Waits u (ws ++ vs) cs
waits_more u ws vs [] h = tt
waits_more u ws vs (c ∷ cs) h = (h.0, own_more c.function c.walk ws vs h.1, waits_more u ws vs cs h.2)

-- a walk that goes on is renamed with the block's number in its function
renamed_on : (u : GraphUnit) (f n b : ℕ) (ws : List Walk) → Own f n ws
    → walk_on n (number_in u f b) (map (renamed_walk u) ws) ≡ map (renamed_walk u) (walk_on n b ws)
renamed_on u f n b [] own = absurd own
renamed_on u f zero b (w ∷ ws) own =
    ap (λ (l : List ℕ). record { function = w.function; blocks = l } ∷ map (renamed_walk u) ws)
    (subst (λ h. map (number_in u w.function) w.blocks ++ number_in u h b ∷ [] ≡ map (number_in u w.function)
    (w.blocks ++ b ∷ [])) own
    (sym (map-append (number_in u w.function) w.blocks (b ∷ []))))
renamed_on u f (suc n) b (w ∷ ws) own = ap (λ (l : List Walk). renamed_walk u w ∷ l) (renamed_on u f n b ws own)

-- a walk that comes to the exit
renamed_exit : (u : GraphUnit) (n : ℕ) (ws : List Walk) → walk_on n 1 (map (renamed_walk u) ws) ≡ map (renamed_walk u)
    (walk_on n 1 ws)
renamed_exit u n [] = refl
renamed_exit u zero (w ∷ ws) =
    ap (λ (l : List ℕ). record { function = w.function; blocks = l } ∷ map (renamed_walk u) ws)
    (ap (λ i. map (number_in u w.function) w.blocks ++ i ∷ []) (sym (number_one (slice_get u.graphs w.function)))
    ∙ sym (map-append (number_in u w.function) w.blocks (1 ∷ [])))
renamed_exit u (suc n) (w ∷ ws) = ap (λ (l : List Walk). renamed_walk u w ∷ l) (renamed_exit u n ws)

renamed_left : (u : GraphUnit) (cs : List Caller) (ws : List Walk)
    → all_left (map (renamed_caller u) cs) (map (renamed_walk u) ws) ≡ map (renamed_walk u) (all_left cs ws)
renamed_left u [] ws = refl
renamed_left u (c ∷ cs) ws = ap (all_left (map (renamed_caller u) cs)) (renamed_exit u c.walk ws)
    ∙ renamed_left u cs (walk_on c.walk 1 ws)

-- ---- endings

-- with the block and the walks of a point given
abbrev placed : GraphUnit → Point → ℕ → List Caller → List Walk → Point
placed u p b cs ws = record p { block = b; callers = cs; walks = ws }

-- the innermost call goes to a block
enters_follows : (u : GraphUnit) (b c : ℕ) (p : Point) (vs : List Walk) → Own p.function p.walk p.walks
    → Waits u p.walks p.callers
    → Here (slice_get u.graphs p.function) b → c ≡ number_in u p.function b → vs ≡ map (renamed_walk u) p.walks
    → Follows u (Move.Goes_on (enters b p))
    (Move.Goes_on (enters c (placed u p p.block (map (renamed_caller u) p.callers) vs)))
enters_follows u b c p vs own waits here same walks = (
  ap (λ (c : ℕ). Move.Goes_on (enters c (placed u p p.block (map (renamed_caller u) p.callers) vs))) same
      ∙ ap
      (λ (ws : List Walk). Move.Goes_on (placed u p (number_in u p.function b) (map (renamed_caller u) p.callers) ws))
      (ap (walk_on p.walk (number_in u p.function b)) walks ∙ renamed_on u p.function p.walk b p.walks own),
  record {
    here = here;
    own = own_walk_on p.function p.walk p.walk b p.walks own;
    waits = waits_walk_on u p.walk b p.walks p.callers waits;
  },
)

turn_follows : (u : GraphUnit) (t : ℕ) (p : Point) (go stay : Point → Move)
    → ((t : ℕ) → Follows u (go (record p { turns = t })) (stay (renamed_point u (record p { turns = t }))))
    → Follows u (with_turn t p go) (with_turn t (renamed_point u p) stay)
turn_follows u zero p go stay h = refl
turn_follows u (suc t) p go stay h = h t

top_follows : (u : GraphUnit) (os : List ℤ) (p : Point) (go stay : ℤ → Point → Move)
    → ((a : ℤ) (rest : List ℤ) → Follows u (go a (record p { operands = rest }))
    (stay a (renamed_point u (record p { operands = rest }))))
    → Follows u (with_top os p go) (with_top os (renamed_point u p) stay)
top_follows u [] p go stay h = refl
top_follows u (a ∷ rest) p go stay h = h a rest

-- the caller goes on, or the run is over
back_follows : (u : GraphUnit) (cs : List Caller) (given : List ℤ) (status : ℤ) (p : Point) (vs : List Walk)
    → vs ≡ map (renamed_walk u) p.walks → Waits u p.walks cs
    → Follows u (goes_back cs given status p)
    (goes_back (map (renamed_caller u) cs) given status (placed u p p.block (map (renamed_caller u) p.callers) vs))
back_follows u [] given status p vs walks waits =
    ap
    (λ (ws : List Walk). Move.Over
    (record { output = p.output; ending = outcome.Returned (byte_of status); walks = ws })) walks
back_follows u (c ∷ cs) given status p vs walks waits =
    enters_follows u c.next (number_in u c.function c.next)
    (record p {
      function = c.function;
      operands = given ++ c.operands;
      cells = c.cells;
      walk = c.walk;
      callers =
          cs;
    }) vs
    waits.1 waits.2 waits.0 refl walks

leaves_follows : (u : GraphUnit) (gives : Bool) (p : Point) → StandsAt u p
    → Follows u (leaves gives p) (leaves gives (renamed_point u p))
leaves_follows u true p stands =
    top_follows u p.operands p _ _ (λ a rest.
    back_follows u p.callers (a ∷ []) a (enters 1 (record p { operands = rest })) _ (renamed_exit u p.walk p.walks)
    (waits_walk_on u p.walk 1 p.walks p.callers stands.waits))
leaves_follows u false p stands =
    back_follows u p.callers [] (pos 0) (enters 1 p) _ (renamed_exit u p.walk p.walks)
    (waits_walk_on u p.walk 1 p.walks p.callers stands.waits)

two_here : (g : Option Graph) → Here g 2
two_here None = tt
two_here (Some g) = inr (omega arith, inl (reached_two g.blocks))

-- a call begins
calls_follows : (u : GraphUnit) (g : Option Graph) (f line next c : ℕ) (p : Point) → slice_get u.graphs f ≡ g
    → StandsAt u p
    → Here (slice_get u.graphs p.function) next → c ≡ number_in u p.function next
    → Follows u (calls g f line next p) (calls (option_map pruned_graph g) f line c (renamed_point u p))
calls_follows u None f line next c p at stands here same = refl
calls_follows u (Some g) f line next c p at stands here same =
    turn_follows u p.turns p (λ p. cond (nat_lt (suc (length p.callers)) 2000) (begins g f next p)
    (over (outcome.Trapped trap.CallDepth line) p))
    (λ p. cond (nat_lt (suc (length p.callers)) 2000) (begins (pruned_graph g) f c p)
    (over (outcome.Trapped trap.CallDepth line) p))
    (λ t. subst
    (λ n. Follows u (cond (nat_lt (suc (length p.callers)) 2000) (begins g f next (record p { turns = t }))
    (over (outcome.Trapped trap.CallDepth line) (record p { turns = t })))
    (cond (nat_lt (suc n) 2000) (begins (pruned_graph g) f c (renamed_point u (record p { turns = t })))
    (over (outcome.Trapped trap.CallDepth line) (renamed_point u (record p { turns = t })))))
    (sym (length-map p.callers (renamed_caller u)))
    (by t (nat_lt (suc (length p.callers)) 2000)))
  where
    new : Walk
    new = record { function = f; blocks = 0 ∷ 2 ∷ [] }

    named : renamed_walk u new ≡ new
    named =
        ap (λ (i : ℕ). record { function = f; blocks = i ∷ number_in u f 2 ∷ [] }) (number_zero (slice_get u.graphs f))
        ∙ ap (λ (i : ℕ). record { function = f; blocks = 0 ∷ i ∷ [] }) (number_two (slice_get u.graphs f))

    point : ℕ → ℕ → ℕ → ℕ → List Walk → Move
    point t block walk next ws = Move.Goes_on (record p {
      function = f;
      block = block;
      operands = [];
      cells = reverse (take g.params p.operands) ++ replicate (g.cells - g.params) (pos 0);
      walk = walk;
      callers = record {
        function = p.function;
        operands = drop g.params p.operands;
        cells = p.cells;
        walk =
            p.walk;
        next = next;
      } ∷ map (renamed_caller u) p.callers;
      turns = t;
      walks = ws;
    })

    by : (t : ℕ) (b : Bool) → Follows u
        (cond b (begins g f next (record p { turns = t }))
        (over (outcome.Trapped trap.CallDepth line) (record p { turns = t })))
        (cond b (begins (pruned_graph g) f c (renamed_point u (record p { turns = t })))
        (over (outcome.Trapped trap.CallDepth line) (renamed_point u (record p { turns = t }))))
    by t false = refl
    by t true = (
      ap (λ (i : ℕ). point t i (length (map (renamed_walk u) p.walks)) c
          (map (renamed_walk u) p.walks ++ new ∷ [])) (sym (number_two (slice_get u.graphs f)))
          ∙ ap (λ (i : ℕ). point t (number_in u f 2) i c (map (renamed_walk u) p.walks ++ new ∷ []))
          (length-map p.walks (renamed_walk u))
          ∙ ap (λ (i : ℕ). point t (number_in u f 2) (length p.walks) i (map (renamed_walk u) p.walks ++ new ∷ [])) same
          ∙ ap (λ (w : Walk). point t (number_in u f 2) (length p.walks) (number_in u p.function next)
          (map (renamed_walk u) p.walks ++ w ∷ [])) (sym named)
          ∙ ap (λ (l : List Walk). point t (number_in u f 2) (length p.walks) (number_in u p.function next) l)
          (sym (map-append (renamed_walk u) p.walks (new ∷ []))),
      record {
        here = two_here (slice_get u.graphs f);
        own = own_last f p.walks new refl;
        waits = (
          here,
          own_more p.function p.walk p.walks (new ∷ []) stands.own,
          waits_more u p.walks (new ∷ []) p.callers stands.waits,
        );
      },
    )

-- ---- endings

pub among_line : (n b : ℕ) (ls : List ℕ) → (b == n || among b ls) ≡ true → among b (inserted n ls) ≡ true
among_line n b [] h = h
among_line n b (l ∷ ls) h = go (nat_lt n l) (n == l) refl (λ h. among_line n b ls h)
  where
    go : (x y : Bool) → (n == l) ≡ y → ((b == n || among b ls) ≡ true → among b (inserted n ls) ≡ true)
        → among b (cond x (n ∷ l ∷ ls) (cond y (l ∷ ls) (l ∷ inserted n ls))) ≡ true
    go true y e rec = h
    go false true e rec = elim (or_cases (b == n) (b == l || among b ls) h) [
      | inl same ↦ or_left _ _ (subst (λ i. (b == i) ≡ true) (eqb-true n l e) same)
      | inr other ↦ other
    ]
    go false false e rec = elim (or_cases (b == n) (b == l || among b ls) h) [
      | inl same ↦ or_right _ _ (rec (or_left _ _ same))
      | inr other ↦ elim (or_cases (b == l) (among b ls) other)
          [ inl first ↦ or_left _ _ first | inr later ↦ or_right _ _ (rec (or_right _ _ later)) ]
    ]

pub itself : (b : ℕ) (ls : List ℕ) → among b (b ∷ ls) ≡ true
itself b ls = or_left _ _ (eq-eqb b b refl)

chosen_among : (v : ℤ) (cases : List (ℤ × ℕ)) (default : ℕ)
    → among (chosen v cases default) (targets (Ending.Switch cases default)) ≡ true
chosen_among v [] default = itself default []
chosen_among v (c ∷ cases) default =
    among_line c.1 _ (targets (Ending.Switch cases default)) (go (int_eq c.0 v) (chosen_among v cases default))
  where
    go : (b : Bool) → among (chosen v cases default) (targets (Ending.Switch cases default)) ≡ true
        → (cond b c.1 (chosen v cases default) == c.1 || among (cond b c.1 (chosen v cases default))
        (targets (Ending.Switch cases default))) ≡ true
    go true h = or_left _ _ (eq-eqb c.1 c.1 refl)
    go false h = or_right _ _ h

chosen_renamed : (f : ℕ → ℕ) (v : ℤ) (cases : List (ℤ × ℕ)) (default : ℕ)
    → chosen v (map (λ c. (c.0, f c.1)) cases) (f default) ≡ f (chosen v cases default)
chosen_renamed f v [] default = refl
chosen_renamed f v (c ∷ cases) default = go (int_eq c.0 v) (chosen_renamed f v cases default)
  where
    go : (b : Bool) → chosen v (map (λ c. (c.0, f c.1)) cases) (f default) ≡ f (chosen v cases default)
        → cond b (f c.1) (chosen v (map (λ c. (c.0, f c.1)) cases) (f default))
        ≡ f (cond b c.1 (chosen v cases default))
    go true h = refl
    go false h = h

-- what is known of the targets of an ending of a kept block of the graph
abbrev Targets : Graph → Ending → Type 0
Targets g e = (t : ℕ) → among t (targets e) ≡ true → Here (Some g) t

ends_follow : (u : GraphUnit) (g : Graph) (e : Ending) (p : Point) → slice_get u.graphs p.function ≡ Some g
    → Targets g e → StandsAt u p
    → Follows u (ends_so u g.gives e p)
    (ends_so (pruned u) g.gives (renamed (new_number (reached g.blocks)) e) (renamed_point u p))
ends_follow u g e p at aims stands = by e aims
  where
    new : ℕ → ℕ
    new t = new_number (reached g.blocks) t

    here : (t : ℕ) → Here (Some g) t → Here (slice_get u.graphs p.function) t
    here t h = subst (λ o. Here o t) (sym at) h

    number : (t : ℕ) → new t ≡ number_in u p.function t
    number t = sym (ap (λ o. number_of o t) at)

    goes_to : (t : ℕ) → Here (Some g) t → (q : Point) → (q.function ≡ p.function)
        → Own q.function q.walk q.walks → Waits u q.walks q.callers
        → Follows u (Move.Goes_on (enters t q)) (Move.Goes_on (enters (new t) (renamed_point u q)))
    goes_to t h q same own waits =
        enters_follows u t (new t) q (map (renamed_walk u) q.walks) own waits
        (subst (λ f. Here (slice_get u.graphs f) t) (sym same) (here t h))
        (number t ∙ ap (λ f. number_in u f t) (sym same)) refl

    by : (e : Ending) → Targets g e
        → Follows u (ends_so u g.gives e p) (ends_so (pruned u) g.gives (renamed new e) (renamed_point u p))
    by (Ending.Jump t) aims = goes_to t (aims t (itself t [])) p refl stands.own stands.waits
    by (Ending.Back t) aims =
        turn_follows u p.turns p _ _ (λ n.
        goes_to t (aims t (itself t [])) (record p { turns = n }) refl stands.own stands.waits)
    by (Ending.Branch t f) aims =
        top_follows u p.operands p _ _ (λ v rest.
        pick (int_eq v (pos 0)) (record p { operands = rest }) refl stands.own stands.waits)
      where
        pick : (b : Bool) (q : Point) → (q.function ≡ p.function) → Own q.function q.walk q.walks
            → Waits u q.walks q.callers
            → Follows u (Move.Goes_on (enters (cond b f t) q))
            (Move.Goes_on (enters (cond b (new f) (new t)) (renamed_point u q)))
        pick true q = goes_to f (aims f (among_line t f (f ∷ []) (or_right _ _ (itself f [])))) q
        pick false q = goes_to t (aims t (among_line t t (f ∷ []) (itself t (f ∷ [])))) q
    by (Ending.Switch cases default) aims =
        top_follows u p.operands p _ _ (λ v rest.
        subst (λ (c : ℕ). Follows u (Move.Goes_on (enters (chosen v cases default) (record p { operands = rest })))
        (Move.Goes_on (enters c (renamed_point u (record p { operands = rest })))))
        (sym (chosen_renamed new v cases default))
        (goes_to (chosen v cases default) (aims (chosen v cases default) (chosen_among v cases default))
        (record p { operands = rest }) refl stands.own stands.waits))
    by (Ending.Call f line next) aims =
        subst (λ o. Follows u (calls (slice_get u.graphs f) f line next p)
        (calls o f line (new next) (renamed_point u p)))
        (sym (slice_get-map pruned_graph u.graphs f))
        (calls_follows u (slice_get u.graphs f) f line next (new next) p refl stands
        (here next (aims next (itself next []))) (number next))
    by Ending.Return aims = leaves_follows u g.gives p stands
    by Ending.Exit aims =
        top_follows u p.operands p _ _ (λ v rest.
        ap (λ (ws : List Walk).
        Move.Over (record { output = p.output; ending = outcome.Exited (byte_of v); walks = ws }))
        (ap (all_left (map (renamed_caller u) p.callers)) (renamed_exit u p.walk p.walks)
        ∙ renamed_left u p.callers (walk_on p.walk 1 p.walks)))

-- ---- blocks

does_follow : (u : GraphUnit) (os : List Op) (p : Point) (go stay : Point → Move) → StandsAt u p
    → ((q : Point) → q.function ≡ p.function → StandsAt u q → Follows u (go q) (stay (renamed_point u q)))
    → Follows u (does os p go) (does os (renamed_point u p) stay)
does_follow u [] p go stay stands h = h p refl stands
does_follow u (o ∷ os) p go stay stands h =
    step (effect o (state_of p)) (λ s. does_follow u os (with_state s p) go stay stands h)
  where
    step : (s : Step)
        → ((s : State) → Follows u (does os (with_state s p) go) (does os (renamed_point u (with_state s p)) stay))
        → Follows u (stepped s p (λ q. does os q go)) (stepped s (renamed_point u p) (λ q. does os q stay))
    step (Step.Goes s) behind = behind s
    step (Step.Traps t line) behind = refl
    step Step.Stuck behind = refl

-- each target of a kept block of the graph is kept, or is none
targets_here : (g : Graph) (b : ℕ) (block : Block) → 2 ≤ b → among b (reached g.blocks) ≡ true
    → slice_get g.blocks (b - 2) ≡ Some block → Targets g block.end
targets_here g b block low kept at t target = elim (cases_lt t 2) [
  | inl outside ↦ inl outside
  | inr inside ↦ inr (
    inside,
    elim (cases_lt t (2 + length g.blocks)) [
      | inl within ↦ inl (reached_closed g.blocks (b - 2) t block at
          (subst (λ i. among i (reached g.blocks) ≡ true) (omega (arith, low)) kept) target inside within)
      | inr past ↦ inr past
    ],
  )
]

-- a block that isn't there is none of the pruned graph
past_none : (blocks : List Block) (b : ℕ) → 2 + length blocks ≤ b → slice_get (kept_blocks (reached blocks) 2 blocks)
    (rank_from 2 (reached blocks) b - 2) ≡ None
past_none [] b past = refl
past_none (x ∷ bs) b past =
    pruned_past (x ∷ bs) b (false_from_ne_true (among b (reached (x ∷ bs))) (λ m.
    let within = numbers_within 2 (x ∷ bs) b
    (among_filtered (λ b. among b (reached (x ∷ bs))) (numbers_from 2 (x ∷ bs)) b
    (subst (λ l. among b l ≡ true) (reached_filtered (x ∷ bs) (omega arith)) m)).0 in
    absurd (omega (arith, within.1, past)))) (omega arith)

-- A move of the pruned unit is that of the unit, renamed.
move_follows : (u : GraphUnit) (p : Point) → StandsAt u p
    → Follows u (move u p) (move (pruned u) (renamed_point u p))
move_follows u p stands =
    subst (λ o. Follows u (move u p)
    (in_block (pruned u) (gives_at o) (block_at o (number_in u p.function p.block)) (renamed_point u p)))
    (sym (slice_get-map pruned_graph u.graphs p.function)) (in_graph (slice_get u.graphs p.function) refl)
  where
    in_graph : (o : Option Graph) → slice_get u.graphs p.function ≡ o
        → Follows u (in_block u (gives_at o) (block_at o p.block) p)
        (in_block (pruned u) (gives_at (option_map pruned_graph o))
        (block_at (option_map pruned_graph o) (number_of o p.block)) (renamed_point u p))
    in_graph None at = refl
    in_graph (Some g) at = by (subst (λ o. Here o p.block) at stands.here)
      where
        kept : List Block
        kept = kept_blocks (reached g.blocks) 2 g.blocks

        -- the moves of these two blocks
        Both : Option Block → Option Block → Type 0
        Both old new = Follows u (in_block u g.gives old p) (in_block (pruned u) g.gives new (renamed_point u p))

        same_block : (b : ℕ) → 2 ≤ b → among b (reached g.blocks) ≡ true → (o : Option Block)
            → slice_get g.blocks (b - 2) ≡ o → Both o (option_map (with_numbers (reached g.blocks)) o)
        same_block b low is_kept None there = refl
        same_block b low is_kept (Some block) there =
            does_follow u block.ops p _ _ stands (λ q same stands.
            ends_follow u g block.end q (ap (λ f. slice_get u.graphs f) same ∙ at)
            (targets_here g b block low is_kept there) stands)

        -- a kept block stands at its new number
        at_number : (b i : ℕ) → 2 ≤ b → among b (reached g.blocks) ≡ true → p.block - 2 ≡ b - 2
            → slice_get kept (i - 2) ≡ option_map (with_numbers (reached g.blocks)) (slice_get g.blocks (b - 2))
            → Both (slice_get g.blocks (p.block - 2)) (slice_get kept (i - 2))
        at_number b i low is_kept place there =
            subst (λ o. Both (slice_get g.blocks (p.block - 2)) o) (sym there)
            (subst
            (λ k. Both (slice_get g.blocks k)
            (option_map (with_numbers (reached g.blocks)) (slice_get g.blocks (b - 2))))
            (sym place) (same_block b low is_kept (slice_get g.blocks (b - 2)) refl))

        by : Here (Some g) p.block
            → Both (slice_get g.blocks (p.block - 2)) (slice_get kept (number_of (Some g) p.block - 2))
        by (inl high) =
            let same = number_outside (reached g.blocks) p.block high in
            let two = number_two (Some g) in
            at_number 2 (number_of (Some g) p.block) (omega arith) (reached_two g.blocks) (omega (arith, high))
            (ap (slice_get kept) (omega (arith, same, two, high))
            ∙ pruned_at g.blocks 2 (omega arith) (reached_two g.blocks))
        by (inr (low, inl is_kept)) =
            at_number p.block (number_of (Some g) p.block) low is_kept refl
            (ap (λ i. slice_get kept (i - 2)) (number_inside (reached g.blocks) p.block low)
            ∙ pruned_at g.blocks p.block low is_kept)
        by (inr (low, inr past)) =
            subst (λ o. Both o (slice_get kept (number_of (Some g) p.block - 2)))
            (sym (slice_get_past g.blocks (p.block - 2) (omega (arith, past))))
            (subst (λ o. Both None o)
            (sym (ap (λ i. slice_get kept (i - 2)) (number_inside (reached g.blocks) p.block low)
            ∙ past_none g.blocks p.block past)) refl)

-- ---- runs

goes_follows : (u : GraphUnit) (k : ℕ) (p : Point) → StandsAt u p
    → goes k (pruned u) (renamed_point u p) ≡ option_map (renamed_walked u) (goes k u p)
goes_follows u zero p stands = refl
goes_follows u (suc k) p stands =
    go (move u p) (move (pruned u) (renamed_point u p)) (move_follows u p stands) (λ q s. goes_follows u k q s)
  where
    go : (m n : Move) → Follows u m n
        → ((q : Point) → StandsAt u q
        → goes k (pruned u) (renamed_point u q) ≡ option_map (renamed_walked u) (goes k u q))
        → then_goes n (λ q. goes k (pruned u) q) ≡ option_map (renamed_walked u) (then_goes m (λ q. goes k u q))
    go (Move.Goes_on q) n follows rec =
        ap (λ (m : Move). then_goes m (λ q. goes k (pruned u) q)) follows.0 ∙ rec q follows.1
    go (Move.Over w) n follows rec = ap (λ (m : Move). then_goes m (λ q. goes k (pruned u) q)) follows
    go Move.Broken n follows rec = ap (λ (m : Move). then_goes m (λ q. goes k (pruned u) q)) follows

same_cells : (o : Option Graph) → cells_of (option_map pruned_graph o) ≡ cells_of o
same_cells None = refl
same_cells (Some g) = refl

first_follows : (u : GraphUnit) (input : List ℕ) (n : ℕ) → first (pruned u) input n ≡ renamed_point u (first u input n)
first_follows u input n =
    ap (λ (c : ℕ). at 2 c 0 2) (ap cells_of (slice_get-map pruned_graph u.graphs u.main)
    ∙ same_cells (slice_get u.graphs u.main))
    ∙ ap (λ (b : ℕ). at b (cells_of (slice_get u.graphs u.main)) 0 2) (sym (number_two (slice_get u.graphs u.main)))
    ∙ ap (λ (b : ℕ). at (number_in u u.main 2) (cells_of (slice_get u.graphs u.main)) b 2)
    (sym (number_zero (slice_get u.graphs u.main)))
    ∙ ap (λ (b : ℕ). at (number_in u u.main 2) (cells_of (slice_get u.graphs u.main)) (number_in u u.main 0) b)
    (sym (number_two (slice_get u.graphs u.main)))
  where
    at : ℕ → ℕ → ℕ → ℕ → Point
    at block cells zeroth second = record {
      function = u.main;
      block = block;
      operands = [];
      cells = replicate cells (pos 0);
      walk = 0;
      callers = [];
      globals = u.globals;
      input = input;
      output = [];
      turns = n;
      walks = record { function = u.main; blocks = zeroth ∷ second ∷ [] } ∷ [];
    }

-- Pruning keeps the runs of each unit.
pub keeps_runs : (u : GraphUnit) → KeepsRuns u (pruned u)
keeps_runs u input n k =
    ap (goes k (pruned u)) (first_follows u input n)
    ∙ goes_follows u k (first u input n)
    (record { here = two_here (slice_get u.graphs u.main); own = refl; waits = tt })

-- a run of the unit is one of the pruned unit, renamed
pub run_there : (u new : GraphUnit) → KeepsRuns u new → (input : List ℕ) (n : ℕ) (walked : Walked)
    → WalkRun u input n walked → WalkRun new input n (renamed_walked u walked)
run_there u new keeps input n walked run =
    (run.0, keeps input n run.0 ∙ ap (option_map (renamed_walked u)) run.1)

-- and each run of the pruned unit is such a one
pub run_back : (u new : GraphUnit) → KeepsRuns u new → (input : List ℕ) (n : ℕ) (walked : Walked)
    → WalkRun new input n walked → (old : Walked) × WalkRun u input n old × (walked ≡ renamed_walked u old)
run_back u new keeps input n walked run =
    from run.0 (goes run.0 u (first u input n)) refl (sym (keeps input n run.0) ∙ run.1)
  where
    from : (k : ℕ) (o : Option Walked) → goes k u (first u input n) ≡ o
        → option_map (renamed_walked u) o ≡ Some walked
        → (old : Walked) × WalkRun u input n old × (walked ≡ renamed_walked u old)
    from k None e h = absurd (none-some walked h)
    from k (Some old) e h = (old, (k, e), sym (same_Some _ _ h))
