-- Walks that go through a net circulate.
use Rattle.std.proofs.Common.{◌≡◌, refl, sym, ap, subst, ◌∙◌, ℕ, zero, suc, ◌+◌, ◌==◌, Bool, true, false, cond}
use Rattle.std.proofs.Common.{arith, List, [], ◌∷◌, ◌++◌, length, map, get_or, pos, ◌+ℤ◌, eqb-true, eq-eqb}
use Rattle.std.specs.Prelude.{ℤ, slice_get, Some}
use Rattle.std.specs.List.{All, sum_by}
use Rattle.std.proofs.lemmas.Bool.{or_parts, cond-false, ne_eqb, both_ways}
use Rattle.std.proofs.lemmas.Int.{ints}
use Rattle.std.proofs.lemmas.List.{length-map}
use Rattle.std.proofs.lemmas.List.Sums.{sum_by-cons}
use Rattle.std.proofs.lemmas.List.Elements.{All-nil, All-cons, All-head, All-tail, All-weaker}
use Rattle.cov_base.specs.Net.{NetValue, IsNet, is_outside}
use Rattle.cov_base.specs.Walks.{Walk, GoesAlong, passages}
use Rattle.cov_base.specs.declared.net.FlowArc.{FlowArc}
use Rattle.cov_base.proofs.NetLaws.{HasShape-from_IsNet}
use Rattle.flow_graph.specs.Graph.{Graph, GraphUnit}
use Rattle.flow_graph.specs.Laws.{AllWhole}
use Rattle.flow_graph.specs.Nets.{net_of}
use Rattle.flow_graph.proofs.WalkLaws.{closed_walks}
use Rattle.span_tree.specs.declared.arrival.Arrival.{Arrival}
use Rattle.span_tree.specs.Circulation.{sum_where, at_block, Balance}
use Rattle.span_tree.specs.Tree.{arrivals, is_linked, off_from, off}
use Rattle.covered_runs.specs.CoveredWalks.{arcs_off, counters_of}
use Rattle.covered_runs.specs.Laws.{GoesInItsNet}
use Rattle.covered_runs.proofs.ArcWalks.{walks_along}
use Rattle.walk_counts.specs.Laws.{Circulate, WalksCirculate, ClosedRunsGoThrough}
use Rattle.walk_counts.specs.WholeWalks.{GoesThrough, AllGoThrough, passages_of, times_entered, times_left}
use Rattle.walk_counts.proofs.Passing.{number, enters, leaves, picked_passages, even_walks}

-- ---- numbers of arcs off the tree

off_numbers : (came : List Arrival) (j : ℕ) (arcs : List FlowArc) (f : FlowArc → ℕ) (numbers : List ℤ)
    → ((k : ℕ) → get_or numbers (j + k) (pos 0) ≡ get_or (map (λ a. pos (f a)) arcs) k (pos 0))
    → map (λ k. get_or numbers k (pos 0)) (off_from came j (length arcs)) ≡ map pos (map f (arcs_off came j arcs))
off_numbers came j [] f numbers same = refl
off_numbers came j (arc ∷ arcs) f numbers same =
    by (is_linked came j) (off_numbers came (suc j) arcs f numbers
    (λ k. ap (λ (n : ℕ). get_or numbers n (pos 0)) (let e : suc j + k ≡ j + suc k = omega arith in e) ∙ same (suc k)))
  where
    here : get_or numbers j (pos 0) ≡ pos (f arc)
    here = ap (λ (n : ℕ). get_or numbers n (pos 0)) (let e : j ≡ j + zero = omega arith in e) ∙ same zero

    by : (z : Bool) → map (λ k. get_or numbers k (pos 0)) (off_from came (suc j) (length arcs))
        ≡ map pos (map f (arcs_off came (suc j) arcs))
        → map (λ k. get_or numbers k (pos 0)) (cond z (off_from came (suc j) (length arcs))
        (j ∷ off_from came (suc j) (length arcs)))
        ≡ map pos (map f (cond z (arcs_off came (suc j) arcs) (arc ∷ arcs_off came (suc j) arcs)))
    by true rest = rest
    by false rest = let first = here in cc

-- The numbers of the arcs off the tree are the counters.
pub off_agree : (net : NetValue) (i : ℕ) (walks : List Walk)
    → map (λ k. get_or (passages_of net i walks) k (pos 0)) (off net) ≡ map pos (counters_of net i walks)
off_agree net i walks = off_numbers (arrivals net) 0 net.arcs (passages walks i) (passages_of net i walks)
    (λ k. ap (λ (n : ℕ). get_or (passages_of net i walks) n (pos 0)) (let e : 0 + k ≡ k = omega arith in e))

-- ---- balance

turned : (a b : ℕ) → (a == b) ≡ (b == a)
turned a b = by (a == b) (b == a) refl refl
  where
    by : (s t : Bool) → (a == b) ≡ s → (b == a) ≡ t → s ≡ t
    by true true p q = refl
    by true false p q = absurd (both_ways (b == a) q (eq-eqb b a (sym (eqb-true a b p))))
    by false true p q = absurd (both_ways (a == b) p (eq-eqb a b (sym (eqb-true b a q))))
    by false false p q = refl

-- the sum of whole numbers from 0 up
sum_pos : (p : FlowArc → Bool) (f : FlowArc → ℕ) (arcs : List FlowArc)
    → sum_where p arcs (map (λ a. pos (f a)) arcs) ≡ pos (sum_by (λ a. cond (p a) (f a) 0) arcs)
sum_pos p f [] = refl
sum_pos p f (arc ∷ arcs) =
    ap (λ n. cond (p arc) (pos (f arc)) (pos 0) +ℤ n) (sum_pos p f arcs) ∙ by (p arc)
    ∙ ap (λ n. pos n) (sym (sum_by-cons (λ a. cond (p a) (f a) 0) arc arcs))
  where
    by : (z : Bool) → cond z (pos (f arc)) (pos 0) +ℤ pos (sum_by (λ a. cond (p a) (f a) 0) arcs)
        ≡ pos (cond z (f arc) 0 + sum_by (λ a. cond (p a) (f a) 0) arcs)
    by true = omega (arith, ints)
    by false = omega (arith, ints)

module _ (net : NetValue) (is : IsNet net) (i : ℕ) (walks : List Walk) (through : AllGoThrough net i walks) where
  go_along : (walks : List Walk) → AllGoThrough net i walks
      → All (λ w. w.function ≡ i → GoesAlong net.arcs w.blocks) walks
  go_along [] h = All-nil (λ (w : Walk). w.function ≡ i → GoesAlong net.arcs w.blocks)
  go_along (w ∷ walks) h =
      All-cons (λ (w : Walk). w.function ≡ i → GoesAlong net.arcs w.blocks) w walks
      (λ e. (All-head (λ (w : Walk). w.function ≡ i → GoesThrough net w.blocks) w walks h e).along)
      (go_along walks (All-tail (λ (w : Walk). w.function ≡ i → GoesThrough net w.blocks) w walks h))

  abbrev HasEnds : Walk → Type 0
  HasEnds w = w.function ≡ i → (middle : List ℕ) × (w.blocks ≡ 0 ∷ (middle ++ 1 ∷ []))

  have_ends : (walks : List Walk) → AllGoThrough net i walks → All HasEnds walks
  have_ends [] h = All-nil HasEnds
  have_ends (w ∷ walks) h =
      All-cons HasEnds w walks
      (λ e. (let g = All-head (λ (w : Walk). w.function ≡ i → GoesThrough net w.blocks) w walks h e in
      (2 ∷ g.whole.0, g.whole.1)))
      (have_ends walks (All-tail (λ (w : Walk). w.function ≡ i → GoesThrough net w.blocks) w walks h))

  -- walks enter a block as often as they leave it, but for the entry and the exit
  even : (b : ℕ) → times_entered net i walks b + cond (0 == b) (number i walks) 0
      ≡ times_left net i walks b + cond (1 == b) (number i walks) 0
  even b =
      let ascend = (HasShape-from_IsNet net is).ascend in
      let along = go_along walks through in
      ap (λ n. n + cond (0 == b) (number i walks) 0) (picked_passages (enters b) net.arcs ascend i walks along)
      ∙ even_walks b i walks (have_ends walks through)
      ∙ ap (λ n. n + cond (1 == b) (number i walks) 0)
      (sym (picked_passages (leaves b) net.arcs ascend i walks along))

  -- no arc leads into the entry or out of the exit
  none_where : (p : FlowArc → Bool) (arcs : List FlowArc) → All (λ arc. p arc ≡ false) arcs
      → sum_by (λ arc. cond (p arc) (passages walks i arc) 0) arcs ≡ 0
  none_where p [] h = refl
  none_where p (arc ∷ arcs) h =
      let first = cond-false (p arc) (passages walks i arc) 0 (All-head (λ arc. p arc ≡ false) arc arcs h) in
      let rest = none_where p arcs (All-tail (λ arc. p arc ≡ false) arc arcs h) in
      omega (arith, sum_by-cons (λ arc. cond (p arc) (passages walks i arc) 0) arc arcs, first, rest)

  not_entered : times_entered net i walks 0 ≡ 0
  not_entered = none_where (λ arc. arc.to == 0) net.arcs
      (All-weaker (λ arc. is_outside net.blocks arc ≡ false) (λ arc. (arc.to == 0) ≡ false)
      (λ arc h. (or_parts _ _ (or_parts _ _ h).0).1) net.arcs (HasShape-from_IsNet net is).inside)

  not_left : times_left net i walks 1 ≡ 0
  not_left = none_where (λ arc. arc.from == 1) net.arcs
      (All-weaker (λ arc. is_outside net.blocks arc ≡ false) (λ arc. (arc.from == 1) ≡ false)
      (λ arc h. (or_parts _ _ h).1) net.arcs (HasShape-from_IsNet net is).inside)

  balance : Balance net (passages_of net i walks) (pos (number i walks))
  balance b within =
      ap (λ n. n +ℤ at_block 0 (pos (number i walks)) b) (sum_pos (λ arc. arc.to == b) (passages walks i) net.arcs)
      ∙ both (sum_by (λ arc. cond (arc.to == b) (passages walks i arc) 0) net.arcs)
      (sum_by (λ arc. cond (arc.from == b) (passages walks i arc) 0) net.arcs) (even b)
      ∙ ap (λ n. n +ℤ at_block 1 (pos (number i walks)) b)
      (sym (sum_pos (λ arc. arc.from == b) (passages walks i) net.arcs))
    where
      both : (m n : ℕ) → m + cond (0 == b) (number i walks) 0 ≡ n + cond (1 == b) (number i walks) 0
          → pos m +ℤ at_block 0 (pos (number i walks)) b ≡ pos n +ℤ at_block 1 (pos (number i walks)) b
      both m n e = by (b == 0) (b == 1)
          (ap (λ z. m + cond z (number i walks) 0) (turned b 0) ∙ e
          ∙ ap (λ z. n + cond z (number i walks) 0) (turned 1 b))
        where
          by : (s t : Bool) → m + cond s (number i walks) 0 ≡ n + cond t (number i walks) 0
              → pos m +ℤ cond s (pos (number i walks)) (pos 0) ≡ pos n +ℤ cond t (pos (number i walks)) (pos 0)
          by true true e = omega (arith, ints, e)
          by true false e = omega (arith, ints, e)
          by false true e = omega (arith, ints, e)
          by false false e = omega (arith, ints, e)

  pub circulate : Circulate net i walks
  circulate = record {
    circulates = record {
      agrees = off_agree net i walks;
      circulates = record {
        long = length-map net.arcs (λ arc. pos (passages walks i arc));
        back = pos (number i walks);
        balance = balance;
      };
    };
    back = refl;
    entry = (let e = even 0 in let none = not_entered in omega (arith, e, none));
    exit = (let e = even 1 in let none = not_left in omega (arith, e, none));
    inner = λ b no_entry no_exit. (let e = even b in
        let s = cond-false (0 == b) (number i walks) 0 (ne_eqb 0 b (λ z. no_entry (sym z))) in
        let t = cond-false (1 == b) (number i walks) 0 (ne_eqb 1 b (λ z. no_exit (sym z))) in
        omega (arith, e, s, t));
  }

pub walks_circulate_so : WalksCirculate
walks_circulate_so net is i walks through = circulate net is i walks through

-- ---- runs

-- the walks of a function of a unit go through its net
go_through : (u : GraphUnit) (i : ℕ) (g : Graph) → slice_get u.graphs i ≡ Some g → (walks : List Walk)
    → All (GoesInItsNet u) walks → AllWhole walks → AllGoThrough (net_of g) i walks
go_through u i g at [] along whole = All-nil (λ (w : Walk). w.function ≡ i → GoesThrough (net_of g) w.blocks)
go_through u i g at (w ∷ walks) along whole =
    All-cons (λ (w : Walk). w.function ≡ i → GoesThrough (net_of g) w.blocks) w walks
    (λ is. record {
      whole = whole.0;
      along = All-head (GoesInItsNet u) w walks along g (subst (λ (k : ℕ). slice_get u.graphs k ≡ Some g) (sym is) at);
    })
    (go_through u i g at walks (All-tail (GoesInItsNet u) w walks along) whole.1)

pub closed_go_through : ClosedRunsGoThrough
closed_go_through u made input turns walked run closed i g at =
    go_through u i g at walked.walks (walks_along u made input turns walked run)
    (closed_walks u input turns walked run closed)
