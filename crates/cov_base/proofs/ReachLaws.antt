-- Marks that spread along arcs from block 2 are those of the blocks that are reached.
use Rattle.std.proofs.Common.{◌≡◌, ℕ, zero, suc, ◌<◌, Bool, true, false, inl, inr, List, [], ◌∷◌, length, get_or, set, refl, sym, ◌∙◌, ap, subst, arith, get_or-set_other, get_or-set_same, eq-eqb}
use Rattle.std.specs.List.{All, fold, list_any}
use Rattle.std.proofs.lemmas.Bool.{both_ways, or_parts, and_parts, and_from, cond-true, cond-false, cases_Bool, cases_eq, cases_lt, leb-false, lt-ltb, eqb-true, not_from_false}
use Rattle.std.proofs.lemmas.List.{get_or_past}
use Rattle.std.proofs.lemmas.List.Folds.{Any-from_list_any, list_any_at}
use Rattle.std.proofs.lemmas.List.Elements.{All-head, All-tail, All-weaker}
use Rattle.cov_base.specs.Net.{is_outside, has_arc, joins, Leads, IsReached, AllReached, IsLeastApart}
use Rattle.cov_base.specs.Reach.{is_inside, is_marked, is_open, spread_along, IsSound, MarksReached, AllMarked, IsFirstUnmarked}
use Rattle.cov_base.specs.declared.net.FlowArc.{FlowArc}

-- a further mark of a reached block keeps the marks sound
IsSound-set : (arcs : List FlowArc) (marks : List Bool) (at : ℕ) → IsReached arcs at → IsSound arcs marks → IsSound arcs (set marks at true)
IsSound-set arcs marks at reached sound = λ block marked.
    elim (cases_eq block at) [
      | inl same ↦ subst (IsReached arcs) (sym same) reached
      | inr other ↦ sound block (sym (get_or-set_other marks at block true false other) ∙ marked)
    ]

-- a step along an arc of the net keeps the marks sound
IsSound-spread_along : (arcs : List FlowArc) (marks : List Bool) (arc : FlowArc) → has_arc arcs arc.from arc.to ≡ true → IsSound arcs marks → IsSound arcs (spread_along marks arc)
IsSound-spread_along arcs marks arc has sound =
    elim (cases_Bool (is_open marks arc)) [
      | inl opens ↦ subst (IsSound arcs) (sym (cond-true _ _ _ opens)) (
          let before = sound arc.from (and_parts _ _ opens).0 in
          IsSound-set arcs marks arc.to (suc before.0, (arc.from, before.1, has)) sound)
      | inr shut ↦ subst (IsSound arcs) (sym (cond-false _ _ _ shut)) sound
    ]

IsSound-fold : (all : List FlowArc) (arcs : List FlowArc) (marks : List Bool) → All (λ arc. has_arc all arc.from arc.to ≡ true) arcs → IsSound all marks → IsSound all (fold spread_along marks arcs)
IsSound-fold all [] marks has sound = sound
IsSound-fold all (arc ∷ arcs) marks has sound =
    IsSound-fold all arcs (spread_along marks arc) (All-tail (λ a. has_arc all a.from a.to ≡ true) arc arcs has)
    (IsSound-spread_along all marks arc (All-head (λ a. has_arc all a.from a.to ≡ true) arc arcs has) sound)

-- each arc of a list is one of its arcs
has_itself : (arcs : List FlowArc) → All (λ arc. has_arc arcs arc.from arc.to ≡ true) arcs
has_itself arcs = λ k d h.
    let arc = get_or arcs k d in
    list_any_at (joins arc.from arc.to) arcs k d h (and_from _ _ (eq-eqb arc.from arc.from refl) (eq-eqb arc.to arc.to refl))

-- a round over all arcs keeps the marks sound
pub IsSound-round : (arcs : List FlowArc) (marks : List Bool) → IsSound arcs marks → IsSound arcs (fold spread_along marks arcs)
IsSound-round arcs marks sound = IsSound-fold arcs arcs marks (has_itself arcs) sound

-- a step keeps each mark
marked-spread_along : (marks : List Bool) (arc : FlowArc) (block : ℕ) → block < length marks → is_marked marks block ≡ true → is_marked (spread_along marks arc) block ≡ true
marked-spread_along marks arc block within marked =
    elim (cases_Bool (is_open marks arc)) [
      | inl opens ↦ subst (λ m. is_marked m block ≡ true) (sym (cond-true _ _ _ opens)) (
          elim (cases_eq block arc.to) [
            | inl same ↦ subst (λ b. is_marked (set marks b true) block ≡ true) same (get_or-set_same marks block true false within)
            | inr other ↦ get_or-set_other marks arc.to block true false other ∙ marked
          ])
      | inr shut ↦ subst (λ m. is_marked m block ≡ true) (sym (cond-false _ _ _ shut)) marked
    ]

-- a list with a mark at a place reaches that far
within-from_marked : (marks : List Bool) (block : ℕ) → is_marked marks block ≡ true → block < length marks
within-from_marked marks block marked =
    elim (cases_lt block (length marks)) [
      | inl within ↦ within
      | inr past ↦ absurd (both_ways _ (get_or_past marks block false past) marked)
    ]

-- a round keeps each mark
pub marked-round : (arcs : List FlowArc) (marks : List Bool) (block : ℕ) → is_marked marks block ≡ true → is_marked (fold spread_along marks arcs) block ≡ true
marked-round [] marks block marked = marked
marked-round (arc ∷ arcs) marks block marked =
    marked-round arcs (spread_along marks arc) block (marked-spread_along marks arc block (within-from_marked marks block marked) marked)

-- a round over arcs of which none is open changes no mark
pub fold-shut : (arcs : List FlowArc) (marks : List Bool) → list_any (is_open marks) arcs ≡ false → fold spread_along marks arcs ≡ marks
fold-shut [] marks shut = refl
fold-shut (arc ∷ arcs) marks shut =
    let parts = or_parts (is_open marks arc) (list_any (is_open marks) arcs) shut in
    ap (λ m. fold spread_along m arcs) (cond-false (is_open marks arc) (set marks arc.to true) marks parts.0) ∙ fold-shut arcs marks parts.1

-- marks that are clear but for block 2 are sound
pub IsSound-start : (arcs : List FlowArc) (marks : List Bool) → All (λ mark. mark ≡ false) marks → IsSound arcs (set marks 2 true)
IsSound-start arcs marks clear =
    IsSound-set arcs marks 2 (0, refl)
    (λ block marked. absurd (both_ways _ (clear block false (within-from_marked marks block marked)) marked))

-- where no arc is open, the end of an arc from a marked block is marked
marked-along : (arcs : List FlowArc) (marks : List Bool) → list_any (is_open marks) arcs ≡ false → (a b : ℕ) → has_arc arcs a b ≡ true → is_marked marks a ≡ true → is_marked marks b ≡ true
marked-along arcs marks closed a b has marked =
    let found = Any-from_list_any (joins a b) arcs has in
    let arc : FlowArc = found.1 in
    let here : joins a b arc ≡ true = found.4 in
    let ends = and_parts _ _ here in
    let from : arc.from ≡ a = eqb-true _ _ ends.0 in
    let to : arc.to ≡ b = eqb-true _ _ ends.1 in
    elim (cases_Bool (is_marked marks b)) [
      | inl holds ↦ holds
      | inr fails ↦ absurd (
          let opens : is_open marks arc ≡ true = and_from _ _ (ap (is_marked marks) from ∙ marked) (not_from_false _ (ap (is_marked marks) to ∙ fails)) in
          both_ways _ closed (list_any_at (is_open marks) arcs found.0 arc found.2 (ap (is_open marks) found.3 ∙ opens)))
    ]

-- where no arc is open and block 2 is marked, each reached block is marked
pub marked-from_reached : (arcs : List FlowArc) (marks : List Bool) → list_any (is_open marks) arcs ≡ false → is_marked marks 2 ≡ true → (n block : ℕ) → Leads arcs block n → is_marked marks block ≡ true
marked-from_reached arcs marks closed start zero block leads = ap (is_marked marks) leads ∙ start
marked-from_reached arcs marks closed start (suc n) block leads =
    marked-along arcs marks closed leads.0 block leads.2 (marked-from_reached arcs marks closed start n leads.0 leads.1)

-- with each block marked, each is reached
pub AllReached-from_marks : (blocks : ℕ) (arcs : List FlowArc) (marks : List Bool) → MarksReached blocks arcs marks → AllMarked marks → AllReached blocks arcs
AllReached-from_marks blocks arcs marks reached all = λ block low high.
    reached.sound block (all block low (omega (arith, reached.len)))

-- the first block without a mark is the least apart
pub IsLeastApart-from_marks : (blocks : ℕ) (arcs : List FlowArc) (marks : List Bool) (block : ℕ) → MarksReached blocks arcs marks → IsFirstUnmarked marks block → IsLeastApart blocks arcs block
IsLeastApart-from_marks blocks arcs marks block reached first = record {
  inner = first.inner;
  within = omega (arith, reached.len, first.within);
  apart = λ leads. both_ways _ first.unmarked (marked-from_reached arcs marks reached.closed reached.start leads.0 block leads.1);
  least = λ before low high. reached.sound before (first.least before low high);
}

-- an arc that is not outside has both ends inside
pub All_inside-from_outside : (blocks : ℕ) (arcs : List FlowArc) → All (λ arc. is_outside blocks arc ≡ false) arcs → All (λ arc. is_inside blocks arc ≡ true) arcs
All_inside-from_outside blocks arcs h =
    All-weaker (λ arc. is_outside blocks arc ≡ false) (λ arc. is_inside blocks arc ≡ true) (λ arc out.
    let a = or_parts _ _ out in
    let b = or_parts _ _ a.0 in
    let c = or_parts _ _ b.0 in
    and_from _ _ (lt-ltb arc.from blocks (leb-false _ _ c.0)) (lt-ltb arc.to blocks (leb-false _ _ c.1))) arcs h
