-- The arcs off a tree, one after another.
use Rattle.std.proofs.Common.{◌≡◌, refl, sym, ap, subst, ◌∙◌, ℕ, zero, suc, ◌+◌, ◌-◌, ◌≤◌, ◌<◌, List, [], ◌∷◌, ◌++◌}
use Rattle.std.proofs.Common.{length, Bool}
use Rattle.std.proofs.Common.{true}
use Rattle.std.proofs.Common.{false, cond, arith, append_assoc, ◌⊎◌, inl, inr}
use Rattle.std.specs.List.{All, Contains}
use Rattle.std.proofs.lemmas.Bool.{both_ways, cases_eq, cond-true, cond-false}
use Rattle.std.proofs.lemmas.List.Elements.{All-nil, All-cons, All-same}
use Rattle.cov_base.specs.declared.net.FlowArc.{FlowArc}
use Rattle.cov_base.specs.Net.{NetValue, IsNet}
use Rattle.cov_base.proofs.NetLaws.{HasShape-from_IsNet}
use Rattle.span_tree.specs.declared.arrival.Arrival.{Arrival}
use Rattle.span_tree.specs.Circulation.{Determine}
use Rattle.span_tree.specs.Tree.{is_linked, arrivals, off_from, off}
use Rattle.span_tree.proofs.Unique.{one_circulation}

-- one arc more
pub off_step : (came : List Arrival) (arc arcs : ℕ) (offs new all : List ℕ) (on : Bool) → arc < arcs
    → on ≡ is_linked came arc → new ≡ cond on offs (offs ++ arc ∷ []) → offs ++ off_from came arc (arcs - arc) ≡ all
    → new ++ off_from came (arc + 1) (arcs - (arc + 1)) ≡ all
off_step came arc arcs offs new all on l e n h =
    ap (λ (x : List ℕ). x ++ off_from came (arc + 1) (arcs - (arc + 1))) n ∙ go on e
    ∙ ap (λ m. offs ++ off_from came arc m) (sym left) ∙ h
  where
    left : arcs - arc ≡ suc (arcs - (arc + 1))
    left = omega (arith, l)

    next : arc + 1 ≡ suc arc
    next = omega arith

    go : (on : Bool) → on ≡ is_linked came arc
        → cond on offs (offs ++ arc ∷ []) ++ off_from came (arc + 1) (arcs - (arc + 1))
        ≡ offs ++ off_from came arc (suc (arcs - (arc + 1)))
    go true e = ap (λ i. offs ++ off_from came i (arcs - (arc + 1))) next
        ∙ ap (λ (l : List ℕ). offs ++ l) (sym (cond-true _ _ _ (sym e)))
    go false e = append_assoc offs (arc ∷ []) (off_from came (arc + 1) (arcs - (arc + 1)))
        ∙ ap (λ i. offs ++ arc ∷ off_from came i (arcs - (arc + 1))) next
        ∙ ap (λ (l : List ℕ). offs ++ l) (sym (cond-false _ _ _ (sym e)))

off_below : (came : List Arrival) (i n m : ℕ) → i + n ≤ m → All (λ k. k < m) (off_from came i n)
    × (length (off_from came i n) ≤ n)
off_below came i zero m l = (All-nil (λ k. k < m), omega arith)
off_below came i (suc n) m l = go (is_linked came i) (off_below came (suc i) n m (omega (arith, l)))
  where
    go : (x : Bool) → All (λ k. k < m) (off_from came (suc i) n) × (length (off_from came (suc i) n) ≤ n)
        → All (λ k. k < m) (cond x (off_from came (suc i) n) (i ∷ off_from came (suc i) n))
        × (length (cond x (off_from came (suc i) n) (i ∷ off_from came (suc i) n)) ≤ suc n)
    go true h = (h.0, (let b = h.1 in omega (arith, b)))
    go false h = (
      All-cons (λ k. k < m) i (off_from came (suc i) n) (omega (arith, l)) h.0,
      (let b = h.1 in omega (arith, b)),
    )

pub offs_within : (came : List Arrival) (arcs : ℕ) (offs : List ℕ) → offs ≡ off_from came 0 arcs
    → All (λ k. k < arcs) offs
offs_within came arcs offs e = All-same (λ k. k < arcs) offs (off_from came 0 arcs) e
    (off_below came 0 arcs arcs (omega arith)).0

pub offs_small : (net : NetValue) (came : List Arrival) (arcs : List FlowArc) (offs : List ℕ) → IsNet net
    → arcs ≡ net.arcs → offs ≡ off_from came 0 (length arcs) → length offs < 4294967296
offs_small net came arcs offs is a e =
    let few = (HasShape-from_IsNet net is).few in
    let b = (off_below came 0 (length arcs) (length arcs) (omega arith)).1 in
    let c = ap length e in
    let d = ap length a in
    omega (arith, few, b, c, d)

-- an arc that no block came by is among those off the tree
off_contains : (came : List Arrival) (i n arc : ℕ) → i ≤ arc → arc < i + n → is_linked came arc ≡ false
    → Contains (off_from came i n) arc
off_contains came i zero arc low high other = absurd (omega (arith, low, high))
off_contains came i (suc n) arc low high other =
    go (cases_eq arc i) (is_linked came i) refl (λ low. off_contains came (suc i) n arc low (omega (arith, high)) other)
  where
    go : (arc ≡ i) ⊎ (arc ≡ i → ⊥) → (x : Bool) → is_linked came i ≡ x
        → (suc i ≤ arc → Contains (off_from came (suc i) n) arc)
        → Contains (cond x (off_from came (suc i) n) (i ∷ off_from came (suc i) n)) arc
    go (inl same) true e rec = absurd (both_ways _ other (subst (λ k. is_linked came k ≡ true) (sym same) e))
    go (inl same) false e rec = (0, omega arith, sym same)
    go (inr more) true e rec = rec (omega (arith, low, more))
    go (inr more) false e rec =
        let c = rec (omega (arith, low, more)) in
        let within = c.1 in
        (suc c.0, omega (arith, within), c.2)

-- what was found for a tree's arrivals are the arcs off it
pub off_of : (net : NetValue) (came : List Arrival) (arcs : List FlowArc) (offs : List ℕ) → came ≡ arrivals net
    → arcs ≡ net.arcs → offs ≡ off_from came 0 (length arcs) → offs ≡ off net
off_of net came arcs offs tree same found =
    found ∙ ap (λ (l : List Arrival). off_from l 0 (length arcs)) tree
    ∙ ap (λ (l : List FlowArc). off_from (arrivals net) 0 (length l)) same

-- The arcs off the tree determine a circulation.
pub off_determine : (net : NetValue) → IsNet net → Determine (off net) net
off_determine net is xs ys x y same =
    (one_circulation net is xs ys x y (λ i within other.
    same i (off_contains (arrivals net) 0 (length net.arcs) i (omega arith) (omega (arith, within)) other))).0
