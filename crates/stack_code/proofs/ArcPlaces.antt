-- Where an arc stands among those of a net, which ascend by their ends.
use Rattle.std.proofs.Common.{◌≡◌, refl, sym, ap₂, subst, ◌∙◌, ℕ, zero, suc, ◌<◌, ◌≤◌, ◌==◌, ◌&&◌, ◌⊎◌, inl, inr, Bool, true}
use Rattle.std.proofs.Common.{false, List, [], ◌∷◌, length, get_or, Some, None, arith, ltb, eqb-true, eq-eqb}
use Rattle.std.specs.List.{position}
use Rattle.std.specs.List.Sorted.{IsPartitionedBy, IsPartitionPoint}
use Rattle.std.proofs.lemmas.Bool.{and_from, and_parts, or_cases, or_left, or_right, lt-ltb, ltb-true, both_ways, cases_lt}
use Rattle.std.proofs.lemmas.List.Sums.{position_or_len_is}
use Rattle.cov_base.specs.Net.{is_above, joins}
use Rattle.cov_base.specs.declared.net.FlowArc.{FlowArc}
use Rattle.cov_base.proofs.NetLaws.{AscendAfter, Ascend, no_position-from_All}
use Rattle.stack_code.specs.Arcs.{is_before}

-- what stands before an arc stands before where that arc stands
before_on : (from to : ℕ) (x y : FlowArc) → is_above y x ≡ true → is_before from to y ≡ true → is_before from to x ≡ true
before_on from to x y up h =
    go (or_cases (ltb x.from y.from) ((x.from == y.from) && ltb x.to y.to) up)
    (or_cases (ltb y.from from) ((y.from == from) && ltb y.to to) h)
  where
    sooner : x.from < from → is_before from to x ≡ true
    sooner lt = or_left (ltb x.from from) ((x.from == from) && ltb x.to to) (lt-ltb x.from from lt)

    go : (ltb x.from y.from ≡ true) ⊎ (((x.from == y.from) && ltb x.to y.to) ≡ true)
        → (ltb y.from from ≡ true) ⊎ (((y.from == from) && ltb y.to to) ≡ true) → is_before from to x ≡ true
    go (inl a) (inl b) = let p = ltb-true x.from y.from a in let q = ltb-true y.from from b in sooner (omega (arith, p, q))
    go (inl a) (inr b) =
        let p = ltb-true x.from y.from a in
        let q = eqb-true y.from from (and_parts (y.from == from) (ltb y.to to) b).0 in sooner (omega (arith, p, q))
    go (inr a) (inl b) =
        let p = eqb-true x.from y.from (and_parts (x.from == y.from) (ltb x.to y.to) a).0 in
        let q = ltb-true y.from from b in sooner (omega (arith, p, q))
    go (inr a) (inr b) =
        let p = and_parts (x.from == y.from) (ltb x.to y.to) a in
        let q = and_parts (y.from == from) (ltb y.to to) b in
        let e = eqb-true x.from y.from p.0 in let f = eqb-true y.from from q.0 in
        let l = ltb-true x.to y.to p.1 in let m = ltb-true y.to to q.1 in
        or_right (ltb x.from from) ((x.from == from) && ltb x.to to)
        (and_from (x.from == from) (ltb x.to to) (eq-eqb x.from from (e ∙ f))
        (lt-ltb x.to to (omega (arith, l, m))))

first_before : (from to : ℕ) (x : FlowArc) (arcs : List FlowArc) → AscendAfter x arcs → (j : ℕ) (d : FlowArc)
    → j < length arcs → is_before from to (get_or arcs j d) ≡ true → is_before from to x ≡ true
first_before from to x [] up j d lt h = absurd (omega (arith, lt))
first_before from to x (y ∷ arcs) up zero d lt h = before_on from to x y up.0 h
first_before from to x (y ∷ arcs) up (suc j) d lt h =
    before_on from to x y up.0 (first_before from to y arcs up.1 j d (omega (arith, lt)) h)

ascend_behind : (x : FlowArc) (arcs : List FlowArc) → AscendAfter x arcs → Ascend arcs
ascend_behind x [] h = tt
ascend_behind x (y ∷ arcs) h = h.1

-- no arc before which another stands comes behind it
pub arcs_partitioned : (from to : ℕ) (arcs : List FlowArc) → Ascend arcs → IsPartitionedBy (is_before from to) arcs
arcs_partitioned from to [] up i j d le lt h = absurd (omega (arith, lt))
arcs_partitioned from to (x ∷ arcs) up zero zero d le lt h = h
arcs_partitioned from to (x ∷ arcs) up zero (suc j) d le lt h = first_before from to x arcs up j d (omega (arith, lt)) h
arcs_partitioned from to (x ∷ arcs) up (suc i) zero d le lt h = absurd (omega (arith, le))
arcs_partitioned from to (x ∷ arcs) up (suc i) (suc j) d le lt h =
    arcs_partitioned from to arcs (ascend_behind x arcs up) i j d (omega (arith, le)) (omega (arith, lt)) h

-- an arc that stands before the place isn't the one
unlike : (from to : ℕ) (x : FlowArc) → is_before from to x ≡ true → joins from to x ≡ false
unlike from to x h = by (joins from to x) refl
  where
    by : (z : Bool) → joins from to x ≡ z → z ≡ false
    by false e = refl
    by true e =
        let p = and_parts (x.from == from) (x.to == to) e in
        let a = eqb-true x.from from p.0 in let b = eqb-true x.to to p.1 in
        absurd (go a b (or_cases (ltb x.from from) ((x.from == from) && ltb x.to to) h))
      where
        go : x.from ≡ from → x.to ≡ to → (ltb x.from from ≡ true) ⊎ (((x.from == from) && ltb x.to to) ≡ true) → ⊥
        go a b (inl l) = let lt = ltb-true x.from from l in omega (arith, a, lt)
        go a b (inr r) = let lt = ltb-true x.to to (and_parts (x.from == from) (ltb x.to to) r).1 in omega (arith, b, lt)

-- the arc at the place is the one
pub arc_found : (from to : ℕ) (arcs : List FlowArc) (k : ℕ) (d : FlowArc) → k < length arcs
    → IsPartitionPoint (λ y. is_before from to y ≡ true) (λ y. is_before from to y ≡ false) arcs k
    → joins from to (get_or arcs k d) ≡ true → Some k ≡ position (joins from to) arcs
arc_found from to arcs k d lt h e =
    let is = position_or_len_is (joins from to) arcs k d (omega (arith, lt))
    (λ i low. unlike from to (get_or arcs i d) (h.0 i d (omega arith) low)) (λ l. e) in
    sym (rw (is, lt-ltb k (length arcs) lt) refl)

-- an arc stands before where each behind it stands
later_behind : (x : FlowArc) (arcs : List FlowArc) → AscendAfter x arcs → (j : ℕ) (d : FlowArc) → j < length arcs
    → is_before ((get_or arcs j d).from) ((get_or arcs j d).to) x ≡ true
later_behind x [] up j d lt = absurd (omega (arith, lt))
later_behind x (y ∷ arcs) up zero d lt = up.0
later_behind x (y ∷ arcs) up (suc j) d lt =
    before_on ((get_or arcs j d).from) ((get_or arcs j d).to) x y up.0
    (later_behind y arcs up.1 j d (omega (arith, lt)))

behind : (arcs : List FlowArc) → Ascend arcs → (i j : ℕ) (d : FlowArc) → i < j → j < length arcs
    → is_before ((get_or arcs j d).from) ((get_or arcs j d).to) (get_or arcs i d) ≡ true
behind [] up i j d le lt = absurd (omega (arith, lt))
behind (x ∷ arcs) up i zero d le lt = absurd (omega (arith, le))
behind (x ∷ arcs) up zero (suc j) d le lt = later_behind x arcs up j d (omega (arith, lt))
behind (x ∷ arcs) up (suc i) (suc j) d le lt =
    behind arcs (ascend_behind x arcs up) i j d (omega (arith, le)) (omega (arith, lt))

-- where the arc at the place isn't the one, or none stands there, there is no such arc
pub arc_missing : (from to : ℕ) (arcs : List FlowArc) (k : ℕ) → Ascend arcs
    → IsPartitionPoint (λ y. is_before from to y ≡ true) (λ y. is_before from to y ≡ false) arcs k
    → ((d : FlowArc) → k < length arcs → joins from to (get_or arcs k d) ≡ false) → None ≡ position (joins from to) arcs
arc_missing from to arcs k up h other =
    sym (no_position-from_All (joins from to) arcs (λ i d lt. by i d lt (cases_lt i k) (cases_lt k i)))
  where
    above : (i : ℕ) (d : FlowArc) → i < length arcs → k < i → joins from to (get_or arcs i d) ≡ false
    above i d lt more = go (joins from to (get_or arcs i d)) refl
      where
        go : (z : Bool) → joins from to (get_or arcs i d) ≡ z → z ≡ false
        go false e = refl
        go true e =
            let p = and_parts ((get_or arcs i d).from == from) ((get_or arcs i d).to == to) e in
            let a : (get_or arcs i d).from ≡ from = eqb-true ((get_or arcs i d).from) from p.0 in
            let b : (get_or arcs i d).to ≡ to = eqb-true ((get_or arcs i d).to) to p.1 in
            let yes : is_before from to (get_or arcs k d) ≡ true =
            ap₂ (λ x y. is_before x y (get_or arcs k d)) (sym a) (sym b) ∙ behind arcs up k i d more lt in
            let no : is_before from to (get_or arcs k d) ≡ false = h.1 k d (omega arith) (omega (arith, lt, more)) in
            absurd (both_ways _ no yes)

    by : (i : ℕ) (d : FlowArc) → i < length arcs → (i < k) ⊎ (k ≤ i) → (k < i) ⊎ (i ≤ k)
        → joins from to (get_or arcs i d) ≡ false
    by i d lt (inl low) more = unlike from to (get_or arcs i d) (h.0 i d (omega arith) low)
    by i d lt (inr le) (inl more) = above i d lt more
    by i d lt (inr le) (inr ge) =
        let e : k ≡ i = omega (arith, le, ge) in
        subst (λ j. joins from to (get_or arcs j d) ≡ false) e (other d (omega (arith, lt, e)))
