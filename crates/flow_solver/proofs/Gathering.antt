-- From the last block to the first, each takes up what is brought to it.
use Rattle.std.proofs.Common.{◌≡◌, refl, sym, ap, subst, ◌∙◌, ℕ, zero, suc, ◌+◌, ◌<◌, ◌≤◌, ◌==◌, List, [], ◌∷◌, ◌++◌}
use Rattle.std.proofs.Common.{length, get_or, set, Bool, true, false, cond, not, ◌||◌, ◌⊎◌, inl, inr, arith}
use Rattle.std.proofs.Common.{pos, ◌+ℤ◌, neg_ℤ, append_assoc, append-nil, eq-eqb, eqb-true}
use Rattle.std.specs.Prelude.{ℤ, Option, Some, None, slice_get, ◌-ℤ◌}
use Rattle.std.proofs.lemmas.Bool.{both_ways, cond-true, cond-false, cases_eq, cases_lt, cases_Bool, ne_eqb, or_parts}
use Rattle.std.proofs.lemmas.Bool.{or_left, or_right, or_from, lt-ltb, le-ltb}
use Rattle.std.proofs.lemmas.Int.{ints}
use Rattle.std.proofs.lemmas.Option.{slice_get_within}
use Rattle.std.proofs.lemmas.List.{get_or-set_same, get_or-set_other, length-set}
use Rattle.cov_base.specs.declared.net.FlowArc.{FlowArc}
use Rattle.cov_base.specs.Net.{NetValue, IsNet}
use Rattle.span_tree.specs.declared.arrival.Arrival.{Arrival}
use Rattle.span_tree.specs.Tree.{exit_alone, is_there, is_link, is_linked, link_of, order_of}
use Rattle.span_tree.proofs.Grown.{Came, Grown, is_there_append, is_linked_append, there_more, there_last}
use Rattle.span_tree.proofs.Unique.{Inner, inner_more}
use Rattle.flow_solver.specs.Solving.{add_at, take_up, settled_by, settled, gathered}
use Rattle.flow_solver.proofs.Surplus.{brought, surplus, surplus_same, surplus_more}
use Rattle.flow_solver.proofs.Links.{OneEach, Tree, link_linked, link_there, link_next, link_within, one_each, fresh}
use Rattle.flow_solver.proofs.Spreading.{add_long, add_other, add_link, known_upto, Placed}

-- the arcs by which none of these came
abbrev pub unlinked : List Arrival → ℕ → Bool
unlinked before k = not (is_linked before k)

-- In the place of the arc of each block that is there stands what the known arcs bring to it, and those that are no
-- longer there are brought nothing.
pub record Pending (net : NetValue) (came before : List Arrival) (xs : List ℤ) : Type 0 where
  pub long : length xs ≡ length net.arcs
  pub waiting : (b j : ℕ) → is_there before b ≡ true → link_of came b ≡ Some j → get_or xs j (pos 0)
      ≡ surplus (unlinked before) b 0 net.arcs xs
  pub even : (b : ℕ) → is_there before b ≡ false → b < net.blocks → (b ≡ 0 → ⊥)
      → surplus (unlinked before) b 0 net.arcs xs ≡ pos 0

-- when all numbers were put, all blocks wait
pub pending_start : (net : NetValue) (came : List Arrival) → Tree net came
    → ((b : ℕ) → b < net.blocks → is_there came b ≡ true) → (xs : List ℤ)
    → Placed net came (length net.arcs) xs → Pending net came came xs
pending_start net came t all xs p = record {
  long = p.long;
  waiting = λ b j there e. p.waiting b j e
      ∙ surplus_same (known_upto came (length net.arcs)) (unlinked came) b 0 net.arcs xs xs refl
      (λ k l. ap (λ x. and_ x (not (is_linked came (0 + k)))) (lt-ltb (0 + k) (length net.arcs) (omega (arith, l))))
      (λ k e. refl);
  even = λ b gone l ne. absurd (both_ways _ gone (all b l));
}
  where
    and_ : Bool → Bool → Bool
    and_ true y = y
    and_ false y = false

-- ---- a block that came by an arc

linked_more : (before : List Arrival) (b i k : ℕ) → (k ≡ i → ⊥)
    → is_linked (before ++ record { block = b; link = Some i } ∷ []) k ≡ is_linked before k
linked_more before b i k ne =
    is_linked_append before (record { block = b; link = Some i } ∷ []) k ∙ go (is_linked before k) (i == k)
    (ne_eqb i k (λ e. ne (sym e)))
  where
    go : (x y : Bool) → y ≡ false → (x || (y || false)) ≡ x
    go true y e = refl
    go false y e = or_from _ _ e refl

linked_own : (before : List Arrival) (b i : ℕ)
    → is_linked (before ++ record { block = b; link = Some i } ∷ []) i ≡ true
linked_own before b i =
    is_linked_append before (record { block = b; link = Some i } ∷ []) i ∙ or_right _ _ (or_left _ _ (eq-eqb i i refl))

-- what is known of the arc of a block when it is taken up
pub record Taking (net : NetValue) (came before rest : List Arrival) (b i : ℕ) (arc : FlowArc) : Type 0 where
  pub whole : came ≡ before ++ record { block = b; link = Some i } ∷ rest
  pub new : is_there before b ≡ false
  pub unused : is_linked before i ≡ false
  pub at : slice_get net.arcs i ≡ Some arc

-- the number in its place goes to another end that is there
settle_core : (net : NetValue) (came before rest : List Arrival) (b i : ℕ) (arc : FlowArc) → Tree net came
    → Taking net came before rest b i arc → (p : ℕ) (v : ℤ) (xs ys : List ℤ) → is_there before p ≡ true
    → length ys ≡ length xs → get_or ys i (pos 0) ≡ v
    → ((k : ℕ) → (k ≡ i → ⊥) → get_or ys k (pos 0) ≡ get_or xs k (pos 0))
    → ((q : ℕ) → brought arc v q
    ≡ cond (p == q) (get_or xs i (pos 0)) (pos 0) -ℤ cond (b == q) (get_or xs i (pos 0)) (pos 0))
    → Pending net came (before ++ record { block = b; link = Some i } ∷ []) xs
    → Pending net came before (add_at came p (get_or xs i (pos 0)) ys)
settle_core net came before rest b i arc t k p v xs ys there long own others brings pending =
    record { long = new_long ∙ (long ∙ pending.long); waiting = waiting; even = even }
  where
    a : Arrival
    a = record { block = b; link = Some i }

    surplus_here : ℤ
    surplus_here = get_or xs i (pos 0)

    new : List ℤ
    new = add_at came p surplus_here ys

    new_long : length new ≡ length ys
    new_long = add_long (link_of came p) surplus_here ys

    within : i < length ys
    within = let l = slice_get_within net.arcs i arc k.at in let e = pending.long in let f = long in
        omega (arith, l, e, f)

    -- no block that is there came by this arc, or by one that isn't taken up yet
    not_of : (q j : ℕ) → is_there before q ≡ true → is_linked before j ≡ false → link_of came q ≡ Some j → ⊥
    not_of q j h off e = both_ways _ off
        (link_there before (a ∷ rest) q j h (ap (λ (l : List Arrival). link_of l q) (sym k.whole) ∙ e))

    own_new : get_or new i (pos 0) ≡ v
    own_new = add_other (link_of came p) surplus_here ys i (not_of p i there k.unused) ∙ own

    brings_new : (q : ℕ) → surplus (unlinked before) q 0 net.arcs new
        ≡ surplus (unlinked (before ++ a ∷ [])) q 0 net.arcs xs
        +ℤ (cond (p == q) surplus_here (pos 0) -ℤ cond (b == q) surplus_here (pos 0))
    brings_new q =
        surplus_more (unlinked (before ++ a ∷ [])) (unlinked before) q 0 net.arcs xs new i arc
        (sym (new_long ∙ long)) (let e = new_long in let w = within in omega (arith, e, w)) k.at
        (subst (λ j. unlinked (before ++ a ∷ []) j ≡ false) zero_plus (ap not (linked_own before b i)))
        (subst (λ j. unlinked before j ≡ true) zero_plus (ap not k.unused))
        (λ j ne. ap not (linked_more before b i (0 + j) (λ e. ne (omega (arith, e)))))
        (λ j ne known. sym (add_other (link_of came p) surplus_here ys j
        (not_of p j there (unknown j ne known)) ∙ others j ne))
        ∙ ap (λ z. surplus (unlinked (before ++ a ∷ [])) q 0 net.arcs xs +ℤ z)
        (ap (λ z. brought arc z q) own_new ∙ brings q)
      where
        zero_plus : i ≡ 0 + i
        zero_plus = omega arith

        unknown : (j : ℕ) → (j ≡ i → ⊥) → unlinked (before ++ a ∷ []) (0 + j) ≡ true → is_linked before j ≡ false
        unknown j ne known = sym (linked_more before b i j ne)
            ∙ off _ (subst (λ l. unlinked (before ++ a ∷ []) l ≡ true) (omega arith) known)
          where
            off : (x : Bool) → not x ≡ true → x ≡ false
            off true e = absurd (cc)
            off false e = refl

    -- the block itself isn't one that is there
    apart : (q : ℕ) → is_there before q ≡ true → b ≡ q → ⊥
    apart q h e = both_ways _ k.new (subst (λ c. is_there before c ≡ true) (sym e) h)

    waiting : (q j : ℕ) → is_there before q ≡ true → link_of came q ≡ Some j → get_or new j (pos 0)
        ≡ surplus (unlinked before) q 0 net.arcs new
    waiting q j h e =
        let w : j < length ys = (let l = link_within net came t q j e in let m = pending.long in let n = long in
        omega (arith, l, m, n)) in
        let more = add_link came (one_each net came t) p q j surplus_here ys e w in
        let same = others j (λ s. not_of q i h k.unused (e ∙ ap Some s)) in
        let was = pending.waiting q j (there_more before (a ∷ []) q h) e in
        let none = cond-false (b == q) surplus_here (pos 0) (ne_eqb b q (apart q h)) in
        over _ _ _ _ _ _ _ more same was (brings_new q) none
      where
        over : (g1 g2 g3 s more c d : ℤ) → g3 ≡ g2 +ℤ c → g2 ≡ g1 → g1 ≡ s → more ≡ s +ℤ (c -ℤ d) → d ≡ pos 0 → g3 ≡
            more
        over g1 g2 g3 s more c d h k l m n = omega (arith, ints, h, k, l, m, n)

    even : (q : ℕ) → is_there before q ≡ false → q < net.blocks → (q ≡ 0 → ⊥)
        → surplus (unlinked before) q 0 net.arcs new ≡ pos 0
    even q gone l ne = elim (cases_eq b q) [
      | inl same ↦
          (let was = pending.waiting b i (there_last before a)
          (ap (λ (l : List Arrival). link_of l b) k.whole ∙ link_next before rest a k.new) in
          let mine = cond-true (b == q) surplus_here (pos 0) (eq-eqb b q same) in
          let none = cond-false (p == q) surplus_here (pos 0) (ne_eqb p q (not_there p there)) in
          last _ _ _ _ _ (brings_new q)
          (ap (λ c. surplus (unlinked (before ++ a ∷ [])) c 0 net.arcs xs) (sym same) ∙ sym was) mine none)
      | inr other ↦
          (let was = pending.even q
          (is_there_append before (a ∷ []) q ∙ or_from _ _ gone (or_from _ _ (ne_eqb b q other) refl)) l ne in
          let mine = cond-false (b == q) surplus_here (pos 0) (ne_eqb b q other) in
          let none = cond-false (p == q) surplus_here (pos 0) (ne_eqb p q (not_there p there)) in
          rest_ _ _ _ _ (brings_new q) was mine none)
    ]
      where
        not_there : (p : ℕ) → is_there before p ≡ true → p ≡ q → ⊥
        not_there p h e = both_ways _ gone (subst (λ c. is_there before c ≡ true) e h)

        last : (more s c d e : ℤ) → more ≡ s +ℤ (c -ℤ d) → s ≡ e → d ≡ e → c ≡ pos 0 → more ≡ pos 0
        last more s c d e h k l m = omega (arith, ints, h, k, l, m)

        rest_ : (more s c d : ℤ) → more ≡ s +ℤ (c -ℤ d) → s ≡ pos 0 → d ≡ pos 0 → c ≡ pos 0 → more ≡ pos 0
        rest_ more s c d h k l m = omega (arith, ints, h, k, l, m)

-- the other end of the arc by which a block came is there
abbrev pub OtherEnd : List Arrival → ℕ → FlowArc → Type 0
OtherEnd before b arc = ((arc.from ≡ b) × (is_there before arc.to ≡ true))
    ⊎ ((arc.to ≡ b) × (is_there before arc.from ≡ true))

-- what holds of both forms of an arc holds of its taking up
pub take_up_cases : (came before : List Arrival) (b i : ℕ) (arc : FlowArc) (xs : List ℤ) (P : List ℤ → Type 0)
    → is_there before b ≡ false → OtherEnd before b arc
    → (arc.to ≡ b → is_there before arc.from ≡ true
    → P (add_at came arc.from (get_or xs i (pos 0)) (set xs i (neg_ℤ (get_or xs i (pos 0))))))
    → (arc.from ≡ b → is_there before arc.to ≡ true → P (add_at came arc.to (get_or xs i (pos 0)) xs))
    → P (take_up came b i (Some arc) xs)
take_up_cases came before b i arc xs P new (inl h) into out =
    subst P (sym (cond-false (arc.to == b)
    (add_at came arc.from (get_or xs i (pos 0)) (set xs i (neg_ℤ (get_or xs i (pos 0)))))
    (add_at came arc.to (get_or xs i (pos 0)) xs)
    (ne_eqb arc.to b (λ e. both_ways _ new (subst (λ c. is_there before c ≡ true) e h.1)))))
    (out h.0 h.1)
take_up_cases came before b i arc xs P new (inr h) into out =
    subst P (sym (cond-true (arc.to == b)
    (add_at came arc.from (get_or xs i (pos 0)) (set xs i (neg_ℤ (get_or xs i (pos 0)))))
    (add_at came arc.to (get_or xs i (pos 0)) xs) (eq-eqb arc.to b h.0)))
    (into h.0 h.1)

settle_some : (net : NetValue) (came before rest : List Arrival) (b i : ℕ) (arc : FlowArc) → Tree net came
    → Taking net came before rest b i arc → OtherEnd before b arc → (xs : List ℤ)
    → Pending net came (before ++ record { block = b; link = Some i } ∷ []) xs
    → Pending net came before (take_up came b i (Some arc) xs)
settle_some net came before rest b i arc t k joins xs pending =
    take_up_cases came before b i arc xs (Pending net came before) k.new joins
    (λ mine there. settle_core net came before rest b i arc t k arc.from (neg_ℤ e) xs (set xs i (neg_ℤ e)) there
    (length-set xs i (neg_ℤ e)) (get_or-set_same xs i (neg_ℤ e) (pos 0) within)
    (λ j ne. get_or-set_other xs i j (neg_ℤ e) (pos 0) ne)
    (λ q. ap (λ c. cond (c == q) (neg_ℤ e) (pos 0) -ℤ cond (arc.from == q) (neg_ℤ e) (pos 0)) mine
    ∙ turned (b == q) (arc.from == q)) pending)
    (λ mine there. settle_core net came before rest b i arc t k arc.to e xs xs there refl refl (λ j ne. refl)
    (λ q. ap (λ c. cond (arc.to == q) e (pos 0) -ℤ cond (c == q) e (pos 0)) mine) pending)
  where
    e : ℤ
    e = get_or xs i (pos 0)

    within : i < length xs
    within = let l = slice_get_within net.arcs i arc k.at in let m = pending.long in omega (arith, l, m)

    turned : (x y : Bool) → cond x (neg_ℤ e) (pos 0) -ℤ cond y (neg_ℤ e) (pos 0)
        ≡ cond y e (pos 0) -ℤ cond x e (pos 0)
    turned true true = omega (arith, ints)
    turned true false = omega (arith, ints)
    turned false true = omega (arith, ints)
    turned false false = omega (arith, ints)

-- ---- a block that came by the unwritten arc

settle_none : (net : NetValue) (came before : List Arrival) (b : ℕ) → b ≡ 0 → (xs : List ℤ)
    → Pending net came (before ++ record { block = b; link = None } ∷ []) xs → Pending net came before xs
settle_none net came before b entry xs pending = record {
  long = pending.long;
  waiting = λ q j h e. pending.waiting q j (there_more before (a ∷ []) q h) e ∙ same q;
  even = λ q gone l ne. sym (same q) ∙ pending.even q
      (is_there_append before (a ∷ []) q ∙ or_from _ _ gone
      (or_from _ _ (ne_eqb b q (λ e. ne (sym e ∙ entry))) refl)) l ne;
}
  where
    a : Arrival
    a = record { block = b; link = None }

    linked : (k : ℕ) → is_linked (before ++ a ∷ []) k ≡ is_linked before k
    linked k = is_linked_append before (a ∷ []) k ∙ go (is_linked before k)
      where
        go : (x : Bool) → (x || (false || false)) ≡ x
        go true = refl
        go false = refl

    same : (q : ℕ) → surplus (unlinked (before ++ a ∷ [])) q 0 net.arcs xs ≡ surplus (unlinked before) q 0 net.arcs xs
    same q = surplus_same (unlinked (before ++ a ∷ [])) (unlinked before) q 0 net.arcs xs xs refl
        (λ k l. ap not (linked (0 + k))) (λ k e. refl)

-- ---- all blocks

-- A claim over numbers that each settling keeps holds when all of these blocks were taken.
pub by_settling : (net : NetValue) (came : List Arrival) (P : List Arrival → List ℤ → Type 0)
    → ((before : List Arrival) (b : ℕ) (xs : List ℤ) → b ≡ 0
    → P (before ++ record { block = b; link = None } ∷ []) xs → P before xs)
    → ((before rest : List Arrival) (b i : ℕ) (arc : FlowArc) (xs : List ℤ) → Taking net came before rest b i arc
    → OtherEnd before b arc → P (before ++ record { block = b; link = Some i } ∷ []) xs
    → P before (take_up came b i (Some arc) xs))
    → (before rest : List Arrival) → came ≡ before ++ rest → Inner net.arcs before → Grown net.arcs before rest
    → (xs : List ℤ) → P came xs → P before (gathered net.arcs came (order_of rest) xs)
by_settling net came P none some before [] whole inner grown xs p =
    subst (λ (l : List Arrival). P l xs) (whole ∙ append-nil before) p
by_settling net came P none some before (a ∷ rest) whole inner grown xs p =
    step a.block a.link grown.0 grown.1 whole
    (by_settling net came P none some (before ++ a ∷ []) rest (whole ∙ sym (append_assoc before (a ∷ []) rest))
    (inner_more net.arcs before a inner grown.1) grown.2 xs p)
  where
    ys : List ℤ
    ys = gathered net.arcs came (order_of rest) xs

    step : (b : ℕ) (link : Option ℕ) → is_there before b ≡ false → Came net.arcs before b link
        → came ≡ before ++ record { block = b; link = link } ∷ rest
        → P (before ++ record { block = b; link = link } ∷ []) ys
        → P before (settled net.arcs came b ys)
    step b None new by_ e h =
        let own : link_of came b ≡ None = ap (λ (l : List Arrival). link_of l b) e
        ∙ link_next before rest (record { block = b; link = None }) new in
        subst (λ (o : Option ℕ). P before (settled_by net.arcs came b o ys)) (sym own) (none before b ys by_ h)
    step b (Some i) new by_ e h =
        let own : link_of came b ≡ Some i = ap (λ (l : List Arrival). link_of l b) e
        ∙ link_next before rest (record { block = b; link = Some i }) new in
        subst (λ (o : Option ℕ). P before (settled_by net.arcs came b o ys)) (sym own)
        (subst (λ (o : Option FlowArc). P before (take_up came b i o ys)) (sym by_.1)
        (some before rest b i by_.0 ys
        (record { whole = e; new = new; unused = fresh net.arcs before b i inner by_ new; at = by_.1 })
        by_.3 h))

-- When all blocks but the exit were taken, only the exit and the entry may have a surplus.
pub all_even : (net : NetValue) (came : List Arrival) (t : Tree net came) → (xs : List ℤ) → Pending net came came xs
    → Inner net.arcs exit_alone → Pending net came exit_alone (gathered net.arcs came (order_of t.rest) xs)
all_even net came t xs pending inner =
    by_settling net came (Pending net came) (λ before b xs e p. settle_none net came before b e xs p)
    (λ before rest b i arc xs k joins p. settle_some net came before rest b i arc t k joins xs p)
    exit_alone t.rest t.first inner t.grown xs pending

-- the exit came by no arc, so it is taken without a change
pub exit_first : (net : NetValue) (came : List Arrival) (t : Tree net came) → (xs : List ℤ)
    → gathered net.arcs came (order_of came) xs ≡ gathered net.arcs came (order_of t.rest) xs
exit_first net came t xs =
    ap (λ (l : List Arrival). gathered net.arcs came (order_of l) xs) t.first
    ∙ ap (λ (o : Option ℕ). settled_by net.arcs came 1 o (gathered net.arcs came (order_of t.rest) xs))
    (ap (λ (l : List Arrival). link_of l 1) t.first)
