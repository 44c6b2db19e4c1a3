-- The numbers that are found are the only ones that agree with the counters and balance.
use Rattle.std.proofs.Common.{◌≡◌, refl, sym, ap, subst, ◌∙◌, ℕ, zero, suc, ◌+◌, ◌<◌, ◌≤◌, ◌==◌, List, [], ◌∷◌, ◌++◌}
use Rattle.std.proofs.Common.{length, get_or, set, map, Bool, true, false, cond, ◌||◌, ◌⊎◌, inl, inr, arith}
use Rattle.std.proofs.Common.{pos, ◌+ℤ◌, neg_ℤ, eq-eqb}
use Rattle.std.specs.Prelude.{ℤ, Option, Some, None, slice_get, ◌-ℤ◌, replicate}
use Rattle.std.specs.List.{All}
use Rattle.std.proofs.lemmas.Bool.{both_ways, cond-true, cond-false, cases_eq, cases_Bool, ne_eqb, or_from}
use Rattle.std.proofs.lemmas.Int.{ints}
use Rattle.std.proofs.lemmas.List.{length-replicate, get_or-set_other}
use Rattle.std.proofs.lemmas.List.Elements.{All-replicate}
use Rattle.cov_base.specs.declared.net.FlowArc.{FlowArc}
use Rattle.cov_base.specs.Net.{NetValue, IsNet}
use Rattle.cov_base.proofs.NetLaws.{HasShape-from_IsNet}
use Rattle.span_tree.specs.declared.arrival.Arrival.{Arrival}
use Rattle.span_tree.specs.Tree.{exit_alone, arrivals, is_there, is_linked, link_of, order_of, off_from, off}
use Rattle.span_tree.specs.Circulation.{sum_in, sum_out, at_block, Balance, IsCirculation}
use Rattle.span_tree.proofs.Grown.{Grown}
use Rattle.span_tree.proofs.Spans.{spans}
use Rattle.span_tree.proofs.Unique.{one_circulation, inside}
use Rattle.flow_solver.specs.Circulation.{Circulation, HasOneCirculation}
use Rattle.flow_solver.specs.Solving.{add_to, add_at, take_up, settled_by, settled, gathered, spread}
use Rattle.flow_solver.proofs.Surplus.{surplus, surplus_all, total, total_surplus, total_two}
use Rattle.flow_solver.proofs.Links.{Tree, tree_of, inner_exit, link_linked}
use Rattle.flow_solver.proofs.Spreading.{Placed, placed_start, spread_placed, spread_agrees, spread_long, add_other}
use Rattle.flow_solver.proofs.Gathering.{Pending, unlinked, pending_start, all_even, exit_first}

-- the numbers that are found from places that are clear
abbrev pub found : NetValue → List ℕ → List ℤ → List ℤ
found net given clear =
    gathered net.arcs (arrivals net) (order_of (arrivals net)) (spread (arrivals net) 0 net.arcs given clear)

-- ---- balance

balanced : (net : NetValue) (came : List Arrival) (xs : List ℤ) → IsNet net → Pending net came exit_alone xs
    → IsCirculation net xs
balanced net came xs is p = record { long = p.long; back = back; balance = balance }
  where
    back : ℤ
    back = sum_out 0 net.arcs xs -ℤ sum_in 0 net.arcs xs

    least : 3 ≤ net.blocks
    least = (HasShape-from_IsNet net is).least

    brings : (b : ℕ) → surplus (unlinked exit_alone) b 0 net.arcs xs ≡ sum_in b net.arcs xs -ℤ sum_out b net.arcs xs
    brings b = surplus_all (unlinked exit_alone) b 0 net.arcs xs (λ k. refl)

    even : (b : ℕ) → b < net.blocks → (b ≡ 0 → ⊥) → (b ≡ 1 → ⊥) → surplus (unlinked exit_alone) b 0 net.arcs xs ≡ pos 0
    even b l not_entry not_exit = p.even b (or_from _ _ (ne_eqb 1 b (λ e. not_exit (sym e))) refl) l not_entry

    both : surplus (unlinked exit_alone) 0 0 net.arcs xs +ℤ surplus (unlinked exit_alone) 1 0 net.arcs xs ≡ pos 0
    both = sym (total_two net.blocks (λ b. surplus (unlinked exit_alone) b 0 net.arcs xs)
        (let l = least in omega (arith, l))
        (λ b low high. even b high (λ e. omega (arith, e, low)) (λ e. omega (arith, e, low))))
        ∙ total_surplus net.blocks 0 (unlinked exit_alone) net.arcs xs (λ k arc at. inside net is k arc at)

    balance : Balance net xs back
    balance b l = elim (cases_eq b 0) [
      | inl entry ↦
          (let first = cond-true (b == 0) back (pos 0) (eq-eqb b 0 entry) in
          let second = cond-false (b == 1) back (pos 0) (ne_eqb b 1 (λ e. omega (arith, e, entry))) in
          at_entry (sum_in b net.arcs xs) (sum_out b net.arcs xs) (at_block 0 back b) (at_block 1 back b)
          (sum_in 0 net.arcs xs) (sum_out 0 net.arcs xs) first second (ap (λ c. sum_in c net.arcs xs) entry)
          (ap (λ c. sum_out c net.arcs xs) entry))
      | inr inner ↦ elim (cases_eq b 1) [
        | inl last ↦
            (let first = cond-false (b == 0) back (pos 0) (ne_eqb b 0 inner) in
            let second = cond-true (b == 1) back (pos 0) (eq-eqb b 1 last) in
            at_exit (sum_in b net.arcs xs) (sum_out b net.arcs xs) (at_block 0 back b) (at_block 1 back b)
            (sum_in 0 net.arcs xs) (sum_out 0 net.arcs xs) (sum_in 1 net.arcs xs) (sum_out 1 net.arcs xs) first
            second (ap (λ c. sum_in c net.arcs xs) last)
            (ap (λ c. sum_out c net.arcs xs) last) both (brings 0) (brings 1))
        | inr other ↦
            (let first = cond-false (b == 0) back (pos 0) (ne_eqb b 0 inner) in
            let second = cond-false (b == 1) back (pos 0) (ne_eqb b 1 other) in
            at_other (sum_in b net.arcs xs) (sum_out b net.arcs xs) (at_block 0 back b) (at_block 1 back b)
            (surplus (unlinked exit_alone) b 0 net.arcs xs) first second (even b l inner other) (brings b))
      ]
    ]
      where
        at_entry : (i o f s in0 out0 : ℤ) → f ≡ out0 -ℤ in0 → s ≡ pos 0 → i ≡ in0 → o ≡ out0 → i +ℤ f ≡ o +ℤ s
        at_entry i o f s in0 out0 a b c d = omega (arith, ints, a, b, c, d)

        at_exit : (i o f s in0 out0 in1 out1 : ℤ) → f ≡ pos 0 → s ≡ out0 -ℤ in0 → i ≡ in1 → o ≡ out1
            → surplus (unlinked exit_alone) 0 0 net.arcs xs +ℤ surplus (unlinked exit_alone) 1 0 net.arcs xs ≡ pos 0
            → surplus (unlinked exit_alone) 0 0 net.arcs xs ≡ in0 -ℤ out0
            → surplus (unlinked exit_alone) 1 0 net.arcs xs ≡ in1 -ℤ out1 → i +ℤ f ≡ o +ℤ s
        at_exit i o f s in0 out0 in1 out1 a b c d e g h = omega (arith, ints, a, b, c, d, e, g, h)

        at_other : (i o f s more : ℤ) → f ≡ pos 0 → s ≡ pos 0 → more ≡ pos 0 → more ≡ i -ℤ o → i +ℤ f ≡ o +ℤ s
        at_other i o f s more a b c d = omega (arith, ints, a, b, c, d)

-- ---- agreement

-- the arcs off the tree keep their numbers
settled_off : (arcs : List FlowArc) (came : List Arrival) (b : ℕ) (xs : List ℤ) (k : ℕ) → is_linked came k ≡ false
    → get_or (settled arcs came b xs) k (pos 0) ≡ get_or xs k (pos 0)
settled_off arcs came b xs k off = go (link_of came b) refl
  where
    not_of : (t : ℕ) → link_of came t ≡ Some k → ⊥
    not_of t e = both_ways _ off (link_linked came t k e)

    up : (i : ℕ) (o : Option FlowArc) → (k ≡ i → ⊥) → get_or (take_up came b i o xs) k (pos 0) ≡ get_or xs k (pos 0)
    up i None ne = refl
    up i (Some arc) ne = by (arc.to == b)
      where
        e : ℤ
        e = get_or xs i (pos 0)

        by : (x : Bool) → get_or (cond x (add_at came arc.from e (set xs i (neg_ℤ e))) (add_at came arc.to e xs)) k
            (pos 0)
            ≡ get_or xs k (pos 0)
        by true = add_other (link_of came arc.from) e (set xs i (neg_ℤ e)) k (not_of arc.from)
            ∙ get_or-set_other xs i k (neg_ℤ e) (pos 0) ne
        by false = add_other (link_of came arc.to) e xs k (not_of arc.to)

    go : (o : Option ℕ) → link_of came b ≡ o → get_or (settled_by arcs came b o xs) k (pos 0) ≡ get_or xs k (pos 0)
    go None e = refl
    go (Some i) e = up i (slice_get arcs i) (λ s. not_of b (e ∙ ap Some (sym s)))

gathered_off : (arcs : List FlowArc) (came : List Arrival) (bs : List ℕ) (xs : List ℤ) (k : ℕ)
    → is_linked came k ≡ false → get_or (gathered arcs came bs xs) k (pos 0) ≡ get_or xs k (pos 0)
gathered_off arcs came [] xs k off = refl
gathered_off arcs came (b ∷ bs) xs k off =
    settled_off arcs came b (gathered arcs came bs xs) k off ∙ gathered_off arcs came bs xs k off

off_same : (came : List Arrival) (xs ys : List ℤ)
    → ((k : ℕ) → is_linked came k ≡ false → get_or xs k (pos 0) ≡ get_or ys k (pos 0)) → (i n : ℕ)
    → map (λ k. get_or xs k (pos 0)) (off_from came i n) ≡ map (λ k. get_or ys k (pos 0)) (off_from came i n)
off_same came xs ys same i zero = refl
off_same came xs ys same i (suc n) = go (is_linked came i) refl (off_same came xs ys same (suc i) n)
  where
    go : (x : Bool) → is_linked came i ≡ x → map (λ k. get_or xs k (pos 0)) (off_from came (suc i) n)
        ≡ map (λ k. get_or ys k (pos 0)) (off_from came (suc i) n)
        → map (λ k. get_or xs k (pos 0)) (cond x (off_from came (suc i) n) (i ∷ off_from came (suc i) n))
        ≡ map (λ k. get_or ys k (pos 0)) (cond x (off_from came (suc i) n) (i ∷ off_from came (suc i) n))
    go true e r = r
    go false e r = pair _ _ _ _ (same i e) r
      where
        pair : (x y : ℤ) (xs ys : List ℤ) → x ≡ y → xs ≡ ys → x ∷ xs ≡ y ∷ ys
        pair x y xs ys h k = rw (h, k) refl

-- ---- the numbers

pub found_is : (net : NetValue) → IsNet net → (given : List ℕ) (clear : List ℤ) → length given ≡ length (off net)
    → length clear ≡ length net.arcs → All (λ x. x ≡ pos 0) clear → Circulation net given (found net given clear)
found_is net is given clear many long zeros = record {
  agrees = off_same (arrivals net) (found net given clear) spread_ (λ k off. gathered_off net.arcs (arrivals net)
      (order_of (arrivals net)) spread_ k off) 0 (length net.arcs)
      ∙ spread_agrees (arrivals net) 0 net.arcs given clear (omega (arith, long)) many;
  circulates = balanced net (arrivals net) (found net given clear) is
      (subst (Pending net (arrivals net) exit_alone) (sym (exit_first net (arrivals net) t spread_))
      (all_even net (arrivals net) t spread_ pending (inner_exit net.arcs)));
}
  where
    t : Tree net (arrivals net)
    t = tree_of net is

    spread_ : List ℤ
    spread_ = spread (arrivals net) 0 net.arcs given clear

    pending : Pending net (arrivals net) (arrivals net) spread_
    pending = pending_start net (arrivals net) t (λ b l. spans net is b l) spread_
        (subst (λ n. Placed net (arrivals net) n spread_) (omega arith)
        (spread_placed net (arrivals net) t 0 net.arcs given clear
        (λ k arc at. subst (λ j. slice_get net.arcs j ≡ Some arc) (omega arith) at) many
        (placed_start net (arrivals net) clear long zeros)))

-- the arcs off the tree have the same numbers in both
off_agree : (came : List Arrival) (xs ys : List ℤ) (i n : ℕ)
    → map (λ k. get_or xs k (pos 0)) (off_from came i n) ≡ map (λ k. get_or ys k (pos 0)) (off_from came i n)
    → (k : ℕ) → i ≤ k → k < i + n → is_linked came k ≡ false → get_or xs k (pos 0) ≡ get_or ys k (pos 0)
off_agree came xs ys i zero e k low high off = absurd (omega (arith, low, high))
off_agree came xs ys i (suc n) e k low high off =
    go (is_linked came i) refl e (λ e l. off_agree came xs ys (suc i) n e k l (omega (arith, high)) off) (cases_eq k i)
  where
    go : (x : Bool) → is_linked came i ≡ x
        → map (λ k. get_or xs k (pos 0)) (cond x (off_from came (suc i) n) (i ∷ off_from came (suc i) n))
        ≡ map (λ k. get_or ys k (pos 0)) (cond x (off_from came (suc i) n) (i ∷ off_from came (suc i) n))
        → (map (λ k. get_or xs k (pos 0)) (off_from came (suc i) n)
        ≡ map (λ k. get_or ys k (pos 0)) (off_from came (suc i) n) → suc i ≤ k
        → get_or xs k (pos 0) ≡ get_or ys k (pos 0))
        → (k ≡ i) ⊎ (k ≡ i → ⊥) → get_or xs k (pos 0) ≡ get_or ys k (pos 0)
    go true f e rec (inl same) = absurd (both_ways _ off (subst (λ j. is_linked came j ≡ true) (sym same) f))
    go true f e rec (inr other) = rec e (omega (arith, low, other))
    go false f e rec (inl same) =
        subst (λ j. get_or xs j (pos 0) ≡ get_or ys j (pos 0)) (sym same) (heads _ _ _ _ e)
      where
        heads : (x y : ℤ) (xs ys : List ℤ) → x ∷ xs ≡ y ∷ ys → x ≡ y
        heads x y xs ys h = cc
    go false f e rec (inr other) = rec (tails _ _ _ _ e) (omega (arith, low, other))
      where
        tails : (x y : ℤ) (xs ys : List ℤ) → x ∷ xs ≡ y ∷ ys → xs ≡ ys
        tails x y xs ys h = cc

-- Whatever the counters say, there are such numbers, and no others.
pub has_one : (net : NetValue) → IsNet net → HasOneCirculation net
has_one net is = record {
  there = λ given many. (
    found net given (replicate (length net.arcs) (pos 0)),
    found_is net is given (replicate (length net.arcs) (pos 0)) many (length-replicate (length net.arcs) (pos 0))
        (All-replicate (λ x. x ≡ pos 0) (length net.arcs) (pos 0) refl),
  );
  one = λ given xs ys x y.
      (one_circulation net is xs ys x.circulates y.circulates
      (λ i l off. off_agree (arrivals net) xs ys 0 (length net.arcs) (x.agrees ∙ sym y.agrees) i (omega arith)
      (omega (arith, l)) off)).0;
}

-- what the steps give from clear places
pub solved_is : (net : NetValue) (came : List Arrival) (given : List ℕ) (clear put out : List ℤ) → IsNet net
    → came ≡ arrivals net → length given ≡ length (off net) → length clear ≡ length net.arcs
    → All (λ x. x ≡ pos 0) clear → put ≡ spread came 0 net.arcs given clear
    → out ≡ gathered net.arcs came (order_of came) put → Circulation net given out
solved_is net came given clear put out is tree many long zeros p o =
    subst (Circulation net given) (sym (o ∙ (ap (gathered net.arcs came (order_of came)) p
    ∙ ap (λ (l : List Arrival). gathered net.arcs l (order_of l) (spread l 0 net.arcs given clear)) tree)))
    (found_is net is given clear many long zeros)
