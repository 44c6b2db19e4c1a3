-- Each counter's number is put on its arc and brought to the ends of the arc.
use Rattle.std.proofs.Common.{◌≡◌, refl, sym, ap, subst, ◌∙◌, ℕ, zero, suc, ◌+◌, ◌<◌, ◌≤◌, ◌==◌, List, [], ◌∷◌}
use Rattle.std.proofs.Common.{length, get_or, set, drop, map, Bool, true, false, cond, not, ◌&&◌, ◌⊎◌, inl, inr, arith}
use Rattle.std.proofs.Common.{pos, ◌+ℤ◌, neg_ℤ, ltb, zero-le}
use Rattle.std.specs.Prelude.{ℤ, Option, Some, None, slice_get, ◌-ℤ◌}
use Rattle.std.specs.List.{All}
use Rattle.std.proofs.lemmas.Bool.{both_ways, cond-true, cond-false, cases_eq, cases_lt, cases_Bool, and_left}
use Rattle.std.proofs.lemmas.Bool.{and_parts}
use Rattle.std.proofs.lemmas.Bool.{lt-ltb, le-ltb, ne_eqb, and_from}
use Rattle.std.proofs.Common.{eq-eqb}
use Rattle.std.proofs.lemmas.Int.{ints}
use Rattle.std.proofs.lemmas.Option.{slice_get_within}
use Rattle.std.proofs.lemmas.List.{get_or_past, get_or-set_same, get_or-set_other, length-set}
use Rattle.cov_base.specs.declared.net.FlowArc.{FlowArc}
use Rattle.cov_base.specs.Net.{NetValue}
use Rattle.span_tree.specs.declared.arrival.Arrival.{Arrival}
use Rattle.span_tree.specs.Tree.{is_linked, link_of, off_from}
use Rattle.flow_solver.specs.Solving.{add_to, add_at, put_along, put_first, numbers_with, counters_behind, spread}
use Rattle.flow_solver.proofs.Surplus.{brought, surplus, surplus_same, surplus_more, surplus_none}
use Rattle.flow_solver.proofs.Links.{OneEach, Tree, link_linked, link_within, one_each}

-- ---- one number

pub add_long : (o : Option ℕ) (n : ℤ) (xs : List ℤ) → length (add_to o n xs) ≡ length xs
add_long None n xs = refl
add_long (Some i) n xs = length-set xs i (get_or xs i (pos 0) +ℤ n)

pub add_other : (o : Option ℕ) (n : ℤ) (xs : List ℤ) (k : ℕ) → (o ≡ Some k → ⊥)
    → get_or (add_to o n xs) k (pos 0) ≡ get_or xs k (pos 0)
add_other None n xs k h = refl
add_other (Some i) n xs k h =
    get_or-set_other xs i k (get_or xs i (pos 0) +ℤ n) (pos 0) (λ e. h (ap Some (sym e)))

-- in the place of a block's arc the number of the block is added, and of no other
pub add_link : (came : List Arrival) → OneEach came → (t b j : ℕ) (n : ℤ) (xs : List ℤ) → link_of came b ≡ Some j
    → j < length xs
    → get_or (add_at came t n xs) j (pos 0) ≡ get_or xs j (pos 0) +ℤ cond (t == b) n (pos 0)
add_link came one t b j n xs e within = elim (cases_eq t b) [
  | inl same ↦
      (let here : link_of came t ≡ Some j = ap (link_of came) same ∙ e in
      ap (λ (o : Option ℕ). get_or (add_to o n xs) j (pos 0)) here
      ∙ get_or-set_same xs j (get_or xs j (pos 0) +ℤ n) (pos 0) within
      ∙ ap (λ d. get_or xs j (pos 0) +ℤ d) (sym (cond-true (t == b) n (pos 0) (eq-eqb t b same))))
  | inr other ↦
      over _ _ _ (add_other (link_of came t) n xs j (λ h. other (one t b j h e)))
      (cond-false (t == b) n (pos 0) (ne_eqb t b other))
]
  where
    over : (x y c : ℤ) → x ≡ y → c ≡ pos 0 → x ≡ y +ℤ c
    over x y c h k = omega (arith, ints, h, k)

pub put_long : (came : List Arrival) (i : ℕ) (arc : FlowArc) (n : ℤ) (xs : List ℤ)
    → length (put_along came i arc n xs) ≡ length xs
put_long came i arc n xs =
    add_long (link_of came arc.from) (neg_ℤ n) (add_at came arc.to n (set xs i n))
    ∙ (add_long (link_of came arc.to) n (set xs i n) ∙ length-set xs i n)

-- off the tree nothing is added
off_other : (came : List Arrival) (t k : ℕ) → is_linked came k ≡ false → link_of came t ≡ Some k → ⊥
off_other came t k off e = both_ways _ off (link_linked came t k e)

put_at : (came : List Arrival) (i : ℕ) (arc : FlowArc) (n : ℤ) (xs : List ℤ) (k : ℕ) → is_linked came k ≡ false
    → get_or (put_along came i arc n xs) k (pos 0) ≡ get_or (set xs i n) k (pos 0)
put_at came i arc n xs k off =
    add_other (link_of came arc.from) (neg_ℤ n) (add_at came arc.to n (set xs i n)) k (off_other came arc.from k off)
    ∙ add_other (link_of came arc.to) n (set xs i n) k (off_other came arc.to k off)

pub put_other : (came : List Arrival) (i : ℕ) (arc : FlowArc) (n : ℤ) (xs : List ℤ) (k : ℕ) → is_linked came k ≡ false
    → (k ≡ i → ⊥) → get_or (put_along came i arc n xs) k (pos 0) ≡ get_or xs k (pos 0)
put_other came i arc n xs k off ne = put_at came i arc n xs k off ∙ get_or-set_other xs i k n (pos 0) ne

pub put_own : (came : List Arrival) (i : ℕ) (arc : FlowArc) (n : ℤ) (xs : List ℤ) → is_linked came i ≡ false
    → i < length xs → get_or (put_along came i arc n xs) i (pos 0) ≡ n
put_own came i arc n xs off within = put_at came i arc n xs i off ∙ get_or-set_same xs i n (pos 0) within

-- ---- what is known on the way

-- the arcs off the tree below i
abbrev pub known_upto : List Arrival → ℕ → ℕ → Bool
known_upto came i k = ltb k i && not (is_linked came k)

upto_other : (came : List Arrival) (i k : ℕ) → (k ≡ i → ⊥) → known_upto came i k ≡ known_upto came (suc i) k
upto_other came i k ne = ap (λ x. x && not (is_linked came k)) (elim (cases_lt k i) [
  | inl l ↦ lt-ltb k i l ∙ sym (lt-ltb k (suc i) (omega (arith, l)))
  | inr past ↦ le-ltb k i past ∙ sym (le-ltb k (suc i) (omega (arith, past, ne)))
])

and_false : (x y : Bool) → y ≡ false → (x && y) ≡ false
and_false true y e = e
and_false false y e = refl

upto_linked : (came : List Arrival) (i : ℕ) → is_linked came i ≡ true → (k : ℕ)
    → known_upto came i k ≡ known_upto came (suc i) k
upto_linked came i on k = elim (cases_eq k i) [
  | inl same ↦
      (let gone : not (is_linked came k) ≡ false = ap not (ap (is_linked came) same ∙ on) in
      and_false (ltb k i) _ gone ∙ sym (and_false (ltb k (suc i)) _ gone))
  | inr other ↦ upto_other came i k other
]

upto_off : (came : List Arrival) (i k : ℕ) → known_upto came i k ≡ true → is_linked came k ≡ false
upto_off came i k e = go (is_linked came k) (and_parts (ltb k i) (not (is_linked came k)) e).1
  where
    go : (x : Bool) → not x ≡ true → x ≡ false
    go true e = absurd (cc)
    go false e = refl

-- in the place of each block's arc stands what the known arcs bring to the block
pub record Placed (net : NetValue) (came : List Arrival) (i : ℕ) (xs : List ℤ) : Type 0 where
  pub long : length xs ≡ length net.arcs
  pub waiting : (b j : ℕ) → link_of came b ≡ Some j → get_or xs j (pos 0)
      ≡ surplus (known_upto came i) b 0 net.arcs xs

zero_at : (xs : List ℤ) → All (λ x. x ≡ pos 0) xs → (j : ℕ) → get_or xs j (pos 0) ≡ pos 0
zero_at xs all j = elim (cases_lt j (length xs)) [
  | inl l ↦ all j (pos 0) l
  | inr past ↦ get_or_past xs j (pos 0) past
]

pub placed_start : (net : NetValue) (came : List Arrival) (xs : List ℤ) → length xs ≡ length net.arcs
    → All (λ x. x ≡ pos 0) xs → Placed net came 0 xs
placed_start net came xs long all = record {
  long = long;
  waiting = λ b j e. zero_at xs all j
      ∙ sym (surplus_none (known_upto came 0) b 0 net.arcs xs (λ k. and_left _ _ (le-ltb (0 + k) 0 zero-le)));
}

placed_on : (net : NetValue) (came : List Arrival) (i : ℕ) (xs : List ℤ) → is_linked came i ≡ true
    → Placed net came i xs → Placed net came (suc i) xs
placed_on net came i xs on p = record {
  long = p.long;
  waiting = λ b j e. p.waiting b j e
      ∙ surplus_same (known_upto came i) (known_upto came (suc i)) b 0 net.arcs xs xs refl
      (λ k l. upto_linked came i on (0 + k)) (λ k e. refl);
}

placed_off : (net : NetValue) (came : List Arrival) → Tree net came → (i : ℕ) (arc : FlowArc) (n : ℤ) (xs : List ℤ)
    → slice_get net.arcs i ≡ Some arc → is_linked came i ≡ false
    → Placed net came i xs → Placed net came (suc i) (put_along came i arc n xs)
placed_off net came t i arc n xs at off p =
    record { long = put_long came i arc n xs ∙ p.long; waiting = waiting }
  where
    new : List ℤ
    new = put_along came i arc n xs

    within : i < length xs
    within = let l = slice_get_within net.arcs i arc at in let e = p.long in omega (arith, l, e)

    own : get_or new i (pos 0) ≡ n
    own = put_own came i arc n xs off within

    brings : (b : ℕ) → surplus (known_upto came (suc i)) b 0 net.arcs new
        ≡ surplus (known_upto came i) b 0 net.arcs xs +ℤ brought arc n b
    brings b =
        surplus_more (known_upto came i) (known_upto came (suc i)) b 0 net.arcs xs new i arc
        (sym (put_long came i arc n xs)) (let e = put_long came i arc n xs in let w = within in omega (arith, e, w)) at
        (subst (λ k. known_upto came i k ≡ false) zero_plus (and_left _ _ (le-ltb i i (omega arith))))
        (subst (λ k. known_upto came (suc i) k ≡ true) zero_plus
        (and_from_true _ _ (lt-ltb i (suc i) (omega arith)) (ap not off)))
        (λ k ne. upto_other came i (0 + k) (λ e. ne (omega (arith, e))))
        (λ k ne known. sym (put_other came i arc n xs k
        (subst (λ j. is_linked came j ≡ false) (omega arith) (upto_off came i (0 + k) known)) ne))
        ∙ ap (λ z. surplus (known_upto came i) b 0 net.arcs xs +ℤ brought arc z b) own
      where
        zero_plus : i ≡ 0 + i
        zero_plus = omega arith

        and_from_true : (x y : Bool) → x ≡ true → y ≡ true → (x && y) ≡ true
        and_from_true true y e f = f
        and_from_true false y e f = absurd (cc)

    waiting : (b j : ℕ) → link_of came b ≡ Some j → get_or new j (pos 0)
        ≡ surplus (known_upto came (suc i)) b 0 net.arcs new
    waiting b j e =
        let w : j < length xs = (let l = link_within net came t b j e in let k = p.long in omega (arith, l, k)) in
        let ne : j ≡ i → ⊥ = (λ s. off_other came b i off (e ∙ ap Some s)) in
        let first = get_or-set_other xs i j n (pos 0) ne in
        let second = add_link came (one_each net came t) arc.to b j n (set xs i n) e
        (let l = length-set xs i n in omega (arith, w, l)) in
        let third = add_link came (one_each net came t) arc.from b j (neg_ℤ n) (add_at came arc.to n (set xs i n)) e
        (let l = length-set xs i n in let k = add_long (link_of came arc.to) n (set xs i n) in
        omega (arith, w, l, k)) in
        go (arc.to == b) (arc.from == b) _ _ _ _ _ _ first second third (p.waiting b j e) (brings b)
      where
        go : (x y : Bool) (g0 g1 g2 g3 s more : ℤ) → g1 ≡ g0 → g2 ≡ g1 +ℤ cond x n (pos 0)
            → g3 ≡ g2 +ℤ cond y (neg_ℤ n) (pos 0) → g0 ≡ s
            → more ≡ s +ℤ (cond x n (pos 0) -ℤ cond y n (pos 0)) → g3 ≡ more
        go true true g0 g1 g2 g3 s more a b c d e = omega (arith, ints, a, b, c, d, e)
        go true false g0 g1 g2 g3 s more a b c d e = omega (arith, ints, a, b, c, d, e)
        go false true g0 g1 g2 g3 s more a b c d e = omega (arith, ints, a, b, c, d, e)
        go false false g0 g1 g2 g3 s more a b c d e = omega (arith, ints, a, b, c, d, e)

-- ---- all numbers

pub spread_placed : (net : NetValue) (came : List Arrival) → Tree net came → (i : ℕ) (rest : List FlowArc)
    (given : List ℕ) (xs : List ℤ)
    → ((k : ℕ) (arc : FlowArc) → slice_get rest k ≡ Some arc → slice_get net.arcs (i + k) ≡ Some arc)
    → length given ≡ length (off_from came i (length rest)) → Placed net came i xs
    → Placed net came (i + length rest) (spread came i rest given xs)
spread_placed net came t i [] given xs at many p = subst (λ n. Placed net came n xs) (omega arith) p
spread_placed net came t i (arc ∷ rest) given xs at many p =
    subst (λ n. Placed net came n (spread came i (arc ∷ rest) given xs)) (omega arith)
    (go (is_linked came i) refl given many
    (λ g ys m q. spread_placed net came t (suc i) rest g ys
    (λ k a h. subst (λ j. slice_get net.arcs j ≡ Some a) (omega arith) (at (suc k) a h)) m q))
  where
    here : slice_get net.arcs i ≡ Some arc
    here = subst (λ j. slice_get net.arcs j ≡ Some arc) (omega arith) (at zero arc refl)

    go : (x : Bool) → is_linked came i ≡ x → (given : List ℕ)
        → length given ≡ length (cond x (off_from came (suc i) (length rest)) (i ∷ off_from came (suc i) (length rest)))
        → ((g : List ℕ) (ys : List ℤ) → length g ≡ length (off_from came (suc i) (length rest))
        → Placed net came (suc i) ys → Placed net came (suc i + length rest) (spread came (suc i) rest g ys))
        → Placed net came (suc i + length rest)
        (spread came (suc i) rest (cond x given (drop 1 given)) (cond x xs (put_first came i arc given xs)))
    go true e g m rec = rec g xs m (placed_on net came i xs e p)
    go false e [] m rec = absurd (omega (arith, m))
    go false e (n ∷ g) m rec =
        rec g (put_along came i arc (pos n) xs) (omega (arith, m)) (placed_off net came t i arc (pos n) xs here e p)

-- what was put on an arc stays there
spread_keeps : (came : List Arrival) (i : ℕ) (rest : List FlowArc) (given : List ℕ) (xs : List ℤ) (k : ℕ) → k < i
    → is_linked came k ≡ false → get_or (spread came i rest given xs) k (pos 0) ≡ get_or xs k (pos 0)
spread_keeps came i [] given xs k l off = refl
spread_keeps came i (arc ∷ rest) given xs k l off =
    spread_keeps came (suc i) rest (counters_behind came i given) (numbers_with came i arc given xs) k
    (omega (arith, l)) off
    ∙ go (is_linked came i) given
  where
    go : (x : Bool) (given : List ℕ) → get_or (cond x xs (put_first came i arc given xs)) k (pos 0)
        ≡ get_or xs k (pos 0)
    go true g = refl
    go false [] = refl
    go false (n ∷ g) = put_other came i arc (pos n) xs k off (λ e. omega (arith, e, l))

with_long : (came : List Arrival) (i : ℕ) (arc : FlowArc) (given : List ℕ) (xs : List ℤ)
    → length (numbers_with came i arc given xs) ≡ length xs
with_long came i arc given xs = go (is_linked came i) given
  where
    go : (x : Bool) (given : List ℕ) → length (cond x xs (put_first came i arc given xs)) ≡ length xs
    go true g = refl
    go false [] = refl
    go false (n ∷ g) = put_long came i arc (pos n) xs

pub spread_long : (came : List Arrival) (i : ℕ) (rest : List FlowArc) (given : List ℕ) (xs : List ℤ)
    → length (spread came i rest given xs) ≡ length xs
spread_long came i [] given xs = refl
spread_long came i (arc ∷ rest) given xs =
    spread_long came (suc i) rest (counters_behind came i given) (numbers_with came i arc given xs)
    ∙ with_long came i arc given xs

-- The arcs off the tree have the numbers of the counters.
pub spread_agrees : (came : List Arrival) (i : ℕ) (rest : List FlowArc) (given : List ℕ) (xs : List ℤ)
    → i + length rest ≤ length xs → length given ≡ length (off_from came i (length rest))
    → map (λ k. get_or (spread came i rest given xs) k (pos 0)) (off_from came i (length rest)) ≡ map pos given
spread_agrees came i [] [] xs within many = refl
spread_agrees came i [] (n ∷ given) xs within many = absurd (omega (arith, many))
spread_agrees came i (arc ∷ rest) given xs within many =
    go (is_linked came i) refl given many
    (λ g ys w m. spread_agrees came (suc i) rest g ys (omega (arith, within, w)) m)
  where
    go : (x : Bool) → is_linked came i ≡ x → (given : List ℕ)
        → length given ≡ length (cond x (off_from came (suc i) (length rest)) (i ∷ off_from came (suc i) (length rest)))
        → ((g : List ℕ) (ys : List ℤ) → length ys ≡ length xs → length g ≡ length (off_from came (suc i) (length rest))
        → map (λ k. get_or (spread came (suc i) rest g ys) k (pos 0)) (off_from came (suc i) (length rest)) ≡ map pos g)
        → map (λ k. get_or (spread came (suc i) rest (cond x given (drop 1 given))
        (cond x xs (put_first came i arc given xs))) k (pos 0))
        (cond x (off_from came (suc i) (length rest)) (i ∷ off_from came (suc i) (length rest))) ≡ map pos given
    go true e g m rec = rec g xs refl m
    go false e [] m rec = absurd (omega (arith, m))
    go false e (n ∷ g) m rec =
        let own = spread_keeps came (suc i) rest g (put_along came i arc (pos n) xs) i (omega arith) e
        ∙ put_own came i arc (pos n) xs e (omega (arith, within)) in
        let others = rec g (put_along came i arc (pos n) xs) (put_long came i arc (pos n) xs) (omega (arith, m)) in
        pair _ _ _ _ own others
      where
        pair : (x y : ℤ) (xs ys : List ℤ) → x ≡ y → xs ≡ ys → x ∷ xs ≡ y ∷ ys
        pair x y xs ys h k = rw (h, k) refl
