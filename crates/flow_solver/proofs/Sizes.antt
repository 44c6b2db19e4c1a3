-- How large numbers get on the way.
use Rattle.std.proofs.Common.{◌≡◌, refl, sym, ap, subst, ◌∙◌, ℕ, zero, suc, ◌+◌, ◌*◌, ◌<◌, ◌≤◌, ◌==◌, List, [], ◌∷◌}
use Rattle.std.proofs.Common.{◌++◌, length, get_or, set, drop, Bool, true, false, cond, not, ◌||◌, ◌⊎◌, inl, inr, arith}
use Rattle.std.proofs.Common.{pos, negsuc, ◌+ℤ◌, neg_ℤ, append_assoc, append-nil}
use Rattle.std.specs.Prelude.{ℤ, Option, Some, None, slice_get, unsigned_abs, ◌≤ℤ◌}
use Rattle.std.specs.List.{All}
use Rattle.std.proofs.lemmas.Bool.{both_ways, cond-true, cond-false, cases_lt, ne_eqb, or_left, or_right}
use Rattle.std.proofs.Common.{eq-eqb}
use Rattle.std.proofs.lemmas.Int.{ints}
use Rattle.std.proofs.lemmas.Option.{slice_get_within}
use Rattle.std.proofs.lemmas.List.{get_or-set_same, get_or-set_other, get_or_past, length-set, set_past}
use Rattle.std.proofs.lemmas.List.Elements.{All-set, All-weaker, All-same, All-head, All-tail}
use Rattle.cov_base.specs.declared.net.FlowArc.{FlowArc}
use Rattle.cov_base.specs.Net.{NetValue}
use Rattle.span_tree.specs.declared.arrival.Arrival.{Arrival}
use Rattle.span_tree.specs.Tree.{exit_alone, is_there, is_linked, link_of, order_of}
use Rattle.span_tree.proofs.Grown.{Grown, is_linked_append}
use Rattle.span_tree.proofs.Unique.{Inner, inner_more}
use Rattle.flow_solver.specs.Solving.{add_to, add_at, put_along, put_first, numbers_with, take_up, gathered}
use Rattle.flow_solver.proofs.Links.{Tree, link_there, link_within}
use Rattle.flow_solver.proofs.Spreading.{add_long, add_other}
use Rattle.flow_solver.proofs.Gathering.{Taking, OtherEnd, take_up_cases, by_settling, exit_first}

-- ---- magnitudes

-- the number is at most m away from 0
abbrev pub Small : ℕ → ℤ → Type 0
Small m x = unsigned_abs x ≤ m

bounds : (m : ℕ) (x : ℤ) → Small m x → (neg_ℤ (pos m) ≤ℤ x) × (x ≤ℤ pos m)
bounds m (pos n) h = (omega (arith, ints, h), omega (arith, ints, h))
bounds m (negsuc n) h = (omega (arith, ints, h), omega (arith, ints, h))

from_bounds : (m : ℕ) (x : ℤ) → neg_ℤ (pos m) ≤ℤ x → x ≤ℤ pos m → Small m x
from_bounds m (pos n) low high = omega (arith, ints, low, high)
from_bounds m (negsuc n) low high = omega (arith, ints, low, high)

pub abs_add : (x y : ℤ) → unsigned_abs (x +ℤ y) ≤ unsigned_abs x + unsigned_abs y
abs_add x y =
    let a = bounds (unsigned_abs x) x (omega arith) in
    let b = bounds (unsigned_abs y) y (omega arith) in
    let al = a.0 in let ah = a.1 in let bl = b.0 in let bh = b.1 in
    from_bounds (unsigned_abs x + unsigned_abs y) (x +ℤ y) (omega (arith, ints, al, bl)) (omega (arith, ints, ah, bh))

pub abs_neg : (x : ℤ) → unsigned_abs (neg_ℤ x) ≡ unsigned_abs x
abs_neg (pos zero) = refl
abs_neg (pos (suc n)) = refl
abs_neg (negsuc n) = refl

at_most : (m : ℕ) (xs : List ℤ) → All (Small m) xs → (k : ℕ) → Small m (get_or xs k (pos 0))
at_most m xs all k = elim (cases_lt k (length xs)) [
  | inl l ↦ all k (pos 0) l
  | inr past ↦ subst (Small m) (sym (get_or_past xs k (pos 0) past)) (omega arith)
]

pub all_more : (m n : ℕ) (xs : List ℤ) → m ≤ n → All (Small m) xs → All (Small n) xs
all_more m n xs le all = All-weaker (Small m) (Small n) (λ x h. omega (arith, h, le)) xs all

pub add_small : (m d : ℕ) (o : Option ℕ) (n : ℤ) (xs : List ℤ) → All (Small m) xs → Small d n
    → All (Small (m + d)) (add_to o n xs)
add_small m d None n xs all small = all_more m (m + d) xs (omega arith) all
add_small m d (Some i) n xs all small =
    All-set (Small (m + d)) xs i (get_or xs i (pos 0) +ℤ n)
    (let a = abs_add (get_or xs i (pos 0)) n in let b = at_most m xs all i in omega (arith, a, b, small))
    (all_more m (m + d) xs (omega arith) all)

pub set_small : (m : ℕ) (xs : List ℤ) (i : ℕ) (x : ℤ) → All (Small m) xs → Small m x → All (Small m) (set xs i x)
set_small m xs i x all small = All-set (Small m) xs i x small all

put_small : (m d : ℕ) (came : List Arrival) (i : ℕ) (arc : FlowArc) (n : ℤ) (xs : List ℤ) → All (Small m) xs → Small d n
    → All (Small (m + d + d + d)) (put_along came i arc n xs)
put_small m d came i arc n xs all small =
    add_small (m + d + d) d (link_of came arc.from) (neg_ℤ n) (add_at came arc.to n (set xs i n))
    (add_small (m + d) d (link_of came arc.to) n (set xs i n)
    (set_small (m + d) xs i n (all_more m (m + d) xs (omega arith) all) (omega (arith, small))) small)
    (let e = abs_neg n in omega (arith, e, small))

pub with_small : (m d : ℕ) (came : List Arrival) (i : ℕ) (arc : FlowArc) (given : List ℕ) (xs : List ℤ)
    → All (λ n. n ≤ d) given → All (Small m) xs → All (Small (m + d + d + d)) (numbers_with came i arc given xs)
with_small m d came i arc given xs few all = go (is_linked came i) given few
  where
    go : (x : Bool) (given : List ℕ) → All (λ n. n ≤ d) given
        → All (Small (m + d + d + d)) (cond x xs (put_first came i arc given xs))
    go true g f = all_more m (m + d + d + d) xs (omega arith) all
    go false [] f = all_more m (m + d + d + d) xs (omega arith) all
    go false (n ∷ g) f = put_small m d came i arc (pos n) xs all (All-head (λ n. n ≤ d) n g f)

-- ---- weights

-- how far from 0 the numbers of some arcs are together, where the first has index i
abbrev pub weight : (ℕ → Bool) → ℕ → List ℤ → ℕ
weight some i [] = 0
weight some i (x ∷ xs) = cond (some i) (unsigned_abs x) 0 + weight some (suc i) xs

weight_same : (some other : ℕ → Bool) (i : ℕ) (xs ys : List ℤ) → length ys ≡ length xs
    → ((k : ℕ) → some (i + k) ≡ other (i + k))
    → ((k : ℕ) → get_or ys k (pos 0) ≡ get_or xs k (pos 0)) → weight some i ys ≡ weight other i xs
weight_same some other i [] [] l same eq = refl
weight_same some other i [] (y ∷ ys) l same eq = absurd (omega (arith, l))
weight_same some other i (x ∷ xs) [] l same eq = absurd (omega (arith, l))
weight_same some other i (x ∷ xs) (y ∷ ys) l same eq =
    let rest = weight_same some other (suc i) xs ys (omega (arith, l))
    (λ k. subst (λ j. some j ≡ other j) (omega arith) (same (suc k))) (λ k. eq (suc k)) in
    let first : y ≡ x = eq zero in
    let mark : some i ≡ other i = subst (λ j. some j ≡ other j) (omega arith) (same zero) in
    over _ _ _ _ (ap (λ p. cond p (unsigned_abs y) 0) mark
    ∙ ap (λ z. cond (other i) (unsigned_abs z) 0) first) rest
  where
    over : (a b c d : ℕ) → a ≡ b → c ≡ d → a + c ≡ b + d
    over a b c d h k = omega (arith, h, k)

-- where one arc counts no longer, its number's magnitude goes
weight_less : (more less : ℕ → Bool) (i : ℕ) (xs ys : List ℤ) (j : ℕ) → length ys ≡ length xs → j < length xs
    → more (i + j) ≡ true → less (i + j) ≡ false → ((k : ℕ) → (k ≡ j → ⊥) → less (i + k) ≡ more (i + k))
    → ((k : ℕ) → (k ≡ j → ⊥) → get_or ys k (pos 0) ≡ get_or xs k (pos 0))
    → weight less i ys + unsigned_abs (get_or xs j (pos 0)) ≡ weight more i xs
weight_less more less i [] ys j l w on off same eq = absurd (omega (arith, w))
weight_less more less i (x ∷ xs) [] j l w on off same eq = absurd (omega (arith, l))
weight_less more less i (x ∷ xs) (y ∷ ys) zero l w on off same eq =
    let rest = weight_same less more (suc i) xs ys (omega (arith, l))
    (λ k. subst (λ j. less j ≡ more j) (omega arith) (same (suc k) (λ e. omega (arith, e))))
    (λ k. eq (suc k) (λ e. omega (arith, e))) in
    let was = cond-true (more i) (unsigned_abs x) 0 (subst (λ j. more j ≡ true) (omega arith) on) in
    let now = cond-false (less i) (unsigned_abs y) 0 (subst (λ j. less j ≡ false) (omega arith) off) in
    over _ _ _ _ _ now was rest
  where
    over : (a b c d e : ℕ) → a ≡ 0 → b ≡ e → c ≡ d → (a + c) + e ≡ b + d
    over a b c d e h k m = omega (arith, h, k, m)
weight_less more less i (x ∷ xs) (y ∷ ys) (suc j) l w on off same eq =
    let rest = weight_less more less (suc i) xs ys j (omega (arith, l)) (omega (arith, w))
    (subst (λ k. more k ≡ true) (omega arith) on) (subst (λ k. less k ≡ false) (omega arith) off)
    (λ k ne. subst (λ j. less j ≡ more j) (omega arith) (same (suc k) (λ e. ne (omega (arith, e)))))
    (λ k ne. eq (suc k) (λ e. ne (omega (arith, e)))) in
    let first : y ≡ x = eq zero (λ e. omega (arith, e)) in
    let mark : less i ≡ more i = subst (λ j. less j ≡ more j) (omega arith) (same zero (λ e. omega (arith, e))) in
    over _ _ _ _ _ (ap (λ p. cond p (unsigned_abs y) 0) mark
    ∙ ap (λ z. cond (more i) (unsigned_abs z) 0) first) rest
  where
    over : (a b c d e : ℕ) → a ≡ b → c + e ≡ d → (a + c) + e ≡ b + d
    over a b c d e h k = omega (arith, h, k)

weight_add : (some : ℕ → Bool) (i : ℕ) (xs : List ℤ) (j : ℕ) (n : ℤ)
    → weight some i (set xs j (get_or xs j (pos 0) +ℤ n)) ≤ weight some i xs + unsigned_abs n
weight_add some i [] j n = omega arith
weight_add some i (x ∷ xs) zero n = go (some i) (abs_add x n)
  where
    go : (p : Bool) → unsigned_abs (x +ℤ n) ≤ unsigned_abs x + unsigned_abs n
        → cond p (unsigned_abs (x +ℤ n)) 0 + weight some (suc i) xs
        ≤ (cond p (unsigned_abs x) 0 + weight some (suc i) xs) + unsigned_abs n
    go true h = omega (arith, h)
    go false h = omega arith
weight_add some i (x ∷ xs) (suc j) n = (let r = weight_add some (suc i) xs j n in omega (arith, r))

weight_add_to : (some : ℕ → Bool) (o : Option ℕ) (n : ℤ) (xs : List ℤ)
    → weight some 0 (add_to o n xs) ≤ weight some 0 xs + unsigned_abs n
weight_add_to some None n xs = omega arith
weight_add_to some (Some j) n xs = weight_add some 0 xs j n

weight_at : (some : ℕ → Bool) (i : ℕ) (xs : List ℤ) (j : ℕ) → some (i + j) ≡ true
    → unsigned_abs (get_or xs j (pos 0)) ≤ weight some i xs
weight_at some i [] j on = omega arith
weight_at some i (x ∷ xs) zero on =
    (let e = cond-true (some i) (unsigned_abs x) 0 (subst (λ k. some k ≡ true) (omega arith) on) in omega (arith, e))
weight_at some i (x ∷ xs) (suc j) on =
    (let r = weight_at some (suc i) xs j (subst (λ k. some k ≡ true) (omega arith) on) in omega (arith, r))

weight_all : (some : ℕ → Bool) (i m : ℕ) (xs : List ℤ) → All (Small m) xs → weight some i xs ≤ length xs * m
weight_all some i m [] all = omega arith
weight_all some i m (x ∷ xs) all =
    let rest = weight_all some (suc i) m xs (All-tail (Small m) x xs all) in
    go (some i) (All-head (Small m) x xs all) rest
  where
    go : (p : Bool) → Small m x → weight some (suc i) xs ≤ length xs * m
        → cond p (unsigned_abs x) 0 + weight some (suc i) xs ≤ suc (length xs) * m
    go true h r = omega (arith, h, r)
    go false h r = omega (arith, r)

-- ---- taking up

-- the numbers of the arcs that aren't taken up yet are small together, and each number is small
pub record Light (m : ℕ) (net : NetValue) (before : List Arrival) (xs : List ℤ) : Type 0 where
  pub long : length xs ≡ length net.arcs
  pub together : weight (is_linked before) 0 xs ≤ m
  pub each : All (Small m) xs

pub light_start : (m n : ℕ) (net : NetValue) (came : List Arrival) (xs : List ℤ) → length xs ≡ length net.arcs
    → length xs * m ≤ n → m ≤ n → All (Small m) xs → Light n net came xs
light_start m n net came xs long le less all = record {
  long = long;
  together = (let w = weight_all (is_linked came) 0 m xs all in omega (arith, w, le));
  each = all_more m n xs less all;
}

linked_more : (before : List Arrival) (b i k : ℕ) → (k ≡ i → ⊥)
    → is_linked before k ≡ is_linked (before ++ record { block = b; link = Some i } ∷ []) k
linked_more before b i k ne =
    sym (is_linked_append before (record { block = b; link = Some i } ∷ []) k
    ∙ go (is_linked before k) (i == k) (ne_eqb i k (λ e. ne (sym e))))
  where
    go : (x y : Bool) → y ≡ false → (x || (y || false)) ≡ x
    go true y e = refl
    go false y e = (let h : (y || false) ≡ y = or_none y in h ∙ e)
      where
        or_none : (y : Bool) → (y || false) ≡ y
        or_none true = refl
        or_none false = refl

light_core : (m : ℕ) (net : NetValue) (came before rest : List Arrival) (b i : ℕ) (arc : FlowArc) → Tree net came
    → Taking net came before rest b i arc → (p : ℕ) (xs ys : List ℤ) → is_there before p ≡ true
    → length ys ≡ length xs → All (Small m) ys
    → is_linked (before ++ record { block = b; link = Some i } ∷ []) i ≡ true
    → ((k : ℕ) → (k ≡ i → ⊥) → get_or ys k (pos 0) ≡ get_or xs k (pos 0))
    → Light m net (before ++ record { block = b; link = Some i } ∷ []) xs
    → Light m net before (add_at came p (get_or xs i (pos 0)) ys)
light_core m net came before rest b i arc t k p xs ys there long small on others light =
    record { long = add_long (link_of came p) e ys ∙ (long ∙ light.long); together = together; each = each }
  where
    a : Arrival
    a = record { block = b; link = Some i }

    e : ℤ
    e = get_or xs i (pos 0)

    within : i < length xs
    within = let l = slice_get_within net.arcs i arc k.at in let n = light.long in omega (arith, l, n)

    zero_plus : i ≡ 0 + i
    zero_plus = omega arith

    less : weight (is_linked before) 0 ys + unsigned_abs e ≡ weight (is_linked (before ++ a ∷ [])) 0 xs
    less = weight_less (is_linked (before ++ a ∷ [])) (is_linked before) 0 xs ys i long within
        (subst (λ j. is_linked (before ++ a ∷ []) j ≡ true) zero_plus on)
        (subst (λ j. is_linked before j ≡ false) zero_plus k.unused)
        (λ j ne. linked_more before b i (0 + j) (λ s. ne (omega (arith, s)))) others

    together : weight (is_linked before) 0 (add_at came p e ys) ≤ m
    together = let w = weight_add_to (is_linked before) (link_of came p) e ys in let l = less in
        let n = light.together in omega (arith, w, l, n)

    each : All (Small m) (add_at came p e ys)
    each = go (link_of came p) (λ j h. link_there before (a ∷ rest) p j there
        (ap (λ (l : List Arrival). link_of l p) (sym k.whole) ∙ h))
        (let t = together in t)
      where
        go : (o : Option ℕ) → ((j : ℕ) → o ≡ Some j → is_linked before j ≡ true)
            → weight (is_linked before) 0 (add_to o e ys) ≤ m → All (Small m) (add_to o e ys)
        go None on w = small
        go (Some j) on w = elim (cases_lt j (length ys)) [
          | inl l ↦ set_small m ys j (get_or ys j (pos 0) +ℤ e) small
              (let v = weight_at (is_linked before) 0 (set ys j (get_or ys j (pos 0) +ℤ e)) j
              (subst (λ n. is_linked before n ≡ true) (omega arith) (on j refl)) in
              let s = ap unsigned_abs (get_or-set_same ys j (get_or ys j (pos 0) +ℤ e) (pos 0) l) in
              omega (arith, v, s, w))
          | inr past ↦ subst (All (Small m)) (sym (set_past ys j (get_or ys j (pos 0) +ℤ e) past)) small
        ]

pub light_some : (m : ℕ) (net : NetValue) (came : List Arrival) → Tree net came → (before rest : List Arrival) (b i : ℕ)
    (arc : FlowArc) (xs : List ℤ) → Taking net came before rest b i arc → OtherEnd before b arc
    → Light m net (before ++ record { block = b; link = Some i } ∷ []) xs
    → Light m net before (take_up came b i (Some arc) xs)
light_some m net came t before rest b i arc xs k joins light =
    take_up_cases came before b i arc xs (Light m net before) k.new joins
    (λ mine there. light_core m net came before rest b i arc t k arc.from xs (set xs i (neg_ℤ e)) there
    (length-set xs i (neg_ℤ e))
    (set_small m xs i (neg_ℤ e) light.each (let s = abs_neg e in let n = at_most m xs light.each i in
    omega (arith, s, n)))
    on (λ j ne. get_or-set_other xs i j (neg_ℤ e) (pos 0) ne) light)
    (λ mine there. light_core m net came before rest b i arc t k arc.to xs xs there refl light.each on (λ j ne. refl)
    light)
  where
    e : ℤ
    e = get_or xs i (pos 0)

    on : is_linked (before ++ record { block = b; link = Some i } ∷ []) i ≡ true
    on = is_linked_append before (record { block = b; link = Some i } ∷ []) i
        ∙ or_right _ _ (or_left _ _ (eq-eqb i i refl))

light_none : (m : ℕ) (net : NetValue) (before : List Arrival) (b : ℕ) (xs : List ℤ)
    → Light m net (before ++ record { block = b; link = None } ∷ []) xs → Light m net before xs
light_none m net before b xs light = record {
  long = light.long;
  together = (let e = weight_same (is_linked before) (is_linked (before ++ record { block = b; link = None } ∷ []))
      0 xs xs
      refl (λ k. same (0 + k)) (λ k. refl) in let t = light.together in omega (arith, e, t));
  each = light.each;
}
  where
    same : (k : ℕ) → is_linked before k ≡ is_linked (before ++ record { block = b; link = None } ∷ []) k
    same k = sym (is_linked_append before (record { block = b; link = None } ∷ []) k ∙ go (is_linked before k))
      where
        go : (x : Bool) → (x || (false || false)) ≡ x
        go true = refl
        go false = refl

light_all : (m : ℕ) (net : NetValue) (came : List Arrival) → Tree net came → (before rest : List Arrival)
    → came ≡ before ++ rest → Inner net.arcs before → Grown net.arcs before rest → (xs : List ℤ) → Light m net came xs
    → Light m net before (gathered net.arcs came (order_of rest) xs)
light_all m net came t before rest whole inner grown xs light =
    by_settling net came (Light m net) (λ before b xs e p. light_none m net before b xs p)
    (λ before rest b i arc xs k joins p. light_some m net came t before rest b i arc xs k joins p)
    before rest whole inner grown xs light

suffix_small : (m : ℕ) (net : NetValue) (came : List Arrival) → Tree net came → (before rest : List Arrival)
    → came ≡ before ++ rest → Inner net.arcs before → Grown net.arcs before rest → (xs : List ℤ) → Light m net came xs
    → (k : ℕ) → All (Small m) (gathered net.arcs came (drop k (order_of rest)) xs)
suffix_small m net came t before rest whole inner grown xs light zero =
    (light_all m net came t before rest whole inner grown xs light).each
suffix_small m net came t before [] whole inner grown xs light (suc k) = light.each
suffix_small m net came t before (a ∷ rest) whole inner grown xs light (suc k) =
    suffix_small m net came t (before ++ a ∷ []) rest (whole ∙ sym (append_assoc before (a ∷ []) rest))
    (inner_more net.arcs before a inner grown.1) grown.2 xs light k

-- Whichever of the last blocks were taken, each number is small.
pub gathered_small : (m : ℕ) (net : NetValue) (came : List Arrival) → Tree net came → Inner net.arcs exit_alone
    → (xs : List ℤ) → Light m net came xs → (k : ℕ)
    → All (Small m) (gathered net.arcs came (drop k (order_of came)) xs)
gathered_small m net came t inner xs light zero =
    subst (All (Small m)) (sym (exit_first net came t xs))
    (light_all m net came t exit_alone t.rest t.first inner t.grown xs light).each
gathered_small m net came t inner xs light (suc k) =
    subst (λ (l : List Arrival). All (Small m) (gathered net.arcs came (drop (suc k) (order_of l)) xs)) (sym t.first)
    (suffix_small m net came t exit_alone t.rest t.first inner t.grown xs light k)
