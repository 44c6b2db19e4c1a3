-- Counters of arcs along walks.
use Rattle.std.proofs.Common.{◌≡◌, refl, sym, ap, ap₂, ◌∙◌, ℕ, zero, suc, ◌+◌, ◌<◌, ◌≤◌, ◌==◌, ◌&&◌, inl, inr, Bool}
use Rattle.std.proofs.Common.{true, false, cond, List, [], ◌∷◌, ◌++◌, length, map, get_or, Option, Some, None, arith, eqb-true}
use Rattle.std.proofs.Common.{eq-eqb}
use Rattle.std.specs.Prelude.{slice_get}
use Rattle.std.specs.List.{position, count_by}
use Rattle.std.proofs.lemmas.Bool.{and_parts, or_cases, ltb-true, lt-ltb, both_ways}
use Rattle.std.proofs.lemmas.List.Sums.{position_or_len_is, sum_by-cons}
use Rattle.std.proofs.lemmas.List.Quantifiers.{position-Some}
use Rattle.std.proofs.lemmas.Option.{same_Some, none-some, slice_get_within, get_or_from_slice_get}
use Rattle.cov_base.specs.Net.{IsNet, joins, is_above}
use Rattle.cov_base.specs.Walks.{Walk, moves_from, moves, is_along, passages}
use Rattle.cov_base.specs.declared.net.ArcKind.TheVariants as arc_kind
use Rattle.cov_base.specs.declared.net.FlowArc.{FlowArc}
use Rattle.cov_base.proofs.NetLaws.{AscendAfter, Ascend, HasShape-from_IsNet}
use Rattle.stack_ops.specs.declared.operation.Op.{Op}
use Rattle.stack_ops.specs.declared.operation.Op.TheVariants as op
use Rattle.span_tree.specs.declared.arrival.Arrival.{Arrival}
use Rattle.span_tree.specs.Tree.{arrivals, is_linked, off_from, off}
use Rattle.arc_counters.specs.Plan.{counter_from}
use Rattle.code_runs.specs.Counts.{often, total, value, counter}
use Rattle.path_masks.specs.Tables.{RowsValue}
use Rattle.stack_code.specs.Agreement.{along_from, along, marks_of}
use Rattle.stack_code.specs.Modes.{ShapeValue, counter_of, counting, row_of, passing, tracing, covered_marks}
use Rattle.covered_runs.specs.CoveredWalks.{arcs_off, off_arcs, counters_of}

no_arc : FlowArc
no_arc = record { from = 0; to = 0; kind = arc_kind.Real }

-- ---- one arc joins two blocks

-- an arc comes behind another by its ends
record Above (x y : FlowArc) : Type 0 where
  from : x.from ≤ y.from
  to : x.from ≡ y.from → x.to < y.to

above : (x y : FlowArc) → is_above y x ≡ true → Above x y
above x y h = elim (or_cases _ _ h) [
  | inl less ↦ (let l : x.from < y.from = ltb-true _ _ less in
      record { from = omega arith; to = λ e. absurd (omega (arith, l, e)) })
  | inr same ↦ (let parts = and_parts _ _ same in
      let e : x.from ≡ y.from = eqb-true _ _ parts.0 in
      let l : x.to < y.to = ltb-true _ _ parts.1 in
      record { from = omega (arith, e); to = λ _. l })
]

above_on : (x y z : FlowArc) → Above x y → Above y z → Above x z
above_on x y z a b = record {
  from = (let p = a.from in let q = b.from in omega (arith, p, q));
  to = λ e. (let p = a.from in let q = b.from in
      let f : x.from ≡ y.from = omega (arith, p, q, e) in
      let g : y.from ≡ z.from = omega (arith, p, q, e) in
      let l = a.to f in let m = b.to g in omega (arith, l, m));
}

later_above : (x : FlowArc) (arcs : List FlowArc) (k : ℕ) (d : FlowArc) → AscendAfter x arcs → k < length arcs
    → Above x (get_or arcs k d)
later_above x [] k d up lt = absurd (omega (arith, lt))
later_above x (y ∷ arcs) zero d up lt = above x y up.0
later_above x (y ∷ arcs) (suc k) d up lt =
    above_on x y (get_or arcs k d) (above x y up.0) (later_above y arcs k d up.1 (omega (arith, lt)))

ascend_behind : (x : FlowArc) (arcs : List FlowArc) → AscendAfter x arcs → Ascend arcs
ascend_behind x [] h = tt
ascend_behind x (y ∷ arcs) h = h.1

-- arcs before one that joins two blocks don't join them
joins_first : (a b : ℕ) (arcs : List FlowArc) (i k : ℕ) (d : FlowArc) → Ascend arcs → i < k → k < length arcs
    → joins a b (get_or arcs k d) ≡ true → joins a b (get_or arcs i d) ≡ false
joins_first a b [] i k d up lt within h = absurd (omega (arith, within))
joins_first a b (x ∷ arcs) i zero d up lt within h = absurd (omega (arith, lt))
joins_first a b (x ∷ arcs) zero (suc k) d up lt within h = by (joins a b x) refl
  where
    by : (z : Bool) → joins a b x ≡ z → z ≡ false
    by false e = refl
    by true e =
        let later = later_above x arcs k d up (omega (arith, within)) in
        let p = and_parts (x.from == a) (x.to == b) e in
        let q = and_parts ((get_or arcs k d).from == a) ((get_or arcs k d).to == b) h in
        let xf = eqb-true x.from a p.0 in let xt = eqb-true x.to b p.1 in
        let yf = eqb-true ((get_or arcs k d).from) a q.0 in let yt = eqb-true ((get_or arcs k d).to) b q.1 in
        let l = later.to (xf ∙ sym yf) in absurd (omega (arith, l, xt, yt))
joins_first a b (x ∷ arcs) (suc i) (suc k) d up lt within h =
    joins_first a b arcs i k d (ascend_behind x arcs up) (omega (arith, lt)) (omega (arith, within)) h

-- the arc that joins two blocks is the one that is found
joins_at : (a b : ℕ) (arcs : List FlowArc) (k : ℕ) (arc : FlowArc) → Ascend arcs → slice_get arcs k ≡ Some arc
    → joins a b arc ≡ true → position (joins a b) arcs ≡ Some k
joins_at a b arcs k arc up at h =
    let within = slice_get_within arcs k arc at in
    let here : joins a b (get_or arcs k no_arc) ≡ true =
    ap (λ (x : FlowArc). joins a b x) (get_or_from_slice_get arcs k arc no_arc at) ∙ h in
    let is = position_or_len_is (joins a b) arcs k no_arc (omega (arith, within))
    (λ i low. joins_first a b arcs i k no_arc up low within here) (λ l. here) in
    rw (is, lt-ltb k (length arcs) within) refl

-- ---- counters

-- a counter isn't below the first
counter_high : (b : ℕ) (plan : List ℕ) (k m : ℕ) → counter_from b plan k ≡ Some m → b ≤ m
counter_high b [] k m e = absurd (none-some m e)
counter_high b (x ∷ plan) k m e = by (x == k) e (λ h. (let l = counter_high (suc b) plan k m h in omega (arith, l)))
  where
    by : (z : Bool) → cond z (Some b) (counter_from (suc b) plan k) ≡ Some m
        → (counter_from (suc b) plan k ≡ Some m → b ≤ m) → b ≤ m
    by true e later = let s : b ≡ m = same_Some b m e in omega (arith, s)
    by false e later = later e

-- the arc of a counter
counter_back : (b n : ℕ) (plan : List ℕ) (k : ℕ) → counter_from b plan k ≡ Some (b + n) → slice_get plan n ≡ Some k
counter_back b n [] k e = absurd (none-some (b + n) e)
counter_back b n (x ∷ plan) k e = by (x == k) refl n e (λ n h. counter_back (suc b) n plan k h)
  where
    by : (z : Bool) → (x == k) ≡ z → (n : ℕ) → cond z (Some b) (counter_from (suc b) plan k) ≡ Some (b + n)
        → ((n : ℕ) → counter_from (suc b) plan k ≡ Some (suc b + n) → slice_get plan n ≡ Some k)
        → slice_get (x ∷ plan) n ≡ Some k
    by true is zero e later = ap Some (eqb-true x k is)
    by true is (suc n) e later = let s : b ≡ b + suc n = same_Some b (b + suc n) e in absurd (omega (arith, s))
    by false is zero e later = let l : suc b ≤ b + 0 = counter_high (suc b) plan k (b + 0) e in absurd (omega (arith, l))
    by false is (suc n) e later =
        let s : b + suc n ≡ suc b + n = omega arith in later n (e ∙ ap (λ (m : ℕ). Some m) s)

-- members of a plan ascend
off_high : (came : List Arrival) (j m n k : ℕ) → slice_get (off_from came j m) n ≡ Some k → j ≤ k
off_high came j zero n k e = absurd (none-some k e)
off_high came j (suc m) n k e =
    by (is_linked came j) n e (λ n h. (let l = off_high came (suc j) m n k h in omega (arith, l)))
  where
    by : (z : Bool) (n : ℕ) → slice_get (cond z (off_from came (suc j) m) (j ∷ off_from came (suc j) m)) n ≡ Some k
        → ((n : ℕ) → slice_get (off_from came (suc j) m) n ≡ Some k → j ≤ k) → j ≤ k
    by true n e later = later n e
    by false zero e later = let s : j ≡ k = same_Some j k e in omega (arith, s)
    by false (suc n) e later = later n e

-- the counter of an arc of a plan
counter_at : (came : List Arrival) (j m b n k : ℕ) → slice_get (off_from came j m) n ≡ Some k
    → counter_from b (off_from came j m) k ≡ Some (b + n)
counter_at came j zero b n k e = absurd (none-some k e)
counter_at came j (suc m) b n k e = by (is_linked came j) n e (λ b n h. counter_at came (suc j) m b n k h)
  where
    here : (b : ℕ) → b ≡ b + 0
    here b = omega arith

    by : (z : Bool) (n : ℕ) → slice_get (cond z (off_from came (suc j) m) (j ∷ off_from came (suc j) m)) n ≡ Some k
        → ((b n : ℕ) → slice_get (off_from came (suc j) m) n ≡ Some k
        → counter_from b (off_from came (suc j) m) k ≡ Some (b + n))
        → counter_from b (cond z (off_from came (suc j) m) (j ∷ off_from came (suc j) m)) k ≡ Some (b + n)
    by true n e later = later b n e
    by false zero e later = let s : j ≡ k = same_Some j k e in
        ap (λ c. cond c (Some b) (counter_from (suc b) (off_from came (suc j) m) k)) (eq-eqb j k s)
        ∙ ap (λ (x : ℕ). Some x) (here b)
    by false (suc n) e later =
        let high : suc j ≤ k = off_high came (suc j) m n k e in
        let s : suc b + n ≡ b + suc n = omega arith in
        go (j == k) refl high (later (suc b) n e ∙ ap (λ (x : ℕ). Some x) s)
      where
        go : (y : Bool) → (j == k) ≡ y → suc j ≤ k
            → counter_from (suc b) (off_from came (suc j) m) k ≡ Some (b + suc n)
            → cond y (Some b) (counter_from (suc b) (off_from came (suc j) m) k) ≡ Some (b + suc n)
        go true is high h = let same : j ≡ k = eqb-true j k is in absurd (omega (arith, same, high))
        go false is high h = h

-- an arc off the tree, in the plan and among all arcs
record OffAt (came : List Arrival) (j : ℕ) (arcs : List FlowArc) (n k : ℕ) : Type 0 where
  arc : FlowArc
  place : ℕ
  at : k ≡ j + place
  there : slice_get arcs place ≡ Some arc
  off_there : slice_get (arcs_off came j arcs) n ≡ Some arc

off_at : (came : List Arrival) (j : ℕ) (arcs : List FlowArc) (n k : ℕ)
    → slice_get (off_from came j (length arcs)) n ≡ Some k → OffAt came j arcs n k
off_at came j [] n k e = absurd (none-some k e)
off_at came j (arc ∷ arcs) n k e = by (is_linked came j) refl n e (λ n h. off_at came (suc j) arcs n k h)
  where
    more : (n m : ℕ) → slice_get (arcs_off came j (arc ∷ arcs)) n ≡ slice_get (arcs_off came (suc j) arcs) m
        → OffAt came (suc j) arcs m k → OffAt came j (arc ∷ arcs) n k
    more n m same h = record {
      arc = h.arc;
      place = suc h.place;
      at = (let a = h.at in omega (arith, a));
      there = h.there;
      off_there = same ∙ h.off_there;
    }

    by : (z : Bool) → is_linked came j ≡ z → (n : ℕ)
        → slice_get (cond z (off_from came (suc j) (length arcs)) (j ∷ off_from came (suc j) (length arcs))) n ≡ Some k
        → ((n : ℕ) → slice_get (off_from came (suc j) (length arcs)) n ≡ Some k → OffAt came (suc j) arcs n k)
        → OffAt came j (arc ∷ arcs) n k
    by true is n e later = more n n
        (ap (λ c. slice_get (cond c (arcs_off came (suc j) arcs) (arc ∷ arcs_off came (suc j) arcs)) n) is) (later n e)
    by false is zero e later = let s : j ≡ k = same_Some j k e in record {
      arc = arc;
      place = 0;
      at = omega (arith, s);
      there = refl;
      off_there =
          ap (λ c. slice_get (cond c (arcs_off came (suc j) arcs) (arc ∷ arcs_off came (suc j) arcs)) 0) is;
    }
    by false is (suc n) e later = more (suc n) n
        (ap (λ c. slice_get (cond c (arcs_off came (suc j) arcs) (arc ∷ arcs_off came (suc j) arcs)) (suc n)) is)
        (later n e)

off_long : (came : List Arrival) (j : ℕ) (arcs : List FlowArc)
    → length (arcs_off came j arcs) ≡ length (off_from came j (length arcs))
off_long came j [] = refl
off_long came j (arc ∷ arcs) = by (is_linked came j) (off_long came (suc j) arcs)
  where
    by : (z : Bool) → length (arcs_off came (suc j) arcs) ≡ length (off_from came (suc j) (length arcs))
        → length (cond z (arcs_off came (suc j) arcs) (arc ∷ arcs_off came (suc j) arcs))
        ≡ length (cond z (off_from came (suc j) (length arcs)) (j ∷ off_from came (suc j) (length arcs)))
    by true h = h
    by false h = ap suc h

-- ---- marks of an arc

often-join : (n : ℕ) (xs ys : List Op) → often n (xs ++ ys) ≡ often n xs + often n ys
often-join n [] ys = omega arith
often-join n (x ∷ xs) ys = let h = often-join n xs ys in omega (arith, h)

passing_none : (n : ℕ) (o : Option ℕ) → often n (passing o) ≡ 0
passing_none n None = refl
passing_none n (Some m) = refl

tracing_none : (n : ℕ) (rows : Option RowsValue) (arc : Option ℕ) (a b : ℕ) → often n (tracing rows arc a b) ≡ 0
tracing_none n None arc a b = refl
tracing_none n (Some rows) arc a b = by ((a == 0) && (b == 2))
  where
    by : (z : Bool) → often n (cond z (op.PathBegin ∷ []) (passing (row_of rows.passes arc))) ≡ 0
    by true = refl
    by false = passing_none n (row_of rows.passes arc)

-- the marks on the way from one block to another count an arc's counter just where the arc leads there
arc_counts : (s : ShapeValue) → IsNet s.net → s.plan ≡ off s.net → (n k : ℕ) (arc : FlowArc)
    → slice_get (off s.net) n ≡ Some k → slice_get s.net.arcs k ≡ Some arc → (a b : ℕ)
    → often n (covered_marks s a b) ≡ cond (joins a b arc) 1 0
arc_counts s net plan n k arc at there a b =
    let place : Option ℕ = position (joins a b) s.net.arcs in
    let join = often-join n (counting (counter_of s.plan place)) (tracing s.rows place a b) in
    let none = tracing_none n s.rows place a b in
    let one : often n (counting (counter_of s.plan place)) ≡ cond (joins a b arc) 1 0 =
    ap (λ (p : List ℕ). often n (counting (counter_of p place))) plan ∙ by (joins a b arc) refl in
    join ∙ omega (arith, none, one)
  where
    none : (n : ℕ) → 0 + n ≡ n
    none n = omega arith

    itself : (n : ℕ) → cond (n == n) 1 0 + 0 ≡ 1
    itself n = ap (λ c. cond c 1 0 + 0) (eq-eqb n n refl)

    -- another counter, or none
    counted : (o : Option ℕ) → (o ≡ Some n → ⊥) → often n (counting o) ≡ 0
    counted None ne = refl
    counted (Some m) ne = go (m == n) refl
      where
        go : (z : Bool) → (m == n) ≡ z → cond z 1 0 + 0 ≡ 0
        go true e = absurd (ne (ap (λ (x : ℕ). Some x) (eqb-true m n e)))
        go false e = refl

    other : (o : Option ℕ) → position (joins a b) s.net.arcs ≡ o → joins a b arc ≡ false
        → often n (counting (counter_of (off s.net) o)) ≡ 0
    other None found differs = refl
    other (Some j) found differs =
        counted (counter_from 0 (off s.net) j) (λ e.
        (let same : Some j ≡ Some k = sym (counter_back 0 n (off s.net) j (e ∙ ap (λ (x : ℕ). Some x) (sym (none n)))) ∙ at in
        let jk : j ≡ k = same_Some j k same in
        let agrees = (position-Some (joins a b) s.net.arcs j no_arc found).1 in
        let is : get_or s.net.arcs j no_arc ≡ arc =
        ap (λ (i : ℕ). get_or s.net.arcs i no_arc) jk ∙ get_or_from_slice_get s.net.arcs k arc no_arc there in
        both_ways (joins a b arc) differs (ap (λ (x : FlowArc). joins a b x) (sym is) ∙ agrees)))

    by : (z : Bool) → joins a b arc ≡ z
        → often n (counting (counter_of (off s.net) (position (joins a b) s.net.arcs))) ≡ cond z 1 0
    by true agrees =
        ap (λ (o : Option ℕ). often n (counting (counter_of (off s.net) o)))
        (joins_at a b s.net.arcs k arc ((HasShape-from_IsNet s.net net).ascend) there agrees)
        ∙ ap (λ (o : Option ℕ). often n (counting o)) (counter_at (arrivals s.net) 0 (length s.net.arcs) 0 n k at
        ∙ ap (λ (x : ℕ). Some x) (none n))
        ∙ itself n
    by false differs = other (position (joins a b) s.net.arcs) refl differs

-- ---- along walks

from_counts : (m : ℕ → ℕ → List Op) (n : ℕ) (arc : FlowArc)
    → ((a b : ℕ) → often n (m a b) ≡ cond (joins a b arc) 1 0) → (x : ℕ) (bs : List ℕ)
    → often n (along_from m x bs) ≡ count_by (is_along arc) (moves_from x bs)
from_counts m n arc h x [] = refl
from_counts m n arc h x (b ∷ bs) =
    often-join n (m x b) (along_from m b bs) ∙ ap₂ (λ i j. i + j) (h x b) (from_counts m n arc h b bs)
    ∙ sym (sum_by-cons (λ (v : ℕ × ℕ). cond (is_along arc v) 1 0) (x, b) (moves_from b bs))

walk_counts : (m : ℕ → ℕ → List Op) (n : ℕ) (arc : FlowArc)
    → ((a b : ℕ) → often n (m a b) ≡ cond (joins a b arc) 1 0) → (blocks : List ℕ)
    → often n (along m blocks) ≡ count_by (is_along arc) (moves blocks)
walk_counts m n arc h [] = refl
walk_counts m n arc h (b ∷ bs) = from_counts m n arc h b bs

pub all_count : (m : ℕ → ℕ → ℕ → List Op) (i n : ℕ) (arc : FlowArc)
    → ((a b : ℕ) → often n (m i a b) ≡ cond (joins a b arc) 1 0) → (walks : List Walk)
    → total i n (map (marks_of m) walks) ≡ passages walks i arc
all_count m i n arc h [] = refl
all_count m i n arc h (w ∷ walks) =
    ap₂ (λ x y. x + y) (by (w.function == i) refl) (all_count m i n arc h walks)
    ∙ sym (sum_by-cons (λ (v : Walk). cond (v.function == i) (count_by (is_along arc) (moves v.blocks)) 0) w walks)
  where
    by : (z : Bool) → (w.function == i) ≡ z
        → cond z (often n (along (m w.function) w.blocks)) 0 ≡ cond z (count_by (is_along arc) (moves w.blocks)) 0
    by true is = ap (λ (f : ℕ). often n (along (m f) w.blocks)) (eqb-true w.function i is)
        ∙ walk_counts (m i) n arc h w.blocks
    by false is = refl

-- lists with the same values are the same
same_values : (xs ys : List ℕ) → length xs ≡ length ys → ((n : ℕ) → n < length ys → value n xs ≡ value n ys) → xs ≡ ys
same_values [] [] e h = refl
same_values [] (y ∷ ys) e h = absurd (omega (arith, e))
same_values (x ∷ xs) [] e h = absurd (omega (arith, e))
same_values (x ∷ xs) (y ∷ ys) e h =
    ap₂ (λ (a : ℕ) (l : List ℕ). a ∷ l) (h 0 (omega arith))
    (same_values xs ys (omega (arith, e)) (λ n lt. h (suc n) (omega (arith, lt))))

counter_is : (f n : ℕ) (all : List (List ℕ)) (ns : List ℕ) → slice_get all f ≡ Some ns → counter f n all ≡ value n ns
counter_is f n [] ns at = absurd (none-some ns at)
counter_is zero n (x ∷ all) ns at = ap (λ (l : List ℕ). value n l) (same_Some x ns at)
counter_is (suc f) n (x ∷ all) ns at = counter_is f n all ns at

value_map : {A : Type 0} (v : A → ℕ) (xs : List A) (n : ℕ) (x : A) → slice_get xs n ≡ Some x → value n (map v xs) ≡ v x
value_map v [] n x at = absurd (none-some x at)
value_map v (y ∷ xs) zero x at = ap v (same_Some y x at)
value_map v (y ∷ xs) (suc n) x at = value_map v xs n x at

long_map : {A B : Type 0} (v : A → B) (xs : List A) → length (map v xs) ≡ length xs
long_map v [] = refl
long_map v (x ∷ xs) = ap suc (long_map v xs)

there_within : (xs : List ℕ) (n : ℕ) → n < length xs → (x : ℕ) × (slice_get xs n ≡ Some x)
there_within [] n lt = absurd (omega (arith, lt))
there_within (x ∷ xs) zero lt = (x, refl)
there_within (x ∷ xs) (suc n) lt = there_within xs n (omega (arith, lt))

-- The counters of a function, where they are how often calls marked them, and the calls marked what stands on the arcs of
-- walks.
pub counters_are : (m : ℕ → ℕ → ℕ → List Op) (s : ShapeValue) (i : ℕ) → m i ≡ covered_marks s → IsNet s.net
    → s.plan ≡ off s.net → (walks : List Walk) (all : List (List ℕ)) (ns : List ℕ)
    → ((n : ℕ) → counter i n all ≡ total i n (map (marks_of m) walks))
    → slice_get all i ≡ Some ns → length ns ≡ length s.plan → ns ≡ counters_of s.net i walks
counters_are m s i marked net plan walks all ns told at long =
    same_values ns (counters_of s.net i walks)
    (long ∙ ap (λ (l : List ℕ). length l) plan ∙ sym all_long) (λ n lt. each n (omega (arith, lt, all_long)))
  where
    all_long : length (counters_of s.net i walks) ≡ length (off s.net)
    all_long = long_map (passages walks i) (off_arcs s.net) ∙ off_long (arrivals s.net) 0 s.net.arcs

    each : (n : ℕ) → n < length (off s.net) → value n ns ≡ value n (counters_of s.net i walks)
    each n lt =
        let k = there_within (off s.net) n lt in
        let o : OffAt (arrivals s.net) 0 s.net.arcs n k.0 = off_at (arrivals s.net) 0 s.net.arcs n k.0 k.1 in
        let there : slice_get s.net.arcs k.0 ≡ Some o.arc =
        (let a : k.0 ≡ o.place = (let e = o.at in omega (arith, e)) in
        ap (λ (p : ℕ). slice_get s.net.arcs p) a ∙ o.there) in
        sym (counter_is i n all ns at) ∙ told n
        ∙ all_count m i n o.arc (λ a b. ap (λ (f : ℕ → ℕ → List Op). often n (f a b)) marked
        ∙ arc_counts s net plan n k.0 o.arc k.1 there a b) walks
        ∙ sym (value_map (passages walks i) (off_arcs s.net) n o.arc o.off_there)
