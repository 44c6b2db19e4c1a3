-- How many arcs are off the tree, and that those into the exit are on it.
use Rattle.std.proofs.Common.{◌≡◌, refl, sym, ap, subst, ◌∙◌, ℕ, zero, suc, ◌+◌, ◌<◌, ◌≤◌, ◌||◌, ◌==◌, List}
use Rattle.std.proofs.Common.{[], ◌∷◌, ◌++◌, length, Bool, true, false, cond, ◌⊎◌, inl, inr, arith, eq-eqb}
use Rattle.std.proofs.Common.{eqb-true, append_assoc, append-nil}
use Rattle.std.specs.Prelude.{Option, Some, None, slice_get, not, nat_le}
use Rattle.std.proofs.lemmas.Bool.{both_ways, or_cases, or_left, or_right, or_from, or_parts, and_parts, cond-true}
use Rattle.std.proofs.lemmas.Bool.{cond-false, cases_eq, ne_eqb, ltb-true, false_from_ne_true}
use Rattle.std.proofs.lemmas.Option.{slice_get_within, get_or_from_slice_get}
use Rattle.cov_base.specs.declared.net.FlowArc.{FlowArc}
use Rattle.cov_base.specs.Net.{NetValue, IsNet, is_outside, is_wrong_entry, is_above}
use Rattle.cov_base.proofs.NetLaws.{HasShape-from_IsNet, AscendAfter, Ascend}
use Rattle.span_tree.specs.declared.arrival.Arrival.{Arrival}
use Rattle.span_tree.specs.Tree.{exit_alone, is_there, with_block, look, look_along, after_blocks}
use Rattle.span_tree.specs.Tree.{arrivals, is_link}
use Rattle.span_tree.specs.Tree.{is_linked, on_tree, off_from, off}
use Rattle.span_tree.proofs.Grown.{Came, Grown, is_there_append, is_linked_append}
use Rattle.span_tree.proofs.Grown.{there_more, there_last, arrivals_grown}
use Rattle.span_tree.proofs.Unique.{Inner, inner_more}
use Rattle.span_tree.proofs.Spans.{along_extends, blocks_extends, extends_linked}
use Rattle.span_tree.proofs.Spans.{arrivals_length}

-- ---- how many arcs are off the tree

off_same : (before : List Arrival) (a : Arrival) (j n : ℕ) → ((k : ℕ) → j ≤ k → is_link a.link k ≡ false)
    → off_from (before ++ a ∷ []) j n ≡ off_from before j n
off_same before a j zero other = refl
off_same before a j (suc n) other =
    let rest = off_same before a (suc j) n (λ k l. other k (omega (arith, l))) in
    let here : is_linked (before ++ a ∷ []) j ≡ is_linked before j = is_linked_append before (a ∷ []) j
    ∙ drop_false (is_linked before j) (is_link a.link j) (other j (omega arith)) in
    ap (λ (x : Bool). cond x (off_from (before ++ a ∷ []) (suc j) n) (j ∷ off_from (before ++ a ∷ []) (suc j) n)) here
    ∙ ap (λ (l : List ℕ). cond (is_linked before j) l (j ∷ l)) rest
  where
    drop_false : (x y : Bool) → y ≡ false → (x || (y || false)) ≡ x
    drop_false true y e = refl
    drop_false false y e = or_from _ _ e refl

off_less : (before : List Arrival) (a : Arrival) (i j n : ℕ) → a.link ≡ Some i → is_linked before i ≡ false → j ≤ i
    → i < j + n
    → suc (length (off_from (before ++ a ∷ []) j n)) ≡ length (off_from before j n)
off_less before a i j zero link new low high = absurd (omega (arith, low, high))
off_less before a i j (suc n) link new low high = by (cases_eq j i) (λ l h. off_less before a i (suc j) n link new l h)
  where
    linked : (k : ℕ) → is_link a.link k ≡ (i == k)
    linked k = ap (λ o. is_link o k) link

    by : (j ≡ i) ⊎ (j ≡ i → ⊥) → (suc j ≤ i → i < suc j + n → suc (length (off_from (before ++ a ∷ []) (suc j) n))
        ≡ length (off_from before (suc j) n))
        → suc (length (off_from (before ++ a ∷ []) j (suc n))) ≡ length (off_from before j (suc n))
    by (inl same) rec =
        let now : off_from (before ++ a ∷ []) j (suc n) ≡ off_from (before ++ a ∷ []) (suc j) n =
        cond-true _ _ _ (is_linked_append before (a ∷ []) j
        ∙ or_right _ _ (or_left _ _ (linked j ∙ eq-eqb i j (sym same)))) in
        let old : off_from before j (suc n) ≡ j ∷ off_from before (suc j) n =
        cond-false _ _ _ (subst (λ k. is_linked before k ≡ false) (sym same) new) in
        let rest = off_same before a (suc j) n (λ k l. linked k ∙ ne_eqb i k (λ e. omega (arith, e, same, l))) in
        ap (λ (l : List ℕ). suc (length l)) (now ∙ rest) ∙ sym (ap length old)
    by (inr other) rec = go (is_linked before j) refl (rec (omega (arith, low, other)) (omega (arith, high)))
      where
        go : (x : Bool) → is_linked before j ≡ x → suc (length (off_from (before ++ a ∷ []) (suc j) n))
            ≡ length (off_from before (suc j) n)
            → suc
            (length (cond (is_linked (before ++ a ∷ []) j) (off_from (before ++ a ∷ []) (suc j) n)
            (j ∷ off_from (before ++ a ∷ []) (suc j) n)))
            ≡ length (cond x (off_from before (suc j) n) (j ∷ off_from before (suc j) n))
        go true e r = ap (λ (l : List ℕ). suc (length l))
            (cond-true _ _ _ (is_linked_append before (a ∷ []) j ∙ or_left _ _ e)) ∙ r
        go false e r =
            ap (λ (l : List ℕ). suc (length l))
            (cond-false _ _ _ (is_linked_append before (a ∷ []) j
            ∙ or_from _ _ e (or_from _ _ (linked j ∙ ne_eqb i j (λ h. other (sym h))) refl)))
            ∙ ap suc r

-- a block that is new came by an arc by which none came
new_link : (arcs : List FlowArc) (before : List Arrival) (b i : ℕ) → Inner arcs before → is_there before b ≡ false
    → Came arcs before b (Some i) → is_linked before i ≡ false
new_link arcs before b i inner new (arc, at, entry, joins) =
    false_from_ne_true (is_linked before i) (λ l.
    let h = inner i arc l at in
    elim joins [
      | inl e ↦ both_ways _ new (subst (λ c. is_there before c ≡ true) e.0 h.0)
      | inr e ↦ both_ways _ new (subst (λ c. is_there before c ≡ true) e.0 h.1)
    ])

off_grown : (arcs : List FlowArc) (before rest : List Arrival) → Inner arcs before → is_there before 0 ≡ true
    → Grown arcs before rest
    → length (off_from (before ++ rest) 0 (length arcs)) + length rest ≡ length (off_from before 0 (length arcs))
off_grown arcs before [] inner entry grown =
    (let e : length (off_from (before ++ []) 0 (length arcs)) ≡ length (off_from before 0 (length arcs)) =
    ap (λ (l : List Arrival). length (off_from l 0 (length arcs))) (append-nil before) in omega (arith, e))
off_grown arcs before (a ∷ rest) inner entry grown =
    by a.link refl grown.1 (off_grown arcs (before ++ a ∷ []) rest (inner_more arcs before a inner grown.1)
    (there_more before (a ∷ []) 0 entry) grown.2)
  where
    by : (link : Option ℕ) → a.link ≡ link → Came arcs before a.block link
        → length (off_from ((before ++ a ∷ []) ++ rest) 0 (length arcs)) + length rest
        ≡ length (off_from (before ++ a ∷ []) 0 (length arcs))
        → length (off_from (before ++ a ∷ rest) 0 (length arcs)) + length (a ∷ rest)
        ≡ length (off_from before 0 (length arcs))
    by None e came r = absurd (both_ways _ grown.0 (subst (λ b. is_there before b ≡ true) (sym came) entry))
    by (Some i) e came r =
        let within = slice_get_within arcs i came.0 came.1 in
        let less = off_less before a i 0 (length arcs) e (new_link arcs before a.block i inner grown.0 came)
        (omega arith) (omega (arith, within)) in
        let same : length (off_from ((before ++ a ∷ []) ++ rest) 0 (length arcs))
        ≡ length (off_from (before ++ a ∷ rest) 0 (length arcs)) =
        ap (λ (l : List Arrival). length (off_from l 0 (length arcs))) (append_assoc before (a ∷ []) rest) in
        omega (arith, r, less, same)

off_all : (before : List Arrival) (j n : ℕ) → ((k : ℕ) → is_linked before k ≡ false) → length (off_from before j n) ≡ n
off_all before j zero none = refl
off_all before j (suc n) none = ap length (cond-false _ _ _ (none j)) ∙ ap suc (off_all before (suc j) n none)

-- The arcs off the tree, and a block less two for each on it, are all arcs.
pub off_length : (net : NetValue) → IsNet net → length (off net) + net.blocks ≡ length net.arcs + 2
off_length net is =
    let least = (HasShape-from_IsNet net is).least in
    let looked = arrivals_grown net (omega (arith, least)) in
    by looked.grown.rest looked.grown.first looked.grown.grown (looked.more 0 refl) (arrivals_length net is)
  where
    arcs : List FlowArc
    arcs = net.arcs

    by : (rest : List Arrival) → arrivals net ≡ exit_alone ++ rest → Grown net.arcs exit_alone rest
        → is_there (arrivals net) 0 ≡ true → length (arrivals net) ≡ net.blocks
        → length (off net) + net.blocks ≡ length net.arcs + 2
    by [] e grown entry long = absurd (both_ways _ refl (subst (λ (l : List Arrival). is_there l 0 ≡ true) e entry))
    by (a ∷ rest) e grown entry long = go a.link refl grown.1
      where
        go : (link : Option ℕ) → a.link ≡ link → Came net.arcs exit_alone a.block link → length (off net) + net.blocks
            ≡ length net.arcs + 2
        go (Some i) l came = absurd (both_ways _ refl came.2)
        go None l came =
            let before : List Arrival = exit_alone ++ a ∷ [] in
            let two = there_last exit_alone a in
            let count = off_grown net.arcs (exit_alone ++ a ∷ []) rest
            (inner_more net.arcs exit_alone a (λ i arc k at. absurd (cc)) grown.1)
            (subst (λ b. is_there (exit_alone ++ a ∷ []) b ≡ true) came two) grown.2 in
            let all = off_all (exit_alone ++ a ∷ []) 0 (length net.arcs) (λ k. ap (λ o. is_link o k || false) l) in
            let same : length (off net) ≡ length (off_from ((exit_alone ++ a ∷ []) ++ rest) 0 (length net.arcs)) =
            ap (λ (l : List Arrival). length (off_from l 0 (length net.arcs))) e in
            let many : length (arrivals net) ≡ length (exit_alone ++ a ∷ rest) = ap length e in
            omega (arith, count, all, same, many, long)

-- ---- arcs into the exit

-- an arc stands behind another
abbrev Behind : FlowArc → FlowArc → Type 0
Behind before arc = (before.from < arc.from) ⊎ ((before.from ≡ arc.from) × (before.to < arc.to))

behind : (before arc : FlowArc) → is_above arc before ≡ true → Behind before arc
behind before arc e = elim (or_cases _ _ e) [
  | inl l ↦ inl (ltb-true _ _ l)
  | inr l ↦ (let p = and_parts _ _ l in inr (eqb-true _ _ p.0, ltb-true _ _ p.1))
]

behind_then : (a b c : FlowArc) → Behind a b → Behind b c → Behind a c
behind_then a b c (inl x) (inl y) = inl (omega (arith, x, y))
behind_then a b c (inl x) (inr y) = (let h = y.0 in inl (omega (arith, x, h)))
behind_then a b c (inr x) (inl y) = (let h = x.0 in inl (omega (arith, y, h)))
behind_then a b c (inr x) (inr y) = (let p = x.1 in let q = y.1 in inr (x.0 ∙ y.0, omega (arith, p, q)))

all_behind : (before : FlowArc) (arcs : List FlowArc) → AscendAfter before arcs → (k : ℕ) (arc : FlowArc)
    → slice_get arcs k ≡ Some arc → Behind before arc
all_behind before [] up k arc at = absurd (let never : None ≡ Some arc = at in cc)
all_behind before (x ∷ arcs) up zero arc at =
    (let same : x ≡ arc = (let h : Some x ≡ Some arc = at in cc) in subst (Behind before) same (behind before x up.0))
all_behind before (x ∷ arcs) up (suc k) arc at = behind_then before x arc (behind before x up.0)
    (all_behind x arcs up.1 k arc at)

-- none of the arcs into the exit leaves a block that is there
abbrev Fresh : List FlowArc → List Arrival → Type 0
Fresh arcs there = (k : ℕ) (arc : FlowArc) → slice_get arcs k ≡ Some arc → arc.to ≡ 1 → is_there there arc.from ≡ false

-- no arc leaves the exit
abbrev NoneOut : List FlowArc → Type 0
NoneOut arcs = (k : ℕ) (arc : FlowArc) → slice_get arcs k ≡ Some arc → arc.from ≡ 1 → ⊥

along_linked : (i : ℕ) (arcs : List FlowArc) (there : List Arrival) → Ascend arcs → NoneOut arcs → Fresh arcs there
    → (k : ℕ) (arc : FlowArc) → slice_get arcs k ≡ Some arc → arc.to ≡ 1
    → is_linked (look_along 1 i arcs there) (i + k) ≡ true
along_linked i [] there up out fresh k arc at to = absurd (let never : None ≡ Some arc = at in cc)
along_linked i (x ∷ arcs) there up out fresh zero arc at to =
    let same : x ≡ arc = (let h : Some x ≡ Some arc = at in cc) in
    let to_one : x.to ≡ 1 = ap (λ (y : FlowArc). y.to) same ∙ to in
    let new : is_there there x.from ≡ false = fresh zero x refl to_one in
    let a : Arrival = record { block = x.from; link = Some i } in
    let here : look 1 i x there ≡ there ++ record { block = x.from; link = Some i } ∷ [] =
    cond-false (x.from == 1) (with_block (Some i) x.to there)
    (cond (x.to == 1) (with_block (Some i) x.from there) there) (ne_eqb x.from 1 (out zero x refl))
    ∙ cond-true (x.to == 1) (with_block (Some i) x.from there) there (eq-eqb x.to 1 to_one)
    ∙ cond-false (is_there there x.from) there (there ++ record { block = x.from; link = Some i } ∷ []) new in
    extends_linked (look 1 i x there) (look_along 1 (suc i) arcs (look 1 i x there)) (i + 0)
    (along_extends 1 (suc i) arcs (look 1 i x there))
    (ap (λ (l : List Arrival). is_linked l (i + 0)) here
    ∙ is_linked_append there (record { block = x.from; link = Some i } ∷ []) (i + 0)
    ∙ or_right _ _ (or_left _ _ (eq-eqb i (i + 0) (omega arith))))
along_linked i (x ∷ arcs) there up out fresh (suc k) arc at to =
    subst (λ j. is_linked (look_along 1 (suc i) arcs (look 1 i x there)) j ≡ true) (omega arith)
    (along_linked (suc i) arcs (look 1 i x there) (later arcs up) (λ k a at. out (suc k) a at) still k arc at to)
  where
    later : (arcs : List FlowArc) → AscendAfter x arcs → Ascend arcs
    later [] up = tt
    later (y ∷ arcs) up = up.1

    here : (y : Bool) → (x.to == 1) ≡ y → look 1 i x there ≡ cond y (with_block (Some i) x.from there) there
    here y e =
        cond-false (x.from == 1) (with_block (Some i) x.to there)
        (cond (x.to == 1) (with_block (Some i) x.from there) there) (ne_eqb x.from 1 (out zero x refl))
        ∙ ap (λ (y : Bool). cond y (with_block (Some i) x.from there) there) e

    still : Fresh arcs (look 1 i x there)
    still k a at to = by (x.to == 1) refl
      where
        old : is_there there a.from ≡ false
        old = fresh (suc k) a at to

        by : (y : Bool) → (x.to == 1) ≡ y → is_there (look 1 i x there) a.from ≡ false
        by false e = ap (λ (l : List Arrival). is_there l a.from) (here false e) ∙ old
        by true e =
            let to_one = eqb-true x.to 1 e in
            let other : x.from ≡ a.from → ⊥ =
            (λ s. elim (all_behind x arcs up k a at)
            [ inl l ↦ omega (arith, l, s) | inr l ↦ (let m = l.1 in omega (arith, m, to_one, to)) ]) in
            ap (λ (l : List Arrival). is_there l a.from)
            (here true e ∙ cond-false (is_there there x.from) there
            (there ++ record { block = x.from; link = Some i } ∷ []) (fresh zero x refl to_one))
            ∙ is_there_append there (record { block = x.from; link = Some i } ∷ []) a.from
            ∙ or_from _ _ old (or_from _ _ (ne_eqb x.from a.from other) refl)

-- All arcs into the exit are on the tree.
pub exit_on_tree : (net : NetValue) → IsNet net → (i : ℕ) (arc : FlowArc) → slice_get net.arcs i ≡ Some arc
    → arc.to ≡ 1 → on_tree net i ≡ true
exit_on_tree net is i arc at to = from net.blocks (HasShape-from_IsNet net is).least
  where
    two : List Arrival
    two = exit_alone ++ record { block = 0; link = None } ∷ []

    outside : (k : ℕ) (arc : FlowArc) → slice_get net.arcs k ≡ Some arc → is_outside net.blocks arc ≡ false
    outside k arc at = subst (λ (x : FlowArc). is_outside net.blocks x ≡ false)
        (get_or_from_slice_get net.arcs k arc arc at)
        ((HasShape-from_IsNet net is).inside k arc (slice_get_within net.arcs k arc at))

    out : NoneOut net.arcs
    out k arc at e =
        let parts = or_parts (nat_le net.blocks arc.from || nat_le net.blocks arc.to || (arc.to == 0)) (arc.from == 1)
        (outside k arc at) in
        both_ways (arc.from == 1) parts.1 (eq-eqb arc.from 1 e)

    fresh : Fresh net.arcs two
    fresh k arc at to =
        let entry : is_wrong_entry arc ≡ false = subst (λ (x : FlowArc). is_wrong_entry x ≡ false)
        (get_or_from_slice_get net.arcs k arc arc at)
        ((HasShape-from_IsNet net is).entries k arc (slice_get_within net.arcs k arc at)) in
        or_from _ _ (ne_eqb 1 arc.from (λ e. out k arc at (sym e))) (or_from _ _ (ne_eqb 0 arc.from (λ e.
        both_ways (not (arc.to == 2))
        (sym (cond-true (arc.from == 0) (not (arc.to == 2)) (arc.to == 2) (eq-eqb arc.from 0 (sym e))) ∙ entry)
        (ap not (ne_eqb arc.to 2 (λ h. omega (arith, h, to)))))) refl)

    from : (n : ℕ) → 3 ≤ n → is_linked (after_blocks net.arcs n 0 exit_alone) i ≡ true
    from zero l = absurd (omega (arith, l))
    from (suc n) l =
        extends_linked (look_along 1 0 net.arcs two) (after_blocks net.arcs n 1 (look_along 1 0 net.arcs two)) i
        (blocks_extends net.arcs n 1 (look_along 1 0 net.arcs two))
        (subst (λ j. is_linked (look_along 1 0 net.arcs two) j ≡ true) (omega arith)
        (along_linked 0 net.arcs two (HasShape-from_IsNet net is).ascend out fresh i arc at to))
