-- A circulation is determined by its numbers off the tree.
use Rattle.std.proofs.Common.{◌≡◌, refl, sym, ap, subst, ◌∙◌, ℕ, zero, suc, ◌<◌, ◌≤◌, ◌==◌, List, []}
use Rattle.std.proofs.Common.{◌∷◌, ◌++◌, length, get_or, Bool, true, false, cond, ◌⊎◌, inl, inr, arith, eq-eqb}
use Rattle.std.proofs.Common.{eqb-true, append_assoc, append-nil, pos, ◌+ℤ◌, ext_get_or}
use Rattle.std.specs.Prelude.{ℤ, Option, Some, None, slice_get, ◌-ℤ◌}
use Rattle.std.proofs.lemmas.Bool.{both_ways, or_cases, or_from, or_parts, cond-true, cond-false}
use Rattle.std.proofs.lemmas.Bool.{cases_Bool, cases_eq, cases_lt, ne_eqb, leb-false}
use Rattle.std.proofs.lemmas.Int.{ints}
use Rattle.std.proofs.lemmas.Option.{slice_get_within, get_or_from_slice_get}
use Rattle.std.proofs.lemmas.List.{get_or_past}
use Rattle.cov_base.specs.declared.net.FlowArc.{FlowArc}
use Rattle.cov_base.specs.Net.{NetValue, IsNet, is_outside}
use Rattle.cov_base.proofs.NetLaws.{HasShape-from_IsNet}
use Rattle.span_tree.specs.declared.arrival.Arrival.{Arrival}
use Rattle.span_tree.specs.Tree.{exit_alone, is_there, is_link, is_linked, on_tree}
use Rattle.span_tree.specs.Circulation.{sum_where, sum_in, sum_out, at_block, Balance, IsCirculation}
use Rattle.span_tree.proofs.Grown.{Came, Grown, is_linked_append}
use Rattle.span_tree.proofs.Grown.{there_more, there_last, arrivals_grown}

-- ---- sums

-- where each arc that passes has 0, the sum is 0
sum_none : (p : FlowArc → Bool) (arcs : List FlowArc) (ds : List ℤ)
    → ((k : ℕ) (arc : FlowArc) → slice_get arcs k ≡ Some arc → p arc ≡ true → get_or ds k (pos 0) ≡ pos 0)
    → sum_where p arcs ds ≡ pos 0
sum_none p [] ds h = refl
sum_none p (arc ∷ arcs) [] h = refl
sum_none p (arc ∷ arcs) (d ∷ ds) h = go (p arc) refl (sum_none p arcs ds (λ k a at q. h (suc k) a at q))
  where
    go : (x : Bool) → p arc ≡ x → sum_where p arcs ds ≡ pos 0 → cond x d (pos 0) +ℤ sum_where p arcs ds ≡ pos 0
    go true e r = (let z : d ≡ pos 0 = h zero arc refl e in omega (arith, ints, z, r))
    go false e r = omega (arith, ints, r)

-- where each other one that passes has 0, the sum is the number of the one
sum_one : (p : FlowArc → Bool) (arcs : List FlowArc) (ds : List ℤ) (i : ℕ) (one : FlowArc)
    → slice_get arcs i ≡ Some one → p one ≡ true
    → ((k : ℕ) (arc : FlowArc) → slice_get arcs k ≡ Some arc → p arc ≡ true → (k ≡ i → ⊥) → get_or ds k (pos 0) ≡ pos 0)
    → sum_where p arcs ds ≡ get_or ds i (pos 0)
sum_one p [] ds i one at q h = absurd (let never : None ≡ Some one = at in cc)
sum_one p (arc ∷ arcs) [] i one at q h = refl
sum_one p (arc ∷ arcs) (d ∷ ds) zero one at q h =
    let same : arc ≡ one = (let e : Some arc ≡ Some one = at in cc) in
    let rest = sum_none p arcs ds (λ k a at q. h (suc k) a at q (λ e. omega (arith, e))) in
    let here : cond (p arc) d (pos 0) ≡ d = cond-true (p arc) d (pos 0) (ap p same ∙ q) in
    omega (arith, ints, rest, here)
sum_one p (arc ∷ arcs) (d ∷ ds) (suc i) one at q h =
    let rest = sum_one p arcs ds i one at q (λ k a at q other. h (suc k) a at q (λ e. other (omega (arith, e)))) in
    go (p arc) refl rest
  where
    go : (x : Bool) → p arc ≡ x → sum_where p arcs ds ≡ get_or ds i (pos 0) → cond x d (pos 0) +ℤ sum_where p arcs ds
        ≡ get_or ds i (pos 0)
    go true e r = (let z : d ≡ pos 0 = h zero arc refl e (λ e. omega (arith, e)) in omega (arith, ints, z, r))
    go false e r = omega (arith, ints, r)

-- ---- numbers that vanish

-- the arcs by which those that are there came join those that are there
abbrev pub Inner : List FlowArc → List Arrival → Type 0
Inner arcs before = (i : ℕ) (arc : FlowArc) → is_linked before i ≡ true → slice_get arcs i ≡ Some arc
    → (is_there before arc.from ≡ true) × (is_there before arc.to ≡ true)

-- all numbers are 0 but those of the arcs by which these came
record Off (ds : List ℤ) (back : ℤ) (came : List Arrival) : Type 0 where
  pub numbers : (i : ℕ) → is_linked came i ≡ false → get_or ds i (pos 0) ≡ pos 0
  pub entry : is_there came 0 ≡ false → back ≡ pos 0

pub inner_more : (arcs : List FlowArc) (before : List Arrival) (a : Arrival) → Inner arcs before
    → Came arcs before a.block a.link → Inner arcs (before ++ a ∷ [])
inner_more arcs before a inner came i arc linked at =
    elim (or_cases (is_linked before i) (is_linked (a ∷ []) i) (sym (is_linked_append before (a ∷ []) i) ∙ linked)) [
      | inl old ↦
          (let h = inner i arc old at in
          (there_more before (a ∷ []) arc.from h.0, there_more before (a ∷ []) arc.to h.1))
      | inr new ↦ by a.link came (elim (or_cases (is_link a.link i) false new) [ inl h ↦ h | inr never ↦ absurd (cc) ])
    ]
  where
    by : (link : Option ℕ) → Came arcs before a.block link → is_link link i ≡ true
        → (is_there (before ++ a ∷ []) arc.from ≡ true) × (is_there (before ++ a ∷ []) arc.to ≡ true)
    by None came e = absurd (cc)
    by (Some k) (other, where_, entry, joins) e =
        let same : other ≡ arc = (let h : Some other ≡ Some arc = sym where_ ∙ ap (slice_get arcs) (eqb-true k i e)
        ∙ at in cc) in
        elim joins [
          | inl h ↦ (
            subst (λ b. is_there (before ++ a ∷ []) b ≡ true) (sym h.0 ∙ ap (λ (x : FlowArc). x.from) same)
                (there_last before a),
            there_more before (a ∷ []) arc.to (subst (λ (x : FlowArc). is_there before x.to ≡ true) same h.1),
          )
          | inr h ↦ (
            there_more before (a ∷ []) arc.from (subst (λ (x : FlowArc). is_there before x.from ≡ true) same h.1),
            subst (λ b. is_there (before ++ a ∷ []) b ≡ true) (sym h.0 ∙ ap (λ (x : FlowArc). x.to) same)
                (there_last before a),
          )
        ]

-- two blocks of which one is there and one isn't are two
apart : (before : List Arrival) (a b : ℕ) → is_there before a ≡ true → is_there before b ≡ false → a ≡ b → ⊥
apart before a b x y e = both_ways _ y (subst (λ c. is_there before c ≡ true) e x)

-- the last that came: its arc has 0 too
one_less : (net : NetValue) (ds : List ℤ) (back : ℤ) (before : List Arrival) (b : ℕ) (link : Option ℕ)
    → Balance net ds back → b < net.blocks
    → is_there before 1 ≡ true → Inner net.arcs before → is_there before b ≡ false → Came net.arcs before b link
    → Off ds back (before ++ record { block = b; link = link } ∷ []) → Off ds back before
one_less net ds back before b None balance within exit inner new came off = record {
  numbers = λ i l. off.numbers i (is_linked_append before (record { block = b; link = None } ∷ []) i
      ∙ or_from _ _ l refl);
  entry = λ gone. (
      let ins = sum_none (λ arc. arc.to == b) net.arcs ds
      (λ k arc at e. zero_at k arc at (inr (eqb-true arc.to b e))) in
      let outs = sum_none (λ arc. arc.from == b) net.arcs ds
      (λ k arc at e. zero_at k arc at (inl (eqb-true arc.from b e))) in
      let even = balance b within in
      let zeroth : at_block 0 back b ≡ back = cond-true (b == 0) back (pos 0) (eq-eqb b 0 came) in
      let first : at_block 1 back b ≡ pos 0 =
      cond-false (b == 1) back (pos 0) (ne_eqb b 1 (λ e. omega (arith, e, came))) in
      omega (arith, ints, ins, outs, even, zeroth, first));
}
  where
    zero_at : (k : ℕ) (arc : FlowArc) → slice_get net.arcs k ≡ Some arc → (arc.from ≡ b) ⊎ (arc.to ≡ b)
        → get_or ds k (pos 0) ≡ pos 0
    zero_at k arc at touches = elim (cases_Bool (is_linked before k)) [
      | inl l ↦
          absurd (let h = inner k arc l at in
          elim touches [ inl e ↦ apart before arc.from b h.0 new e | inr e ↦ apart before arc.to b h.1 new e ])
      | inr l ↦ off.numbers k (is_linked_append before (record { block = b; link = None } ∷ []) k ∙ or_from _ _ l refl)
    ]
one_less net ds back before b (Some i) balance within exit inner new (arc, at, entry, joins) off = record {
  numbers = λ k l. elim (cases_eq i k) [
    | inl same ↦ subst (λ k. get_or ds k (pos 0) ≡ pos 0) same mine
    | inr other ↦ off.numbers k (is_linked_append before (record { block = b; link = Some i } ∷ []) k
        ∙ or_from _ _ l (or_from _ _ (ne_eqb i k other) refl))
  ];
  entry = λ gone. absurd (both_ways _ gone entry);
}
  where
    others : (k : ℕ) (arc : FlowArc) → slice_get net.arcs k ≡ Some arc → (arc.from ≡ b) ⊎ (arc.to ≡ b) → (k ≡ i → ⊥)
        → get_or ds k (pos 0) ≡ pos 0
    others k arc at touches other = elim (cases_Bool (is_linked before k)) [
      | inl l ↦
          absurd (let h = inner k arc l at in
          elim touches [ inl e ↦ apart before arc.from b h.0 new e | inr e ↦ apart before arc.to b h.1 new e ])
      | inr l ↦ off.numbers k (is_linked_append before (record { block = b; link = Some i } ∷ []) k
          ∙ or_from _ _ l (or_from _ _ (ne_eqb i k (λ e. other (sym e))) refl))
    ]

    -- an arc at the block that isn't the one, in its own words
    none_of : (p : FlowArc → Bool) → ((arc : FlowArc) → p arc ≡ true → (arc.from ≡ b) ⊎ (arc.to ≡ b)) → p arc ≡ false
        → sum_where p net.arcs ds ≡ pos 0
    none_of p touches not_mine = sum_none p net.arcs ds (λ k a h q. elim (cases_eq k i) [
      | inl same ↦
          absurd
          (both_ways _ not_mine
          (subst (λ (x : FlowArc). p x ≡ true) (let e : Some a ≡ Some arc = sym h ∙ ap (slice_get net.arcs) same ∙ at in
          cc) q))
      | inr other ↦ others k a h (touches a q) other
    ])

    one_of : (p : FlowArc → Bool) → ((arc : FlowArc) → p arc ≡ true → (arc.from ≡ b) ⊎ (arc.to ≡ b)) → p arc ≡ true
        → sum_where p net.arcs ds ≡ get_or ds i (pos 0)
    one_of p touches is_mine = sum_one p net.arcs ds i arc at is_mine
        (λ k a h q other. others k a h (touches a q) other)

    zeroth : at_block 0 back b ≡ pos 0
    zeroth = cond-false (b == 0) back (pos 0) (ne_eqb b 0 (λ e. apart before 0 b entry new (sym e)))

    first : at_block 1 back b ≡ pos 0
    first = cond-false (b == 1) back (pos 0) (ne_eqb b 1 (λ e. apart before 1 b exit new (sym e)))

    mine : get_or ds i (pos 0) ≡ pos 0
    mine = elim joins [
      | inl h ↦ (
          let ins = none_of (λ arc. arc.to == b) (λ arc e. inr (eqb-true arc.to b e))
          (ne_eqb arc.to b (apart before arc.to b h.1 new)) in
          let outs = one_of (λ arc. arc.from == b) (λ arc e. inl (eqb-true arc.from b e)) (eq-eqb arc.from b h.0) in
          let even = balance b within in
          let z = zeroth in let f = first in
          omega (arith, ints, ins, outs, even, z, f))
      | inr h ↦ (
          let ins = one_of (λ arc. arc.to == b) (λ arc e. inr (eqb-true arc.to b e)) (eq-eqb arc.to b h.0) in
          let outs = none_of (λ arc. arc.from == b) (λ arc e. inl (eqb-true arc.from b e))
          (ne_eqb arc.from b (apart before arc.from b h.1 new)) in
          let even = balance b within in
          let z = zeroth in let f = first in
          omega (arith, ints, ins, outs, even, z, f))
    ]

-- each of these is a block of the net
abbrev Within : ℕ → List Arrival → Type 0
Within blocks [] = Unit {0}
Within blocks (a ∷ came) = (a.block < blocks) × Within blocks came

vanish : (net : NetValue) (ds : List ℤ) (back : ℤ) (before rest : List Arrival) → Balance net ds back
    → Within net.blocks rest
    → is_there before 1 ≡ true → Inner net.arcs before → Grown net.arcs before rest → Off ds back (before ++ rest)
    → Off ds back before
vanish net ds back before [] balance within exit inner grown off = subst (Off ds back) (append-nil before) off
vanish net ds back before (a ∷ rest) balance within exit inner grown off =
    one_less net ds back before a.block a.link balance within.0 exit inner grown.0 grown.1
    (vanish net ds back (before ++ a ∷ []) rest balance within.1 (there_more before (a ∷ []) 1 exit)
    (inner_more net.arcs before a inner grown.1) grown.2
    (subst (Off ds back) (sym (append_assoc before (a ∷ []) rest)) off))

-- ---- two circulations

pub inside : (net : NetValue) → IsNet net → (k : ℕ) (arc : FlowArc) → slice_get net.arcs k ≡ Some arc
    → (arc.from < net.blocks) × (arc.to < net.blocks)
inside net is k arc at =
    let shape = HasShape-from_IsNet net is in
    let within = slice_get_within net.arcs k arc at in
    let out : is_outside net.blocks arc ≡ false = subst (λ (x : FlowArc). is_outside net.blocks x ≡ false)
    (get_or_from_slice_get net.arcs k arc arc at) (shape.inside k arc within) in
    let a = or_parts _ _ (or_parts _ _ (or_parts _ _ out).0).0 in
    (leb-false net.blocks arc.from a.0, leb-false net.blocks arc.to a.1)

grown_within : (net : NetValue) → IsNet net → (before rest : List Arrival) → Grown net.arcs before rest
    → Within net.blocks rest
grown_within net is before [] grown = tt
grown_within net is before (a ∷ rest) grown = (by a.link grown.1, grown_within net is (before ++ a ∷ []) rest grown.2)
  where
    by : (link : Option ℕ) → Came net.arcs before a.block link → a.block < net.blocks
    by None came = (let l = (HasShape-from_IsNet net is).least in omega (arith, l, came))
    by (Some i) (arc, at, entry, joins) =
        (let h = inside net is i arc at in
        elim joins [ inl e ↦ subst (λ b. b < net.blocks) e.0 h.0 | inr e ↦ subst (λ b. b < net.blocks) e.0 h.1 ])

-- numbers that balance, and are 0 off the tree, are 0
zero_on_all : (net : NetValue) → IsNet net → (ds : List ℤ) (back : ℤ) → Balance net ds back
    → ((i : ℕ) → on_tree net i ≡ false → get_or ds i (pos 0) ≡ pos 0)
    → ((i : ℕ) → get_or ds i (pos 0) ≡ pos 0) × (back ≡ pos 0)
zero_on_all net is ds back balance zero_off =
    let looked = arrivals_grown net (let l = (HasShape-from_IsNet net is).least in omega (arith, l)) in
    let grown = looked.grown in
    let off : Off ds back (exit_alone ++ grown.rest) =
    subst (Off ds back) grown.first
    (record { numbers = zero_off; entry = λ gone. absurd (both_ways _ gone (looked.more 0 refl)) }) in
    let first = vanish net ds back exit_alone grown.rest balance
    (grown_within net is exit_alone grown.rest grown.grown) refl (λ i arc l at. absurd (cc)) grown.grown off in
    ((λ i. first.numbers i refl), first.entry refl)

abbrev differences : List ℤ → List ℤ → List ℤ
differences [] ys = []
differences (x ∷ xs) [] = []
differences (x ∷ xs) (y ∷ ys) = (x -ℤ y) ∷ differences xs ys

sum_difference : (p : FlowArc → Bool) (arcs : List FlowArc) (xs ys : List ℤ) → length xs ≡ length arcs
    → length ys ≡ length arcs
    → sum_where p arcs (differences xs ys) ≡ sum_where p arcs xs -ℤ sum_where p arcs ys
sum_difference p [] xs ys lx ly = omega (arith, ints)
sum_difference p (arc ∷ arcs) [] ys lx ly = absurd (omega (arith, lx))
sum_difference p (arc ∷ arcs) (x ∷ xs) [] lx ly = absurd (omega (arith, ly))
sum_difference p (arc ∷ arcs) (x ∷ xs) (y ∷ ys) lx ly =
    go (p arc) (sum_difference p arcs xs ys (omega (arith, lx)) (omega (arith, ly)))
  where
    go : (c : Bool) → sum_where p arcs (differences xs ys) ≡ sum_where p arcs xs -ℤ sum_where p arcs ys
        → cond c (x -ℤ y) (pos 0) +ℤ sum_where p arcs (differences xs ys) ≡ (cond c x (pos 0) +ℤ sum_where p arcs xs)
        -ℤ (cond c y (pos 0) +ℤ sum_where p arcs ys)
    go true e = omega (arith, ints, e)
    go false e = omega (arith, ints, e)

difference_at : (xs ys : List ℤ) → length xs ≡ length ys → (i : ℕ) → get_or (differences xs ys) i (pos 0)
    ≡ get_or xs i (pos 0) -ℤ get_or ys i (pos 0)
difference_at [] [] l i = omega (arith, ints)
difference_at [] (y ∷ ys) l i = absurd (omega (arith, l))
difference_at (x ∷ xs) [] l i = absurd (omega (arith, l))
difference_at (x ∷ xs) (y ∷ ys) l zero = refl
difference_at (x ∷ xs) (y ∷ ys) l (suc i) = difference_at xs ys (omega (arith, l)) i

-- A circulation is determined by its numbers off the tree.
pub one_circulation : (net : NetValue) → IsNet net
    → (xs ys : List ℤ) (x : IsCirculation net xs) (y : IsCirculation net ys)
    → ((i : ℕ) → i < length net.arcs → on_tree net i ≡ false → get_or xs i (pos 0) ≡ get_or ys i (pos 0))
    → (xs ≡ ys) × (x.back ≡ y.back)
one_circulation net is xs ys x y agree =
    let long : length xs ≡ length ys = x.long ∙ sym y.long in
    let all = zero_on_all net is (differences xs ys) (x.back -ℤ y.back) balance
    (λ i off. at i off (cases_lt i (length net.arcs))) in (
      ext_get_or (pos 0) xs ys long
          (λ i l. (let e = all.0 i in let d = difference_at xs ys long i in omega (arith, ints, e, d))),
      (let e = all.1 in omega (arith, ints, e)),
    )
  where
    balance : Balance net (differences xs ys) (x.back -ℤ y.back)
    balance b within =
        let ins = sum_difference (λ arc. arc.to == b) net.arcs xs ys x.long y.long in
        let outs = sum_difference (λ arc. arc.from == b) net.arcs xs ys x.long y.long in
        let ex = x.balance b within in
        let ey = y.balance b within in
        go (b == 0) (b == 1) (sum_in b net.arcs (differences xs ys)) (sum_out b net.arcs (differences xs ys))
        (sum_in b net.arcs xs) (sum_out b net.arcs xs) (sum_in b net.arcs ys) (sum_out b net.arcs ys) ins outs ex ey
      where
        go : (s t : Bool) (di do_ ix ox iy oy : ℤ) → di ≡ ix -ℤ iy → do_ ≡ ox -ℤ oy → ix +ℤ cond s x.back (pos 0)
            ≡ ox +ℤ cond t x.back (pos 0) → iy +ℤ cond s y.back (pos 0) ≡ oy +ℤ cond t y.back (pos 0)
            → di +ℤ cond s (x.back -ℤ y.back) (pos 0) ≡ do_ +ℤ cond t (x.back -ℤ y.back) (pos 0)
        go true true di do_ ix ox iy oy a b c d = omega (arith, ints, a, b, c, d)
        go true false di do_ ix ox iy oy a b c d = omega (arith, ints, a, b, c, d)
        go false true di do_ ix ox iy oy a b c d = omega (arith, ints, a, b, c, d)
        go false false di do_ ix ox iy oy a b c d = omega (arith, ints, a, b, c, d)

    at : (i : ℕ) → on_tree net i ≡ false → (i < length net.arcs) ⊎ (length net.arcs ≤ i)
        → get_or (differences xs ys) i (pos 0) ≡ pos 0
    at i off (inl l) = (let e = agree i l off in let d = difference_at xs ys (x.long ∙ sym y.long) i in
        omega (arith, ints, e, d))
    at i off (inr past) =
        let d = difference_at xs ys (x.long ∙ sym y.long) i in
        let lx = x.long in let ly = y.long in
        let a = get_or_past xs i (pos 0) (omega (arith, lx, past)) in
        let b = get_or_past ys i (pos 0) (omega (arith, ly, past)) in
        omega (arith, ints, d, a, b)
