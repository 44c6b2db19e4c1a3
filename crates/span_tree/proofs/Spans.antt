-- Every block of a net comes, each once, and the arcs into the exit are on the tree.
use Rattle.std.proofs.Common.{◌≡◌, refl, sym, ap, subst, ◌∙◌, ℕ, zero, suc, ◌+◌, ◌<◌, ◌≤◌, ◌==◌, List, []}
use Rattle.std.proofs.Common.{◌∷◌, ◌++◌, length, Bool, true, false, cond, ◌⊎◌, inl, inr, arith, eq-eqb}
use Rattle.std.proofs.Common.{eqb-true, append_assoc, append-nil, length-append}
use Rattle.std.specs.Prelude.{Option, Some, None, slice_get}
use Rattle.std.proofs.lemmas.Bool.{or_cases, or_left, or_from, and_parts, cond-true}
use Rattle.std.proofs.lemmas.Bool.{cond-false, cases_Bool, cases_eq, ne_eqb}
use Rattle.std.proofs.lemmas.Option.{slice_get_within, none-some}
use Rattle.cov_base.specs.declared.net.FlowArc.{FlowArc}
use Rattle.cov_base.specs.Net.{NetValue, IsNet, has_arc, joins, Leads}
use Rattle.cov_base.proofs.NetLaws.{HasShape-from_IsNet}
use Rattle.span_tree.specs.declared.arrival.Arrival.{Arrival}
use Rattle.span_tree.specs.Tree.{exit_alone, is_there, with_block, look, look_along, after_block, after_arrival}
use Rattle.span_tree.specs.Tree.{after_blocks}
use Rattle.span_tree.specs.Tree.{arrivals, is_linked}
use Rattle.span_tree.proofs.Grown.{is_there_append, is_linked_append}
use Rattle.span_tree.proofs.Grown.{there_more, there_last, at_there, arrivals_grown}
use Rattle.span_tree.proofs.Unique.{inside}

-- ---- what is there stays in its place

abbrev pub Extends : List Arrival → List Arrival → Type 0
Extends there new = (rest : List Arrival) × (new ≡ there ++ rest)

stays : (there : List Arrival) → Extends there there
stays there = ([], sym (append-nil there))

extends_then : (a b c : List Arrival) → Extends a b → Extends b c → Extends a c
extends_then a b c (r, e) (s, f) = (r ++ s, f ∙ ap (λ (l : List Arrival). l ++ s) e ∙ append_assoc a r s)

with_extends : (link : Option ℕ) (b : ℕ) (there : List Arrival) → Extends there (with_block link b there)
with_extends link b there = go (is_there there b)
  where
    go : (x : Bool) → Extends there (cond x there (there ++ record { block = b; link = link } ∷ []))
    go true = stays there
    go false = (record { block = b; link = link } ∷ [], refl)

pub look_extends : (block i : ℕ) (arc : FlowArc) (there : List Arrival) → Extends there (look block i arc there)
look_extends block i arc there = go (arc.from == block) (arc.to == block)
  where
    go : (x y : Bool) → Extends there
        (cond x (with_block (Some i) arc.to there) (cond y (with_block (Some i) arc.from there) there))
    go true y = with_extends (Some i) arc.to there
    go false true = with_extends (Some i) arc.from there
    go false false = stays there

pub along_extends : (block i : ℕ) (arcs : List FlowArc) (there : List Arrival)
    → Extends there (look_along block i arcs there)
along_extends block i [] there = stays there
along_extends block i (arc ∷ arcs) there =
    extends_then there (look block i arc there) (look_along block (suc i) arcs (look block i arc there))
    (look_extends block i arc there) (along_extends block (suc i) arcs (look block i arc there))

block_extends : (arcs : List FlowArc) (block : ℕ) (there : List Arrival) → Extends there (after_block arcs block there)
block_extends arcs block there = go (block == 1)
  where
    go : (x : Bool) → Extends there (look_along block 0 arcs (cond x (with_block None 0 there) there))
    go true = extends_then there (with_block None 0 there) (look_along block 0 arcs (with_block None 0 there))
        (with_extends None 0 there) (along_extends block 0 arcs (with_block None 0 there))
    go false = along_extends block 0 arcs there

pub blocks_extends : (arcs : List FlowArc) (n at : ℕ) (there : List Arrival)
    → Extends there (after_blocks arcs n at there)
blocks_extends arcs zero at there = stays there
blocks_extends arcs (suc n) at there = go (slice_get there at) (λ l. blocks_extends arcs n (suc at) l)
  where
    go : (o : Option Arrival) → ((l : List Arrival) → Extends l (after_blocks arcs n (suc at) l))
        → Extends there (after_blocks arcs n (suc at) (after_arrival arcs o there))
    go None rec = rec there
    go (Some a) rec = extends_then there (after_block arcs a.block there)
        (after_blocks arcs n (suc at) (after_block arcs a.block there)) (block_extends arcs a.block there)
        (rec (after_block arcs a.block there))

pub extends_there : (a b : List Arrival) (x : ℕ) → Extends a b → is_there a x ≡ true → is_there b x ≡ true
extends_there a b x (r, e) h = subst (λ (l : List Arrival). is_there l x ≡ true) (sym e) (there_more a r x h)

pub extends_linked : (a b : List Arrival) (i : ℕ) → Extends a b → is_linked a i ≡ true → is_linked b i ≡ true
extends_linked a b i (r, e) h = subst (λ (l : List Arrival). is_linked l i ≡ true) (sym e)
    (is_linked_append a r i ∙ or_left _ _ h)

get_append : (a r : List Arrival) (k : ℕ) → k < length a → slice_get (a ++ r) k ≡ slice_get a k
get_append [] r k l = absurd (omega (arith, l))
get_append (x ∷ a) r zero l = refl
get_append (x ∷ a) r (suc k) l = get_append a r k (omega (arith, l))

extends_get : (a b : List Arrival) (k : ℕ) → Extends a b → k < length a → slice_get b k ≡ slice_get a k
extends_get a b k (r, e) l = ap (λ (l : List Arrival). slice_get l k) e ∙ get_append a r k l

-- ---- room: each comes once, and is a block of the net

abbrev missing : ℕ → List Arrival → ℕ
missing zero there = 0
missing (suc n) there = cond (is_there there n) (missing n there) (suc (missing n there))

missing_same : (n : ℕ) (there : List Arrival) (a : Arrival) → n ≤ a.block → missing n (there ++ a ∷ [])
    ≡ missing n there
missing_same zero there a l = refl
missing_same (suc n) there a l = go (is_there there n) refl (missing_same n there a (omega (arith, l)))
  where
    go : (x : Bool) → is_there there n ≡ x → missing n (there ++ a ∷ []) ≡ missing n there
        → cond (is_there (there ++ a ∷ []) n) (missing n (there ++ a ∷ [])) (suc (missing n (there ++ a ∷ [])))
        ≡ cond x (missing n there) (suc (missing n there))
    go true e r = cond-true _ _ _ (there_more there (a ∷ []) n e) ∙ r
    go false e r =
        cond-false _ _ _ (is_there_append there (a ∷ []) n
        ∙ or_from _ _ e (or_from _ _ (ne_eqb a.block n (λ h. omega (arith, l, h))) refl)) ∙ ap suc r

missing_less : (n : ℕ) (there : List Arrival) (a : Arrival) → a.block < n → is_there there a.block ≡ false
    → suc (missing n (there ++ a ∷ [])) ≡ missing n there
missing_less zero there a l new = absurd (omega (arith, l))
missing_less (suc n) there a l new = by (cases_eq a.block n) (λ l. missing_less n there a l new)
  where
    by : (a.block ≡ n) ⊎ (a.block ≡ n → ⊥) → (a.block < n → suc (missing n (there ++ a ∷ [])) ≡ missing n there)
        → suc (missing (suc n) (there ++ a ∷ [])) ≡ missing (suc n) there
    by (inl e) rec =
        let here : missing (suc n) (there ++ a ∷ []) ≡ missing n (there ++ a ∷ []) =
        cond-true _ _ _ (subst (λ b. is_there (there ++ a ∷ []) b ≡ true) e (there_last there a)) in
        let gone : missing (suc n) there ≡ suc (missing n there) =
        cond-false _ _ _ (subst (λ b. is_there there b ≡ false) e new) in
        let same = missing_same n there a (omega (arith, e)) in
        omega (arith, here, gone, same)
    by (inr other) rec = go (is_there there n) refl (rec (omega (arith, l, other)))
      where
        go : (x : Bool) → is_there there n ≡ x → suc (missing n (there ++ a ∷ [])) ≡ missing n there
            → suc (cond (is_there (there ++ a ∷ []) n) (missing n (there ++ a ∷ []))
            (suc (missing n (there ++ a ∷ [])))) ≡ cond x (missing n there) (suc (missing n there))
        go true e r = ap suc (cond-true _ _ _ (there_more there (a ∷ []) n e)) ∙ r
        go false e r =
            ap suc
            (cond-false _ _ _ (is_there_append there (a ∷ []) n
            ∙ or_from _ _ e (or_from _ _ (ne_eqb a.block n other) refl))) ∙ ap suc r

abbrev Roomy : ℕ → List Arrival → Type 0
Roomy n there = length there + missing n there ≡ n

with_roomy : (n : ℕ) (link : Option ℕ) (b : ℕ) (there : List Arrival) → b < n → Roomy n there
    → Roomy n (with_block link b there)
with_roomy n link b there l h = go (is_there there b) refl
  where
    new : Arrival
    new = record { block = b; link = link }

    go : (x : Bool) → is_there there b ≡ x → Roomy n (cond x there (there ++ new ∷ []))
    go true e = h
    go false e = (let less = missing_less n there new l e in let long = length-append there (new ∷ []) in
        omega (arith, h, less, long))

-- the ends of arcs are blocks
abbrev EndsBelow : ℕ → List FlowArc → Type 0
EndsBelow n arcs = (k : ℕ) (arc : FlowArc) → slice_get arcs k ≡ Some arc → (arc.from < n) × (arc.to < n)

look_roomy : (n block i : ℕ) (arc : FlowArc) (there : List Arrival) → arc.from < n → arc.to < n → Roomy n there
    → Roomy n (look block i arc there)
look_roomy n block i arc there f t h = go (arc.from == block) (arc.to == block)
  where
    go : (x y : Bool)
        → Roomy n (cond x (with_block (Some i) arc.to there) (cond y (with_block (Some i) arc.from there) there))
    go true y = with_roomy n (Some i) arc.to there t h
    go false true = with_roomy n (Some i) arc.from there f h
    go false false = h

along_roomy : (n block i : ℕ) (arcs : List FlowArc) (there : List Arrival) → EndsBelow n arcs → Roomy n there
    → Roomy n (look_along block i arcs there)
along_roomy n block i [] there ends h = h
along_roomy n block i (arc ∷ arcs) there ends h =
    along_roomy n block (suc i) arcs (look block i arc there) (λ k a at. ends (suc k) a at)
    (look_roomy n block i arc there (ends zero arc refl).0 (ends zero arc refl).1 h)

block_roomy : (n : ℕ) (arcs : List FlowArc) (block : ℕ) (there : List Arrival) → 0 < n → EndsBelow n arcs
    → Roomy n there → Roomy n (after_block arcs block there)
block_roomy n arcs block there some ends h = go (block == 1)
  where
    go : (x : Bool) → Roomy n (look_along block 0 arcs (cond x (with_block None 0 there) there))
    go true = along_roomy n block 0 arcs (with_block None 0 there) ends (with_roomy n None 0 there some h)
    go false = along_roomy n block 0 arcs there ends h

blocks_roomy : (n : ℕ) (arcs : List FlowArc) (m at : ℕ) (there : List Arrival) → 0 < n → EndsBelow n arcs
    → Roomy n there → Roomy n (after_blocks arcs m at there)
blocks_roomy n arcs zero at there some ends h = h
blocks_roomy n arcs (suc m) at there some ends h =
    go (slice_get there at) (λ l. blocks_roomy n arcs m (suc at) l some ends)
  where
    go : (o : Option Arrival) → ((l : List Arrival) → Roomy n l → Roomy n (after_blocks arcs m (suc at) l))
        → Roomy n (after_blocks arcs m (suc at) (after_arrival arcs o there))
    go None rec = rec there h
    go (Some a) rec = rec (after_block arcs a.block there) (block_roomy n arcs a.block there some ends h)

start_missing : (n : ℕ) → missing (suc (suc n)) exit_alone ≡ suc n
start_missing zero = refl
start_missing (suc n) =
    cond-false (is_there exit_alone (suc (suc n))) (missing (suc (suc n)) exit_alone)
    (suc (missing (suc (suc n)) exit_alone)) (or_from _ _ (ne_eqb 1 (suc (suc n)) (λ e. omega (arith, e))) refl)
    ∙ ap suc (start_missing n)

start_roomy : (n : ℕ) → 1 < n → Roomy n exit_alone
start_roomy zero l = absurd (omega (arith, l))
start_roomy (suc zero) l = absurd (omega (arith, l))
start_roomy (suc (suc n)) l = (let e = start_missing n in omega (arith, e))

-- ---- what is taken has its neighbours there

abbrev Neighbours : List FlowArc → List Arrival → ℕ → Type 0
Neighbours arcs there b = (k : ℕ) (arc : FlowArc) → slice_get arcs k ≡ Some arc
    → (arc.from ≡ b → is_there there arc.to ≡ true) × (arc.to ≡ b → is_there there arc.from ≡ true)

with_there : (link : Option ℕ) (b : ℕ) (there : List Arrival) → is_there (with_block link b there) b ≡ true
with_there link b there = go (is_there there b) refl
  where
    go : (x : Bool) → is_there there b ≡ x → is_there (cond x there (there ++ record { block = b; link = link } ∷ []))
        b ≡ true
    go true e = e
    go false e = there_last there (record { block = b; link = link })

-- the ends of an arc that was looked at from a block that is there
look_there : (block i : ℕ) (arc : FlowArc) (there : List Arrival) → is_there there block ≡ true
    → (arc.from ≡ block → is_there (look block i arc there) arc.to ≡ true)
    × (arc.to ≡ block → is_there (look block i arc there) arc.from ≡ true)
look_there block i arc there mine = ((λ e. out e), (λ e. in_ e (cases_Bool (arc.from == block))))
  where
    out : arc.from ≡ block → is_there (look block i arc there) arc.to ≡ true
    out e = subst (λ (l : List Arrival). is_there l arc.to ≡ true) (sym (cond-true _ _ _ (eq-eqb arc.from block e)))
        (with_there (Some i) arc.to there)

    in_ : arc.to ≡ block → ((arc.from == block) ≡ true) ⊎ ((arc.from == block) ≡ false)
        → is_there (look block i arc there) arc.from ≡ true
    in_ e (inl same) = extends_there there (look block i arc there) arc.from (look_extends block i arc there)
        (subst (λ b. is_there there b ≡ true) (sym (eqb-true arc.from block same)) mine)
    in_ e (inr other) =
        subst (λ (l : List Arrival). is_there l arc.from ≡ true)
        (sym (cond-false (arc.from == block) (with_block (Some i) arc.to there)
        (cond (arc.to == block) (with_block (Some i) arc.from there) there) other
        ∙ cond-true (arc.to == block) (with_block (Some i) arc.from there) there (eq-eqb arc.to block e)))
        (with_there (Some i) arc.from there)

along_neighbours : (block i : ℕ) (arcs : List FlowArc) (there : List Arrival) → is_there there block ≡ true
    → Neighbours arcs (look_along block i arcs there) block
along_neighbours block i [] there mine k arc at = absurd (let never : None ≡ Some arc = at in cc)
along_neighbours block i (x ∷ arcs) there mine zero arc at =
    let same : x ≡ arc = (let h : Some x ≡ Some arc = at in cc) in
    let now = look_there block i x there mine in
    let grows = along_extends block (suc i) arcs (look block i x there) in
    subst (λ (y : FlowArc). (y.from ≡ block → is_there (look_along block i (x ∷ arcs) there) y.to ≡ true)
    × (y.to ≡ block → is_there (look_along block i (x ∷ arcs) there) y.from ≡ true)) same (
      (λ e. extends_there (look block i x there) (look_along block (suc i) arcs (look block i x there)) x.to grows
          (now.0 e)),
      (λ e. extends_there (look block i x there) (look_along block (suc i) arcs (look block i x there)) x.from grows
          (now.1 e)),
    )
along_neighbours block i (x ∷ arcs) there mine (suc k) arc at =
    along_neighbours block (suc i) arcs (look block i x there)
    (extends_there there (look block i x there) block (look_extends block i x there) mine) k arc at

block_neighbours : (arcs : List FlowArc) (block : ℕ) (there : List Arrival) → is_there there block ≡ true
    → Neighbours arcs (after_block arcs block there) block
block_neighbours arcs block there mine = go (block == 1)
  where
    go : (x : Bool) → Neighbours arcs (look_along block 0 arcs (cond x (with_block None 0 there) there)) block
    go true = along_neighbours block 0 arcs (with_block None 0 there)
        (extends_there there (with_block None 0 there) block (with_extends None 0 there) mine)
    go false = along_neighbours block 0 arcs there mine

neighbours_more : (arcs : List FlowArc) (a b : List Arrival) (block : ℕ) → Extends a b → Neighbours arcs a block
    → Neighbours arcs b block
neighbours_more arcs a b block grows h k arc at =
    let n = h k arc at in
    ((λ e. extends_there a b arc.to grows (n.0 e)), (λ e. extends_there a b arc.from grows (n.1 e)))

-- those at places before this one were taken
abbrev Taken : List FlowArc → List Arrival → ℕ → Type 0
Taken arcs there at = (k : ℕ) (a : Arrival) → k < at → slice_get there k ≡ Some a → Neighbours arcs there a.block

taken : (arcs : List FlowArc) (n at : ℕ) (there : List Arrival) → Taken arcs there at
    → Taken arcs (after_blocks arcs n at there) (at + n)
taken arcs zero at there h k a l e = h k a (omega (arith, l)) e
taken arcs (suc n) at there h k a l e = go (slice_get there at) refl (λ m h. taken arcs n (suc at) m h) k a l e
  where
    go : (o : Option Arrival) → slice_get there at ≡ o
        → ((m : List Arrival) → Taken arcs m (suc at) → Taken arcs (after_blocks arcs n (suc at) m) (suc at + n))
        → Taken arcs (after_blocks arcs n (suc at) (after_arrival arcs o there)) (at + suc n)
    go None e rec k a l f =
        rec there (λ k a l f. elim (cases_eq k at) [
          | inl same ↦ absurd (none-some a (sym e ∙ ap (slice_get there) (sym same) ∙ f))
          | inr other ↦ h k a (omega (arith, l, other)) f
        ]) k a (omega (arith, l)) f
    go (Some x) e rec k a l f = rec (after_block arcs x.block there) more k a (omega (arith, l)) f
      where
        more : Taken arcs (after_block arcs x.block there) (suc at)
        more k a l f =
            let within = slice_get_within there at x e in
            let grows = block_extends arcs x.block there in
            let old : slice_get there k ≡ Some a =
            sym (extends_get there (after_block arcs x.block there) k grows (omega (arith, l, within))) ∙ f in
            elim (cases_eq k at) [
              | inl same ↦ (
                  let this : x ≡ a = (let q : Some x ≡ Some a = sym e ∙ ap (slice_get there) (sym same) ∙ old in cc) in
                  subst (λ (y : Arrival). Neighbours arcs (after_block arcs x.block there) y.block) this
                  (block_neighbours arcs x.block there (at_there there at x e)))
              | inr other ↦ neighbours_more arcs there (after_block arcs x.block there) a.block grows
                  (h k a (omega (arith, l, other)) old)
            ]

place_of : (there : List Arrival) (b : ℕ) → is_there there b ≡ true
    → (k : ℕ) × (a : Arrival) × (slice_get there k ≡ Some a) × (a.block ≡ b)
place_of [] b h = absurd (cc)
place_of (x ∷ there) b h = elim (or_cases (x.block == b) (is_there there b) h) [
  | inl e ↦ (zero, x, refl, eqb-true x.block b e)
  | inr l ↦ (let r = place_of there b l in (suc r.0, r.1, r.2, r.3))
]

arc_place : (arcs : List FlowArc) (a b : ℕ) → has_arc arcs a b ≡ true
    → (k : ℕ) × (arc : FlowArc) × (slice_get arcs k ≡ Some arc) × (arc.from ≡ a) × (arc.to ≡ b)
arc_place [] a b h = absurd (cc)
arc_place (x ∷ arcs) a b h = elim (or_cases (joins a b x) (has_arc arcs a b) h) [
  | inl e ↦ (let p = and_parts _ _ e in (zero, x, refl, eqb-true x.from a p.0, eqb-true x.to b p.1))
  | inr l ↦ (let r = arc_place arcs a b l in (suc r.0, r.1, r.2, r.3, r.4))
]

-- As many come as there are blocks at most.
pub arrivals_roomy : (net : NetValue) → IsNet net → Roomy net.blocks (arrivals net)
arrivals_roomy net is =
    let least = (HasShape-from_IsNet net is).least in
    blocks_roomy net.blocks net.arcs net.blocks 0 exit_alone (omega (arith, least)) (inside net is)
    (start_roomy net.blocks (omega (arith, least)))

-- the neighbours of each that came have come
pub arrivals_closed : (net : NetValue) → IsNet net → (b : ℕ) → is_there (arrivals net) b ≡ true
    → Neighbours net.arcs (arrivals net) b
arrivals_closed net is b there =
    let at = place_of (arrivals net) b there in
    let within = slice_get_within (arrivals net) at.0 at.1 at.2 in
    let room : length (arrivals net) + missing net.blocks (arrivals net) ≡ net.blocks = arrivals_roomy net is in
    subst (Neighbours net.arcs (arrivals net)) at.3
    (taken net.arcs net.blocks 0 exit_alone (λ k a l e. absurd (omega (arith, l))) at.0 at.1
    (omega (arith, within, room)) at.2)

leads_there : (net : NetValue) → IsNet net → (n b : ℕ) → Leads net.arcs b n → is_there (arrivals net) b ≡ true
leads_there net is zero b leads =
    let shape = HasShape-from_IsNet net is in
    let least = shape.least in
    let entry = (arrivals_grown net (omega (arith, least))).more 0 refl in
    let arc = arc_place net.arcs 0 2 shape.entry in
    subst (λ c. is_there (arrivals net) c ≡ true) (arc.4 ∙ sym leads)
    ((arrivals_closed net is 0 entry arc.0 arc.1 arc.2).0 arc.3)
leads_there net is (suc n) b (a, leads, has) =
    let arc = arc_place net.arcs a b has in
    subst (λ c. is_there (arrivals net) c ≡ true) arc.4
    ((arrivals_closed net is a (leads_there net is n a leads) arc.0 arc.1 arc.2).0 arc.3)

-- Each block of a net comes.
pub spans : (net : NetValue) → IsNet net → (b : ℕ) → b < net.blocks → is_there (arrivals net) b ≡ true
spans net is b within = by (cases_eq b 0) (cases_eq b 1)
  where
    by : (b ≡ 0) ⊎ (b ≡ 0 → ⊥) → (b ≡ 1) ⊎ (b ≡ 1 → ⊥) → is_there (arrivals net) b ≡ true
    by (inl e) other = (let least = (HasShape-from_IsNet net is).least in subst (λ c. is_there (arrivals net) c ≡ true)
        (sym e) ((arrivals_grown net (omega (arith, least))).more 0 refl))
    by (inr a) (inl e) = (let least = (HasShape-from_IsNet net is).least in
        subst (λ c. is_there (arrivals net) c ≡ true) (sym e) ((arrivals_grown net (omega (arith, least))).more 1 refl))
    by (inr a) (inr c) = (let way = is.reached b (omega (arith, a, c)) within in leads_there net is way.0 b way.1)

missing_none : (n : ℕ) (there : List Arrival) → ((b : ℕ) → b < n → is_there there b ≡ true) → missing n there ≡ 0
missing_none zero there h = refl
missing_none (suc n) there h = cond-true _ _ _ (h n (omega arith))
    ∙ missing_none n there (λ b l. h b (omega (arith, l)))

-- As many come as there are blocks.
pub arrivals_length : (net : NetValue) → IsNet net → length (arrivals net) ≡ net.blocks
arrivals_length net is =
    let room : length (arrivals net) + missing net.blocks (arrivals net) ≡ net.blocks = arrivals_roomy net is in
    let none = missing_none net.blocks (arrivals net) (spans net is) in
    omega (arith, room, none)
