-- The rows of the blocks next to each block.
use Rattle.std.proofs.Common.{◌≡◌, refl, sym, ap, subst, ◌∙◌, ℕ, zero, suc, ◌+◌, ◌-◌, ◌<◌, ◌≤◌, ◌&&◌, ◌==◌, cond, List, [], ◌∷◌, ◌++◌, length, get_or, set, map, drop, filter, Bool, true, false, ◌⊎◌, inl, inr, arith, eq-eqb, eqb-true, append_assoc, append-nil, ltb, leb}
use Rattle.std.specs.Prelude.{replicate}
use Rattle.std.specs.List.{All, list_any}
use Rattle.std.proofs.lemmas.Bool.{cases_eq, ne_eqb, and_from, and_parts, or_cases, or_parts, or_left, or_right, leb-true, leb-false, ltb-true, le-leb, lt-ltb, cond-true, cond-false}
use Rattle.std.proofs.lemmas.List.{get_or-set_same, get_or-set_other, get_or-replicate, get_or-map, map-set, length-replicate, drop_more}
use Rattle.std.proofs.lemmas.List.Elements.{All-weaker, All-same}
use Rattle.cov_base.specs.Falls.{is_real}
use Rattle.cov_base.specs.Net.{NetValue, IsNet, is_above, is_outside, joins}
use Rattle.cov_base.specs.declared.net.FlowArc.{FlowArc}
use Rattle.cov_base.proofs.NetLaws.{AscendAfter, Ascend, HasShape-from_IsNet}
use Rattle.prime_paths.specs.Paths.{Among, is_way, is_inner, leads}
use Rattle.prime_paths.specs.Lister.{numbers, inner_blocks}
use Rattle.prime_paths.specs.Ways.{next_blocks, prior_blocks, is_at, far_ends, with_end, AreFilled, AreWays}
use Rattle.prime_paths.proofs.ListFacts.{Up, numbers_in, numbers_low, numbers_up, among_filter, filter_among}

-- ---- ascending numbers

pub filter_up : (t : ℕ → Bool) (xs : List ℕ) → Up xs → Up (filter t xs)
filter_up t [] u = tt
filter_up t (x ∷ xs) u = go (t x) (filter_up t xs u.1)
  where
    go : (c : Bool) → Up (filter t xs) → Up (cond c (x ∷ filter t xs) (filter t xs))
    go true rec = ((λ y m. u.0 y (among_filter t y xs m).1), rec)
    go false rec = rec

-- ascending numbers with the same members are equal
pub one_up : (xs ys : List ℕ) → Up xs → Up ys → ((x : ℕ) → Among x xs → Among x ys)
    → ((x : ℕ) → Among x ys → Among x xs) → xs ≡ ys
one_up [] [] u v f g = refl
one_up [] (y ∷ ys) u v f g = absurd (g y (inl refl))
one_up (x ∷ xs) [] u v f g = absurd (f x (inl refl))
one_up (x ∷ xs) (y ∷ ys) u v f g =
    let same : x ≡ y = first (f x (inl refl)) (g y (inl refl)) in
    ap (λ (k : ℕ). k ∷ xs) same ∙ ap (λ (l : List ℕ). y ∷ l) (one_up xs ys u.1 v.1
    (λ z m. rest z (u.0 z m) same (f z (inr m))) (λ z m. rest_other z (v.0 z m) same (g z (inr m))))
  where
    first : Among x (y ∷ ys) → Among y (x ∷ xs) → x ≡ y
    first (inl e) n = e
    first (inr m) (inl e) = sym e
    first (inr m) (inr n) = (let a = v.0 x m in let b = u.0 y n in absurd (omega (arith, a, b)))

    rest : (z : ℕ) → x < z → x ≡ y → Among z (y ∷ ys) → Among z ys
    rest z l same (inl e) = absurd (omega (arith, l, same, e))
    rest z l same (inr m) = m

    rest_other : (z : ℕ) → y < z → x ≡ y → Among z (x ∷ xs) → Among z xs
    rest_other z l same (inl e) = absurd (omega (arith, l, same, e))
    rest_other z l same (inr m) = m

-- ---- arcs in order

-- the arc stands behind another by its ends
abbrev pub Above : FlowArc → FlowArc → Type 0
Above x y = (x.from < y.from) ⊎ ((x.from ≡ y.from) × (x.to < y.to))

above_parts : (x y : FlowArc) → is_above y x ≡ true → Above x y
above_parts x y e = elim (or_cases (ltb x.from y.from) ((x.from == y.from) && ltb x.to y.to) e) [
  | inl l ↦ inl (ltb-true _ _ l)
  | inr r ↦ (let p = and_parts _ _ r in inr (eqb-true _ _ p.0, ltb-true _ _ p.1))
]

above_on : (x y z : FlowArc) → Above x y → Above y z → Above x z
above_on x y z (inl a) (inl b) = inl (omega (arith, a, b))
above_on x y z (inl a) (inr b) = (let e = b.0 in inl (omega (arith, a, e)))
above_on x y z (inr a) (inl b) = (let e = a.0 in inl (omega (arith, e, b)))
above_on x y z (inr a) (inr b) = (let l = a.1 in let m = b.1 in inr (a.0 ∙ b.0, omega (arith, l, m)))

all_above : (x : FlowArc) (arcs : List FlowArc) → AscendAfter x arcs → (y : FlowArc) → Among y arcs → Above x y
all_above x [] h y m = absurd m
all_above x (z ∷ arcs) h y (inl e) = subst (λ a. Above x a) (sym e) (above_parts x z h.0)
all_above x (z ∷ arcs) h y (inr m) = above_on x z y (above_parts x z h.0) (all_above z arcs h.1 y m)

ascend_tail : (x : FlowArc) (arcs : List FlowArc) → AscendAfter x arcs → Ascend arcs
ascend_tail x [] h = tt
ascend_tail x (y ∷ arcs) h = h.1

-- ---- far ends

ends_cons : (near far : FlowArc → ℕ) (b : ℕ) (x : FlowArc) (arcs : List FlowArc)
    → far_ends near far b (x ∷ arcs) ≡ cond (is_at near far b x) (far x ∷ far_ends near far b arcs)
    (far_ends near far b arcs)
ends_cons near far b x arcs = go (is_at near far b x)
  where
    go : (c : Bool) → map far (cond c (x ∷ filter (is_at near far b) arcs) (filter (is_at near far b) arcs))
        ≡ cond c (far x ∷ far_ends near far b arcs) (far_ends near far b arcs)
    go true = refl
    go false = refl

map_among : {A : Type 0} (f : A → ℕ) (m : ℕ) (xs : List A) → Among m (map f xs) → (y : A) × Among y xs × (m ≡ f y)
map_among f m [] h = absurd h
map_among f m (x ∷ xs) (inl e) = (x, inl refl, e)
map_among f m (x ∷ xs) (inr h) = (let r = map_among f m xs h in (r.0, inr r.1, r.2))

among_map : {A : Type 0} (f : A → ℕ) (x : A) (xs : List A) → Among x xs → Among (f x) (map f xs)
among_map f x [] m = absurd m
among_map f x (y ∷ ys) (inl e) = inl (ap f e)
among_map f x (y ∷ ys) (inr m) = inr (among_map f x ys m)

among_ends : (near far : FlowArc → ℕ) (b m : ℕ) (arcs : List FlowArc) → Among m (far_ends near far b arcs)
    → (y : FlowArc) × Among y arcs × (is_at near far b y ≡ true) × (m ≡ far y)
among_ends near far b m arcs h =
    let r = map_among far m (filter (is_at near far b) arcs) h in
    let k = among_filter (is_at near far b) r.0 arcs r.1 in
    (r.0, k.1, k.0, r.2)

ends_among : (near far : FlowArc → ℕ) (b : ℕ) (arcs : List FlowArc) (y : FlowArc) → Among y arcs → is_at near far b y
    ≡ true
    → Among (far y) (far_ends near far b arcs)
ends_among near far b arcs y m e = among_map far y (filter (is_at near far b) arcs)
    (filter_among (is_at near far b) y arcs e m)

-- what an arc at a block says
at_parts : (near far : FlowArc → ℕ) (b : ℕ) (y : FlowArc) → is_at near far b y ≡ true → (is_real y.kind ≡ true)
    × (near y ≡ b) × (2 ≤ far y)
at_parts near far b y e =
    let p = and_parts (is_real y.kind) ((near y == b) && leb 2 (far y)) e in
    let q = and_parts (near y == b) (leb 2 (far y)) p.1 in
    (p.0, eqb-true _ _ q.0, leb-true _ _ q.1)

ends_up : (near far : FlowArc → ℕ) → ((x y : FlowArc) → Above x y → near x ≡ near y → far x < far y)
    → (b : ℕ) (arcs : List FlowArc) → Ascend arcs
    → Up (far_ends near far b arcs)
ends_up near far further b [] h = tt
ends_up near far further b (x ∷ arcs) h =
    subst (λ l. Up l) (sym (ends_cons near far b x arcs)) (go (is_at near far b x) refl
    (ends_up near far further b arcs (ascend_tail x arcs h)))
  where
    go : (c : Bool) → is_at near far b x ≡ c → Up (far_ends near far b arcs)
        → Up (cond c (far x ∷ far_ends near far b arcs) (far_ends near far b arcs))
    go true e rec = ((λ m h2. above m (among_ends near far b m arcs h2)), rec)
      where
        above : (m : ℕ) → (y : FlowArc) × Among y arcs × (is_at near far b y ≡ true) × (m ≡ far y) → far x < m
        above m (y, k, a, s) = subst (λ n. far x < n) (sym s)
            (further x y (all_above x arcs h y k) ((at_parts near far b x e).1 ∙ sym (at_parts near far b y a).1))
    go false e rec = rec

pub any_among : {A : Type 0} (t : A → Bool) (xs : List A) → list_any t xs ≡ true → (y : A) × Among y xs × (t y ≡ true)
any_among t [] e = absurd (let never : false ≡ true = e in cc)
any_among t (x ∷ xs) e = elim (or_cases (t x) (list_any t xs) e) [
  | inl l ↦ (x, inl refl, l)
  | inr r ↦ (let h = any_among t xs r in (h.0, inr h.1, h.2))
]

pub among_any : {A : Type 0} (t : A → Bool) (y : A) (xs : List A) → Among y xs → t y ≡ true → list_any t xs ≡ true
among_any t y [] m e = absurd m
among_any t y (x ∷ xs) (inl s) e = or_left (t x) (list_any t xs) (ap t (sym s) ∙ e)
among_any t y (x ∷ xs) (inr m) e = or_right (t x) (list_any t xs) (among_any t y xs m e)

-- the far ends of the arcs at a block are the blocks from 2 up that such an arc joins with it
same_ends : (near far : FlowArc → ℕ) (way : ℕ → FlowArc → Bool) (b blocks : ℕ) (arcs : List FlowArc)
    → ((x y : FlowArc) → Above x y → near x ≡ near y → far x < far y)
    → ((m : ℕ) (y : FlowArc) → is_real y.kind ≡ true → near y ≡ b → far y ≡ m → way m y ≡ true)
    → ((m : ℕ) (y : FlowArc) → way m y ≡ true → (is_real y.kind ≡ true) × (near y ≡ b) × (far y ≡ m))
    → ((y : FlowArc) → Among y arcs → far y < blocks) → Ascend arcs
    → far_ends near far b arcs ≡ filter (λ m. list_any (way m) arcs) (numbers 2 (blocks - 2))
same_ends near far way b blocks arcs further onto from below h =
    one_up (far_ends near far b arcs) (filter (λ m. list_any (way m) arcs) (numbers 2 (blocks - 2)))
    (ends_up near far further b arcs h) (filter_up (λ m. list_any (way m) arcs) (numbers 2 (blocks - 2))
    (numbers_up 2 (blocks - 2)))
    (λ m k. there m (among_ends near far b m arcs k))
    (λ m k. back m (among_filter (λ m. list_any (way m) arcs) m (numbers 2 (blocks - 2)) k))
  where
    there : (m : ℕ) → (y : FlowArc) × Among y arcs × (is_at near far b y ≡ true) × (m ≡ far y)
        → Among m (filter (λ m. list_any (way m) arcs) (numbers 2 (blocks - 2)))
    there m (y, k, a, s) =
        let p = at_parts near far b y a in
        let l = below y k in
        let low = p.2 in
        filter_among (λ m. list_any (way m) arcs) m (numbers 2 (blocks - 2))
        (among_any (way m) y arcs k (onto m y p.0 p.1 (sym s)))
        (numbers_in 2 (blocks - 2) m (omega (arith, low, s)) (omega (arith, low, l, s)))

    back : (m : ℕ) → (list_any (way m) arcs ≡ true) × Among m (numbers 2 (blocks - 2))
        → Among m (far_ends near far b arcs)
    back m (e, k) =
        let h = any_among (way m) arcs e in
        let p = from m h.0 h.2 in
        let low = (numbers_low 2 (blocks - 2) m k).0 in
        subst (λ n. Among n (far_ends near far b arcs)) p.2 (ends_among near far b arcs h.0 h.1
        (and_from (is_real h.0.kind) ((near h.0 == b) && leb 2 (far h.0)) p.0
        (and_from (near h.0 == b) (leb 2 (far h.0)) (eq-eqb _ _ p.1)
        (le-leb 2 (far h.0) (subst (λ n. 2 ≤ n) (sym p.2) low)))))

-- ---- the rows of a net

abbrev pub from_of : FlowArc → ℕ
from_of arc = arc.from

abbrev pub to_of : FlowArc → ℕ
to_of arc = arc.to

pub way_onto : (a b : ℕ) (y : FlowArc) → is_real y.kind ≡ true → y.from ≡ a → y.to ≡ b → is_way a b y ≡ true
way_onto a b y r e f = and_from (joins a b y) (is_real y.kind)
    (and_from (y.from == a) (y.to == b) (eq-eqb _ _ e) (eq-eqb _ _ f)) r

way_from : (a b : ℕ) (y : FlowArc) → is_way a b y ≡ true → (is_real y.kind ≡ true) × (y.from ≡ a) × (y.to ≡ b)
way_from a b y e =
    let p = and_parts (joins a b y) (is_real y.kind) e in
    let q = and_parts (y.from == a) (y.to == b) p.0 in
    (p.1, eqb-true _ _ q.0, eqb-true _ _ q.1)

inside_parts : (n : ℕ) (arc : FlowArc) → is_outside n arc ≡ false → (arc.from < n) × (arc.to < n)
inside_parts n arc e =
    let parts = or_parts _ _ (or_parts _ _ (or_parts _ _ e).0).0 in
    (leb-false n arc.from parts.0, leb-false n arc.to parts.1)

-- the ends of a net's arcs are blocks
pub ends_inside : (net : NetValue) → IsNet net → All (λ arc. (arc.from < net.blocks) × (arc.to < net.blocks)) net.arcs
ends_inside net is = All-weaker (λ arc. is_outside net.blocks arc ≡ false)
    (λ arc. (arc.from < net.blocks) × (arc.to < net.blocks))
    (inside_parts net.blocks) net.arcs (HasShape-from_IsNet net is).inside

pub all_among : {A : Type 0} (P : A → Type 0) (xs : List A) → All P xs → (y : A) → Among y xs → P y
all_among P [] h y m = absurd m
all_among P (x ∷ xs) h y (inl e) = subst P (sym e) (h 0 x (omega arith))
all_among P (x ∷ xs) h y (inr m) = all_among P xs (λ k d l. h (suc k) d (omega (arith, l))) y m

pub next_same : (net : NetValue) (b : ℕ) → IsNet net → far_ends from_of to_of b net.arcs ≡ next_blocks net b
next_same net b is = same_ends from_of to_of (λ m. is_way b m) b net.blocks net.arcs further
    (λ m y r e f. way_onto b m y r e f) (λ m y e. way_from b m y e)
    (λ y m. (all_among (λ arc. (arc.from < net.blocks) × (arc.to < net.blocks)) net.arcs (ends_inside net is) y m).1)
    (HasShape-from_IsNet net is).ascend
  where
    further : (x y : FlowArc) → Above x y → x.from ≡ y.from → x.to < y.to
    further x y (inl l) e = absurd (omega (arith, l, e))
    further x y (inr r) e = r.1

pub prior_same : (net : NetValue) (b : ℕ) → IsNet net → far_ends to_of from_of b net.arcs ≡ prior_blocks net b
prior_same net b is = same_ends to_of from_of (λ m. is_way m b) b net.blocks net.arcs further
    (λ m y r e f. way_onto m b y r f e) (λ m y e. (let p = way_from m b y e in (p.0, p.2, p.1)))
    (λ y m. (all_among (λ arc. (arc.from < net.blocks) × (arc.to < net.blocks)) net.arcs (ends_inside net is) y m).0)
    (HasShape-from_IsNet net is).ascend
  where
    further : (x y : FlowArc) → Above x y → x.to ≡ y.to → x.from < y.from
    further x y (inl l) e = l
    further x y (inr r) e = (let l = r.1 in absurd (omega (arith, l, e)))

-- ---- rows, arc by arc

pub get_with_end : (real : Bool) (at member : ℕ) (rows : List (List ℕ)) (b : ℕ) → at < length rows
    → get_or (with_end real at member rows) b []
    ≡ cond (real && ((at == b) && leb 2 member)) (get_or rows b [] ++ member ∷ []) (get_or rows b [])
get_with_end false at member rows b l = refl
get_with_end true at member rows b l = go (leb 2 member) (cases_eq b at)
  where
    go : (c : Bool) → (b ≡ at) ⊎ (b ≡ at → ⊥)
        → get_or (cond c (set rows at (get_or rows at [] ++ member ∷ [])) rows) b []
        ≡ cond ((at == b) && c) (get_or rows b [] ++ member ∷ []) (get_or rows b [])
    go true (inl e) =
        ap (λ k. get_or (set rows at (get_or rows at [] ++ member ∷ [])) k []) e
        ∙ get_or-set_same rows at (get_or rows at [] ++ member ∷ []) [] l
        ∙ ap (λ k. get_or rows k [] ++ member ∷ []) (sym e)
        ∙ sym (cond-true _ _ _ (and_from (at == b) true (eq-eqb at b (sym e)) refl))
    go true (inr o) =
        get_or-set_other rows at b (get_or rows at [] ++ member ∷ []) [] o
        ∙ sym (cond-false _ _ _ (ap (λ x. x && true) (ne_eqb at b (λ e. o (sym e)))))
    go false p = sym (cond-false _ _ _ (none (at == b)))
      where
        none : (x : Bool) → (x && false) ≡ false
        none true = refl
        none false = refl

-- a row with one member more
pub with_end_set : {X : Type 0} (f : X → List ℕ) (rows : List X) (at m : ℕ) (old new : X) (real : Bool)
    → at < length rows
    → old ≡ get_or rows at old → f new ≡ f old ++ m ∷ [] → real ≡ true → 2 ≤ m
    → map f (set rows at new) ≡ with_end real at m (map f rows)
with_end_set f rows at m old new real l e g r low =
    map-set f rows at new
    ∙ ap (λ (x : List ℕ). set (map f rows) at x) (g
    ∙ ap (λ (x : List ℕ). x ++ m ∷ []) (ap f e ∙ sym (get_or-map f rows at old [] l)))
    ∙ sym (cond-true (real && leb 2 m) _ _ (and_from real (leb 2 m) r (le-leb 2 m low)))

-- one more arc
pub filled_step : (near far : FlowArc → ℕ) (blocks : ℕ) (all arcs : List FlowArc) (k : ℕ) (d : FlowArc)
    (rows new : List (List ℕ))
    → k < length arcs → near (get_or arcs k d) < length rows → AreFilled near far blocks all (drop k arcs) rows
    → new ≡ with_end (is_real (get_or arcs k d).kind) (near (get_or arcs k d)) (far (get_or arcs k d)) rows
    → length new ≡ length rows → AreFilled near far blocks all (drop (k + 1) arcs) new
filled_step near far blocks all arcs k d rows new l within h is long = record {
  many = long ∙ h.many;
  each = λ b m.
      ap (λ (r : List (List ℕ)). get_or r b [] ++ far_ends near far b (drop (k + 1) arcs)) is
      ∙ ap (λ (r : List ℕ). r ++ far_ends near far b (drop (k + 1) arcs))
      (get_with_end (is_real (get_or arcs k d).kind) (near (get_or arcs k d)) (far (get_or arcs k d)) rows b within)
      ∙ join (is_at near far b (get_or arcs k d)) (get_or rows b []) (far (get_or arcs k d))
      (far_ends near far b (drop (k + 1) arcs))
      ∙ ap (λ (r : List ℕ). get_or rows b [] ++ r) (sym (ends_cons near far b (get_or arcs k d) (drop (k + 1) arcs)))
      ∙ ap (λ (t : List FlowArc). get_or rows b [] ++ far_ends near far b t) (sym (drop_more arcs k d l))
      ∙ h.each b m;
}
  where
    join : (c : Bool) (r : List ℕ) (x : ℕ) (e : List ℕ) → cond c (r ++ x ∷ []) r ++ e ≡ r ++ cond c (x ∷ e) e
    join true r x e = append_assoc r (x ∷ []) e
    join false r x e = refl

pub filled_first : (near far : FlowArc → ℕ) (blocks : ℕ) (arcs : List FlowArc) (rows : List (List ℕ)) → rows
    ≡ replicate blocks []
    → AreFilled near far blocks arcs (drop 0 arcs) rows
filled_first near far blocks arcs rows e = record {
  many = ap length e ∙ length-replicate blocks [];
  each = λ b l. ap (λ (r : List (List ℕ)). get_or r b [] ++ far_ends near far b arcs) e
      ∙ ap (λ (r : List ℕ). r ++ far_ends near far b arcs) (get_or-replicate blocks b [] [] l);
}

pub filled_all : (near far : FlowArc → ℕ) (blocks : ℕ) (arcs rest : List FlowArc) (rows : List (List ℕ))
    → AreFilled near far blocks arcs rest rows
    → rest ≡ [] → AreFilled near far blocks arcs [] rows
filled_all near far blocks arcs rest rows h e = subst (λ r. AreFilled near far blocks arcs r rows) e h

-- rows of both kinds are the ways
pub ways_filled : (net : NetValue) (next prior : List (List ℕ)) → IsNet net
    → AreFilled from_of to_of net.blocks net.arcs [] next → AreFilled to_of from_of net.blocks net.arcs [] prior
    → AreWays net next prior
ways_filled net next prior is n p = record {
  next_many = n.many;
  prior_many = p.many;
  next = λ b l. sym (append-nil (get_or next b [])) ∙ n.each b l ∙ next_same net b is;
  prior = λ b l. sym (append-nil (get_or prior b [])) ∙ p.each b l ∙ prior_same net b is;
}

-- the blocks next to a block are inner blocks that it leads to
filter_all : (t : ℕ → Bool) (P : ℕ → Type 0) (xs : List ℕ) → ((x : ℕ) → Among x xs → t x ≡ true → P x)
    → All P (filter t xs)
filter_all t P [] h = λ k d l. absurd (omega (arith, l))
filter_all t P (x ∷ xs) h = go (t x) refl (filter_all t P xs (λ y m. h y (inr m)))
  where
    go : (c : Bool) → t x ≡ c → All P (filter t xs) → All P (cond c (x ∷ filter t xs) (filter t xs))
    go true e rec zero d l = h x (inl refl) e
    go true e rec (suc k) d l = rec k d (omega (arith, l))
    go false e rec k d l = rec k d l

pub inner_of : (net : NetValue) (b : ℕ) → Among b (inner_blocks net) → is_inner net b ≡ true
inner_of net b m =
    let h = numbers_low 2 (net.blocks - 2) b m in
    let lo = h.0 in
    let hi = h.1 in
    and_from (leb 2 b) (ltb b net.blocks) (le-leb 2 b lo) (lt-ltb b net.blocks (omega (arith, lo, hi)))

pub next_each : (net : NetValue) (a : ℕ) → All (λ b. (leads net a b ≡ true) × (is_inner net b ≡ true))
    (next_blocks net a)
next_each net a = filter_all (leads net a) (λ b. (leads net a b ≡ true) × (is_inner net b ≡ true)) (inner_blocks net)
    (λ b m e. (e, inner_of net b m))

-- the same of blocks and arcs as a net gives them
pub ends_known : (net : NetValue) (blocks : ℕ) (arcs : List FlowArc) → IsNet net → blocks ≡ net.blocks → arcs ≡ net.arcs
    → All (λ arc. (arc.from < blocks) × (arc.to < blocks)) arcs
ends_known net blocks arcs is b a =
    subst (λ n. All (λ arc. (arc.from < n) × (arc.to < n)) arcs) (sym b)
    (All-same (λ arc. (arc.from < net.blocks) × (arc.to < net.blocks)) arcs net.arcs a (ends_inside net is))

pub ways_known : (net : NetValue) (blocks more : ℕ) (arcs others : List FlowArc) (next prior : List (List ℕ))
    → IsNet net
    → blocks ≡ net.blocks → arcs ≡ net.arcs → more ≡ net.blocks → others ≡ net.arcs
    → AreFilled from_of to_of blocks arcs [] next → AreFilled to_of from_of more others [] prior
    → AreWays net next prior
ways_known net blocks more arcs others next prior is b a m o n p = ways_filled net next prior is
    (known from_of to_of b a n) (known to_of from_of m o p)
  where
    known : (near far : FlowArc → ℕ) {k : ℕ} {arcs : List FlowArc} {rows : List (List ℕ)} → k ≡ net.blocks → arcs
        ≡ net.arcs
        → AreFilled near far k arcs [] rows → AreFilled near far net.blocks net.arcs [] rows
    known near far {k} {arcs} {rows} e f h = subst (λ x. AreFilled near far net.blocks x [] rows) f
        (subst (λ x. AreFilled near far x arcs [] rows) e h)
