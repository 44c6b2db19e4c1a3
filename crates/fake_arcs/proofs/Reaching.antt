-- The kept blocks are those that block 2 reaches, each of them and no other.
use Rattle.std.proofs.Common.{◌≡◌, refl, sym, ap, subst, ◌∙◌, ℕ, zero, suc, ◌+◌, ◌≤◌, ◌<◌, ◌||◌, ◌==◌, List, []}
use Rattle.std.proofs.Common.{◌∷◌, length, Bool, true, false, cond, ◌⊎◌, inl, inr, arith, eq-eqb, eqb-true}
use Rattle.std.specs.Prelude.{filter, Some, None, slice_get}
use Rattle.std.proofs.lemmas.Bool.{both_ways, or_cases, or_left, or_right, cond-true, cond-false, cases_Bool, cases_eq}
use Rattle.flow_graph.specs.Graph.{Block}
use Rattle.flow_graph.specs.Nets.{targets, among, numbers_from, is_entered, spread, spread_for, reached}
use Rattle.fake_arcs.specs.Tidy.{Way}

-- ---- members of filtered lists

pub among_filter : (p : ℕ → Bool) (xs : List ℕ) (b : ℕ) → among b xs ≡ true → p b ≡ true → among b (filter p xs) ≡ true
among_filter p [] b m h = absurd (cc)
among_filter p (x ∷ xs) b m h =
    elim (cases_Bool (p x)) [
      | inl is ↦ subst (λ l. among b l ≡ true) (sym (cond-true _ (x ∷ filter p xs) (filter p xs) is))
          (elim (or_cases (b == x) (among b xs) m)
          [ inl e ↦ or_left _ _ e | inr l ↦ or_right _ _ (among_filter p xs b l h) ])
      | inr isnt ↦ subst (λ l. among b l ≡ true) (sym (cond-false _ (x ∷ filter p xs) (filter p xs) isnt))
          (elim (or_cases (b == x) (among b xs) m) [
            | inl e ↦ absurd (both_ways _ isnt (subst (λ y. p y ≡ true) (eqb-true b x e) h))
            | inr l ↦ among_filter p xs b l h
          ])
    ]

pub among_filtered : (p : ℕ → Bool) (xs : List ℕ) (b : ℕ) → among b (filter p xs) ≡ true
    → (among b xs ≡ true) × (p b ≡ true)
among_filtered p [] b m = absurd (cc)
among_filtered p (x ∷ xs) b m =
    elim (cases_Bool (p x)) [
      | inl is ↦
          elim (or_cases (b == x) (among b (filter p xs))
          (subst (λ l. among b l ≡ true) (cond-true _ (x ∷ filter p xs) (filter p xs) is) m)) [
            | inl e ↦ (or_left _ _ e, subst (λ y. p y ≡ true) (sym (eqb-true b x e)) is)
            | inr l ↦ (let h = among_filtered p xs b l in (or_right _ _ h.0, h.1))
          ]
      | inr isnt ↦
          (let h = among_filtered p xs b
          (subst (λ l. among b l ≡ true) (cond-false _ (x ∷ filter p xs) (filter p xs) isnt) m) in
          (or_right _ _ h.0, h.1))
    ]

-- two tests that agree on the members filter alike
pub filter_alike : (p q : ℕ → Bool) (xs : List ℕ) → ((b : ℕ) → among b xs ≡ true → p b ≡ q b)
    → filter p xs ≡ filter q xs
filter_alike p q [] h = refl
filter_alike p q (x ∷ xs) h =
    let here : p x ≡ q x = h x (or_left _ _ (eq-eqb x x refl)) in
    let rest = filter_alike p q xs (λ b m. h b (or_right _ _ m)) in
    ap (λ (t : Bool). cond t (x ∷ filter p xs) (filter p xs)) here ∙ ap (λ (l : List ℕ). cond (q x) (x ∷ l) l) rest

-- a test that passes more filters the same, or more
same_or_longer : (p q : ℕ → Bool) (xs : List ℕ) → ((b : ℕ) → among b xs ≡ true → p b ≡ true → q b ≡ true)
    → (filter q xs ≡ filter p xs) ⊎ (length (filter p xs) < length (filter q xs))
same_or_longer p q [] h = inl refl
same_or_longer p q (x ∷ xs) h = go (p x) (q x) (h x (or_left _ _ (eq-eqb x x refl)))
    (same_or_longer p q xs (λ b m. h b (or_right _ _ m)))
  where
    go : (a b : Bool) → (a ≡ true → b ≡ true) → (filter q xs ≡ filter p xs)
        ⊎ (length (filter p xs) < length (filter q xs))
        → (cond b (x ∷ filter q xs) (filter q xs) ≡ cond a (x ∷ filter p xs) (filter p xs))
        ⊎ (length (cond a (x ∷ filter p xs) (filter p xs)) < length (cond b (x ∷ filter q xs) (filter q xs)))
    go true true i (inl e) = inl (ap (λ (l : List ℕ). x ∷ l) e)
    go true true i (inr l) = inr (omega (arith, l))
    go true false i r = absurd (let never : false ≡ true = i refl in cc)
    go false true i (inl e) = inr (let same : length (filter q xs) ≡ length (filter p xs) = ap length e in
        omega (arith, same))
    go false true i (inr l) = inr (omega (arith, l))
    go false false i r = r

length_filter : (p : ℕ → Bool) (xs : List ℕ) → length (filter p xs) ≤ length xs
length_filter p [] = omega arith
length_filter p (x ∷ xs) = go (p x) (length_filter p xs)
  where
    go : (a : Bool) → length (filter p xs) ≤ length xs → length (cond a (x ∷ filter p xs) (filter p xs)) ≤ suc
        (length xs)
    go true l = omega (arith, l)
    go false l = omega (arith, l)

-- ---- numbers of blocks

pub among_numbers : (n : ℕ) (bs : List Block) (b : ℕ) → n ≤ b → b < n + length bs → among b (numbers_from n bs) ≡ true
among_numbers n [] b low high = absurd (omega (arith, low, high))
among_numbers n (x ∷ bs) b low high =
    elim (cases_eq b n) [
      | inl e ↦ or_left _ _ (eq-eqb b n e)
      | inr other ↦ or_right _ _ (among_numbers (suc n) bs b (omega (arith, low, other)) (omega (arith, high)))
    ]

pub numbers_within : (n : ℕ) (bs : List Block) (b : ℕ) → among b (numbers_from n bs) ≡ true
    → (n ≤ b) × (b < n + length bs)
numbers_within n [] b m = absurd (cc)
numbers_within n (x ∷ bs) b m =
    elim (or_cases (b == n) (among b (numbers_from (suc n) bs)) m) [
      | inl e ↦ (let same = eqb-true b n e in (omega (arith, same), omega (arith, same)))
      | inr l ↦ (let h = numbers_within (suc n) bs b l in (omega (arith, h.0), omega (arith, h.1)))
    ]

length_numbers : (n : ℕ) (bs : List Block) → length (numbers_from n bs) ≡ length bs
length_numbers n [] = refl
length_numbers n (b ∷ bs) = ap suc (length_numbers (suc n) bs)

-- ---- entered blocks

-- a kept block, the first number being n, leads to the block
abbrev Entering : List ℕ → ℕ → List Block → ℕ → Type 0
Entering kept n blocks b = (k : ℕ) × (block : Block) × (slice_get blocks k ≡ Some block) × (among (n + k) kept ≡ true)
    × (among b (targets block.end) ≡ true)

entered : (kept : List ℕ) (n : ℕ) (blocks : List Block) (b : ℕ) → Entering kept n blocks b → is_entered kept n blocks b
    ≡ true
entered kept n [] b (k, block, at, m, t) = absurd (let never : None ≡ Some block = at in cc)
entered kept n (x ∷ bs) b (zero, block, at, m, t) =
    let same : x ≡ block = (let e : Some x ≡ Some block = at in cc) in
    let mine : among n kept ≡ true = subst (λ i. among i kept ≡ true) (omega arith) m in
    cond-true _ _ _ mine ∙ or_left _ _ (subst (λ (y : Block). among b (targets y.end) ≡ true) (sym same) t)
entered kept n (x ∷ bs) b (suc k, block, at, m, t) =
    go (among n kept) (entered kept (suc n) bs b (k, block, at, subst (λ i. among i kept ≡ true) (omega arith) m, t))
  where
    go : (a : Bool) → is_entered kept (suc n) bs b ≡ true
        → cond a (among b (targets x.end) || is_entered kept (suc n) bs b) (is_entered kept (suc n) bs b) ≡ true
    go true e = or_right _ _ e
    go false e = e

entering : (kept : List ℕ) (n : ℕ) (blocks : List Block) (b : ℕ) → is_entered kept n blocks b ≡ true
    → Entering kept n blocks b
entering kept n [] b e = absurd (cc)
entering kept n (x ∷ bs) b e = go (entering kept (suc n) bs b) (among n kept) refl e
  where
    later : Entering kept (suc n) bs b → Entering kept n (x ∷ bs) b
    later (k, block, at, m, t) = (suc k, block, at, subst (λ i. among i kept ≡ true) (omega arith) m, t)

    go : (is_entered kept (suc n) bs b ≡ true → Entering kept (suc n) bs b) → (a : Bool) → among n kept ≡ a
        → cond a (among b (targets x.end) || is_entered kept (suc n) bs b) (is_entered kept (suc n) bs b) ≡ true
        → Entering kept n (x ∷ bs) b
    go rec true m e = elim (or_cases (among b (targets x.end)) (is_entered kept (suc n) bs b) e) [
      | inl t ↦ (zero, x, refl, subst (λ i. among i kept ≡ true) (omega arith) m, t)
      | inr r ↦ later (rec r)
    ]
    go rec false m e = later (rec e)

-- ---- rounds

-- it is filtered out of the numbers
abbrev OfNumbers : List Block → List ℕ → Type 0
OfNumbers blocks kept = (p : ℕ → Bool) × (kept ≡ filter p (numbers_from 2 blocks))

grows : (blocks : List Block) (kept : List ℕ) → OfNumbers blocks kept → (spread blocks kept ≡ kept)
    ⊎ (length kept < length (spread blocks kept))
grows blocks kept (p, e) =
    elim (same_or_longer p (λ b. among b kept || is_entered kept 2 blocks b) (numbers_from 2 blocks)
    (λ b m h. or_left _ _ (subst (λ l. among b l ≡ true) (sym e) (among_filter p (numbers_from 2 blocks) b m h)))) [
      | inl same ↦ inl (same ∙ sym e)
      | inr longer ↦ inr (subst (λ l. length l < length (spread blocks kept)) (sym e) longer)
    ]

stays : (blocks : List Block) (kept : List ℕ) → spread blocks kept ≡ kept → (n : ℕ)
    → spread blocks (spread_for n blocks kept) ≡ spread_for n blocks kept
stays blocks kept e zero = e
stays blocks kept e (suc n) = subst (λ l. spread blocks (spread_for n blocks l) ≡ spread_for n blocks l) (sym e)
    (stays blocks kept e n)

-- after as many rounds as there are blocks without a mark, nothing is added
settles : (blocks : List Block) (n : ℕ) (kept : List ℕ) → OfNumbers blocks kept
    → length (numbers_from 2 blocks) ≤ n + length kept
    → spread blocks (spread_for n blocks kept) ≡ spread_for n blocks kept
settles blocks zero kept of enough =
    elim (grows blocks kept of) [
      | inl e ↦ e
      | inr l ↦ absurd (let most = length_filter (λ b. among b kept || is_entered kept 2 blocks b)
          (numbers_from 2 blocks) in omega (arith, most, l, enough))
    ]
settles blocks (suc n) kept of enough =
    elim (grows blocks kept of) [
      | inl e ↦ stays blocks kept e (suc n)
      | inr l ↦ settles blocks n (spread blocks kept) ((λ b. among b kept || is_entered kept 2 blocks b), refl)
          (omega (arith, l, enough))
    ]

-- a property of kept blocks that each round keeps
rounds : (P : List ℕ → Type 0) (blocks : List Block) → ((kept : List ℕ) → P kept → P (spread blocks kept))
    → (n : ℕ) (kept : List ℕ) → P kept → P (spread_for n blocks kept)
rounds P blocks step zero kept h = h
rounds P blocks step (suc n) kept h = rounds P blocks step n (spread blocks kept) (step kept h)

-- ---- the kept blocks

two_first : (blocks : List Block) (kept : List ℕ) → (among 2 kept ≡ true) → 0 < length blocks
    → among 2 (spread blocks kept) ≡ true
two_first blocks kept m some = among_filter _ (numbers_from 2 blocks) 2
    (among_numbers 2 blocks 2 (omega arith) (omega (arith, some))) (or_left _ _ m)

some_length : (l : List ℕ) (b : ℕ) → among b l ≡ true → 0 < length l
some_length [] b m = absurd (cc)
some_length (x ∷ l) b m = omega arith

-- nothing is added to the kept blocks, where there is a block
pub reached_stays : (blocks : List Block) → 0 < length blocks → spread blocks (reached blocks) ≡ reached blocks
reached_stays [] some = absurd (omega (arith, some))
reached_stays (x ∷ bs) some =
    let blocks = x ∷ bs in
    let two = two_first (x ∷ bs) (2 ∷ []) refl some in
    let one = some_length (spread (x ∷ bs) (2 ∷ [])) 2 two in
    settles (x ∷ bs) (length bs) (spread (x ∷ bs) (2 ∷ []))
    ((λ b. among b (2 ∷ []) || is_entered (2 ∷ []) 2 (x ∷ bs) b), refl)
    (let many = length_numbers 2 (x ∷ bs) in omega (arith, many, one))

-- block 2 is kept
pub reached_two : (blocks : List Block) → among 2 (reached blocks) ≡ true
reached_two [] = refl
reached_two (x ∷ bs) = rounds (λ l. among 2 l ≡ true) (x ∷ bs) (λ kept m. two_first (x ∷ bs) kept m (omega arith))
    (suc (length bs)) (2 ∷ []) refl

-- a block that a kept one leads to is kept
pub reached_closed : (blocks : List Block) (k b : ℕ) (block : Block) → slice_get blocks k ≡ Some block
    → among (2 + k) (reached blocks) ≡ true
    → among b (targets block.end) ≡ true → 2 ≤ b → b < 2 + length blocks → among b (reached blocks) ≡ true
reached_closed [] k b block at m t low high = absurd (let never : None ≡ Some block = at in cc)
reached_closed (x ∷ bs) k b block at m t low high =
    subst (λ l. among b l ≡ true) (reached_stays (x ∷ bs) (omega arith))
    (among_filter (λ b. among b (reached (x ∷ bs)) || is_entered (reached (x ∷ bs)) 2 (x ∷ bs) b)
    (numbers_from 2 (x ∷ bs)) b (among_numbers 2 (x ∷ bs) b low high)
    (or_right _ _ (entered (reached (x ∷ bs)) 2 (x ∷ bs) b (k, block, at, m, t))))

-- each kept block has a way from block 2
pub reached_way : (blocks : List Block) (b : ℕ) → among b (reached blocks) ≡ true → (n : ℕ) × Way blocks n b
reached_way blocks =
    rounds (λ l. (b : ℕ) → among b l ≡ true → (n : ℕ) × Way blocks n b) blocks
    (λ kept ways b m. elim (or_cases (among b kept) (is_entered kept 2 blocks b)
    (among_filtered (λ b. among b kept || is_entered kept 2 blocks b) (numbers_from 2 blocks) b m).1) [
      | inl old ↦ ways b old
      | inr new ↦ further kept ways b (entering kept 2 blocks b new)
    ])
    (length blocks) (2 ∷ []) (λ b m. (zero, eqb-true b 2 (only b m)))
  where
    only : (b : ℕ) → among b (2 ∷ []) ≡ true → (b == 2) ≡ true
    only b m = elim (or_cases (b == 2) false m) [ inl e ↦ e | inr never ↦ absurd (cc) ]

    further : (kept : List ℕ) → ((b : ℕ) → among b kept ≡ true → (n : ℕ) × Way blocks n b) → (b : ℕ)
        → Entering kept 2 blocks b → (n : ℕ) × Way blocks n b
    further kept ways b (k, block, at, m, t) =
        let before = ways (2 + k) m in
        (suc before.0, (2 + k, k, block, before.1, refl, at, t))

-- each block with a way is kept, where endings go to blocks
pub way_reached : (blocks : List Block)
    → ((k t : ℕ) (b : Block) → slice_get blocks k ≡ Some b → among t (targets b.end) ≡ true
    → (2 ≤ t) × (t < 2 + length blocks))
    → (n b : ℕ) → Way blocks n b → among b (reached blocks) ≡ true
way_reached blocks aims zero b way = subst (λ c. among c (reached blocks) ≡ true) (sym way) (reached_two blocks)
way_reached blocks aims (suc n) b (a, k, block, way, same, at, t) =
    let inside = aims k b block at t in
    reached_closed blocks k b block at
    (subst (λ c. among c (reached blocks) ≡ true) same (way_reached blocks aims n a way)) t inside.0 inside.1

-- the kept blocks are those of the numbers that are kept
pub reached_filtered : (blocks : List Block) → 0 < length blocks
    → reached blocks ≡ filter (λ b. among b (reached blocks)) (numbers_from 2 blocks)
reached_filtered blocks some =
    let e = reached_stays blocks some in
    let P : ℕ → Bool = λ b. among b (reached blocks) || is_entered (reached blocks) 2 blocks b in
    sym e ∙ filter_alike P (λ b. among b (reached blocks)) (numbers_from 2 blocks)
    (λ b m. go b m (among b (reached blocks)) refl (is_entered (reached blocks) 2 blocks b) refl)
  where
    go : (b : ℕ) → among b (numbers_from 2 blocks) ≡ true → (x : Bool) → among b (reached blocks) ≡ x → (y : Bool)
        → is_entered (reached blocks) 2 blocks b ≡ y → (x || y) ≡ x
    go b m true ex y ey = refl
    go b m false ex false ey = refl
    go b m false ex true ey = absurd (both_ways _ ex (subst (λ l. among b l ≡ true) (reached_stays blocks some)
        (among_filter (λ b. among b (reached blocks) || is_entered (reached blocks) 2 blocks b) (numbers_from 2 blocks)
        b m (or_right _ _ ey))))
