-- The blocks of a pruned graph: each kept block stands at its rank.
use Rattle.std.proofs.Common.{◌≡◌, refl, sym, ap, subst, ◌∙◌, ℕ, zero, suc, ◌+◌, ◌-◌, ◌≤◌, ◌<◌, ◌||◌, ◌==◌, List, []}
use Rattle.std.proofs.Common.{◌∷◌, length, Bool, true, false, cond, ◌⊎◌, inl, inr, arith, eq-eqb, eqb-true}
use Rattle.std.specs.Prelude.{filter, None, slice_get}
use Rattle.std.specs.Option.{option_map}
use Rattle.std.proofs.lemmas.Bool.{both_ways, or_cases, cond-true, cond-false, cases_eq}
use Rattle.std.proofs.lemmas.Bool.{ne_eqb}
use Rattle.std.proofs.lemmas.Option.{slice_get_past}
use Rattle.flow_graph.specs.Graph.{Block}
use Rattle.flow_graph.specs.Nets.{among, numbers_from, reached, rank_from, new_number, renamed, kept_blocks}
use Rattle.fake_arcs.proofs.Reaching.{reached_filtered}

-- those of the numbers that are kept
abbrev pub kept_of : List ℕ → ℕ → List Block → List ℕ
kept_of kept n bs = filter (λ b. among b kept) (numbers_from n bs)

-- a kept block with its new ending
abbrev pub with_numbers : List ℕ → Block → Block
with_numbers kept b = record b { end = renamed (new_number kept) b.end }

pub rank_low : (r : ℕ) (ks : List ℕ) (b : ℕ) → r ≤ rank_from r ks b
rank_low r [] b = omega arith
rank_low r (k ∷ ks) b = go (k == b) (rank_low (suc r) ks b)
  where
    go : (c : Bool) → suc r ≤ rank_from (suc r) ks b → r ≤ cond c r (rank_from (suc r) ks b)
    go true l = omega arith
    go false l = omega (arith, l)

pub rank_high : (r : ℕ) (ks : List ℕ) (b : ℕ) → among b ks ≡ true → rank_from r ks b < r + length ks
rank_high r [] b m = absurd (cc)
rank_high r (k ∷ ks) b m = go (k == b) refl (λ h. rank_high (suc r) ks b h)
  where
    go : (c : Bool) → (k == b) ≡ c → (among b ks ≡ true → rank_from (suc r) ks b < suc r + length ks)
        → cond c r (rank_from (suc r) ks b) < r + suc (length ks)
    go true e h = omega arith
    go false e h = elim (or_cases (b == k) (among b ks) m) [
      | inl same ↦ absurd (both_ways _ e (eq-eqb k b (sym (eqb-true b k same))))
      | inr l ↦ (let t = h l in omega (arith, t))
    ]

pub rank_none : (r : ℕ) (ks : List ℕ) (b : ℕ) → among b ks ≡ false → rank_from r ks b ≡ r + length ks
rank_none r [] b m = omega arith
rank_none r (k ∷ ks) b m = go (k == b) refl (b == k) refl (λ h. rank_none (suc r) ks b h) m
  where
    go : (c : Bool) → (k == b) ≡ c → (d : Bool) → (b == k) ≡ d
        → (among b ks ≡ false → rank_from (suc r) ks b ≡ suc r + length ks)
        → (d || among b ks) ≡ false → cond c r (rank_from (suc r) ks b) ≡ r + suc (length ks)
    go c e true d h m = absurd (cc)
    go true e false d h m = absurd (both_ways _ d (eq-eqb b k (sym (eqb-true k b e))))
    go false e false d h m = h m ∙ omega arith

pub length_kept : (kept : List ℕ) (n : ℕ) (bs : List Block) → length (kept_blocks kept n bs)
    ≡ length (kept_of kept n bs)
length_kept kept n [] = refl
length_kept kept n (b ∷ bs) = go (among n kept) (length_kept kept (suc n) bs)
  where
    go : (c : Bool) → length (kept_blocks kept (suc n) bs) ≡ length (kept_of kept (suc n) bs)
        → length (cond c (with_numbers kept b ∷ kept_blocks kept (suc n) bs) (kept_blocks kept (suc n) bs))
        ≡ length (cond c (n ∷ kept_of kept (suc n) bs) (kept_of kept (suc n) bs))
    go true e = ap suc e
    go false e = e

-- a kept block stands at its rank, where the first number is n and its rank r
kept_at : (kept : List ℕ) (r n : ℕ) (bs : List Block) (b : ℕ) → n ≤ b → among b kept ≡ true
    → slice_get (kept_blocks kept n bs) (rank_from r (kept_of kept n bs) b - r) ≡ option_map (with_numbers kept)
    (slice_get bs (b - n))
kept_at kept r n [] b low m = refl
kept_at kept r n (x ∷ bs) b low m =
    go (among n kept) refl (cases_eq n b) (λ s l. kept_at kept s (suc n) bs b l m)
  where
    go : (c : Bool) → among n kept ≡ c → (n ≡ b) ⊎ (n ≡ b → ⊥)
        → ((s : ℕ) → suc n ≤ b → slice_get (kept_blocks kept (suc n) bs) (rank_from s (kept_of kept (suc n) bs) b - s)
        ≡ option_map (with_numbers kept) (slice_get bs (b - suc n)))
        → slice_get (cond c (with_numbers kept x ∷ kept_blocks kept (suc n) bs) (kept_blocks kept (suc n) bs))
        (rank_from r (cond c (n ∷ kept_of kept (suc n) bs) (kept_of kept (suc n) bs)) b - r)
        ≡ option_map (with_numbers kept) (slice_get (x ∷ bs) (b - n))
    go true e (inl same) h =
        let now : rank_from r (n ∷ kept_of kept (suc n) bs) b ≡ r = cond-true _ _ _ (eq-eqb n b same) in
        let here : rank_from r (n ∷ kept_of kept (suc n) bs) b - r ≡ zero = omega (arith, now) in
        let there : b - n ≡ zero = omega (arith, same) in
        ap (λ i. slice_get (with_numbers kept x ∷ kept_blocks kept (suc n) bs) i) here
        ∙ ap (λ i. option_map (with_numbers kept) (slice_get (x ∷ bs) i)) (sym there)
    go true e (inr other) h =
        let above : suc n ≤ b = omega (arith, low, other) in
        let now : rank_from r (n ∷ kept_of kept (suc n) bs) b ≡ rank_from (suc r) (kept_of kept (suc n) bs) b =
        cond-false _ _ _ (ne_eqb n b other) in
        let lower = rank_low (suc r) (kept_of kept (suc n) bs) b in
        let here : rank_from r (n ∷ kept_of kept (suc n) bs) b - r
        ≡ suc (rank_from (suc r) (kept_of kept (suc n) bs) b - suc r) = omega (arith, now, lower) in
        let there : b - n ≡ suc (b - suc n) = omega (arith, above) in
        ap (λ i. slice_get (with_numbers kept x ∷ kept_blocks kept (suc n) bs) i) here ∙ h (suc r) above
        ∙ ap (λ i. option_map (with_numbers kept) (slice_get (x ∷ bs) i)) (sym there)
    go false e (inl same) h = absurd (both_ways _ e (subst (λ i. among i kept ≡ true) (sym same) m))
    go false e (inr other) h =
        let above : suc n ≤ b = omega (arith, low, other) in
        let there : b - n ≡ suc (b - suc n) = omega (arith, above) in
        h r above ∙ ap (λ i. option_map (with_numbers kept) (slice_get (x ∷ bs) i)) (sym there)

pub kept_same : (blocks : List Block) → 0 < length blocks → kept_of (reached blocks) 2 blocks ≡ reached blocks
kept_same blocks some = sym (reached_filtered blocks some)

-- a kept block of a graph stands at its rank in the pruned graph
pub pruned_at : (blocks : List Block) (b : ℕ) → 2 ≤ b → among b (reached blocks) ≡ true
    → slice_get (kept_blocks (reached blocks) 2 blocks) (rank_from 2 (reached blocks) b - 2)
    ≡ option_map (with_numbers (reached blocks)) (slice_get blocks (b - 2))
pruned_at [] b low m = refl
pruned_at (x ∷ bs) b low m =
    subst (λ l. slice_get (kept_blocks (reached (x ∷ bs)) 2 (x ∷ bs)) (rank_from 2 l b - 2)
    ≡ option_map (with_numbers (reached (x ∷ bs))) (slice_get (x ∷ bs) (b - 2)))
    (kept_same (x ∷ bs) (omega arith)) (kept_at (reached (x ∷ bs)) 2 2 (x ∷ bs) b low m)

-- as many blocks as kept numbers
pub pruned_length : (blocks : List Block) → 0 < length blocks → length (kept_blocks (reached blocks) 2 blocks)
    ≡ length (reached blocks)
pruned_length blocks some = length_kept (reached blocks) 2 blocks ∙ ap length (kept_same blocks some)

-- what is no block of the graph is none of the pruned graph
pub pruned_past : (blocks : List Block) (b : ℕ) → among b (reached blocks) ≡ false → 0 < length blocks
    → slice_get (kept_blocks (reached blocks) 2 blocks) (rank_from 2 (reached blocks) b - 2) ≡ None
pruned_past blocks b m some =
    let many = pruned_length blocks some in
    let rank = rank_none 2 (reached blocks) b m in
    slice_get_past (kept_blocks (reached blocks) 2 blocks) (rank_from 2 (reached blocks) b - 2)
    (omega (arith, many, rank))
