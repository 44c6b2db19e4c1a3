-- Tests of a path place by place.
use Rattle.std.proofs.Common.{◌≡◌, refl, sym, ap, ap₂, ◌∙◌, ℕ, zero, suc, ◌+◌, ◌-◌, ◌≤◌, ◌<◌, ◌≢◌, ◌||◌, ◌&&◌, ◌==◌}
use Rattle.std.proofs.Common.{List, [], ◌∷◌, length, get_or, drop, Bool, true, false, arith}
use Rattle.std.proofs.lemmas.List.{drop_more}
use Rattle.path_masks.specs.UnderWay.{has_move, ends_by_move, is_just}

pub just_one : (b : ℕ) (p : List ℕ) (d : ℕ) → length p ≡ 1 → (get_or p 0 d == b) ≡ is_just b p
just_one b [] d l = absurd (omega (arith, l))
just_one b (x ∷ []) d l = refl
just_one b (x ∷ (y ∷ p)) d l = absurd (omega (arith, l))

pub just_other : (b : ℕ) (p : List ℕ) → length p ≢ 1 → false ≡ is_just b p
just_other b [] o = refl
just_other b (x ∷ []) o = absurd (o (omega arith))
just_other b (x ∷ (y ∷ p)) o = refl

-- the moves behind a place
pub move_more : (v b : ℕ) (p : List ℕ) (at d : ℕ) → 1 ≤ at → at < length p
    → has_move v b (drop (at - 1) p) ≡ (((get_or p (at - 1) d == v) && (get_or p at d == b)) || has_move v b
    (drop at p))
move_more v b p at d low l =
    ap (has_move v b) (drop_more p (at - 1) d (omega (arith, low, l)))
    ∙ ap (λ (k : ℕ). has_move v b (get_or p (at - 1) d ∷ drop k p)) back
    ∙ ap (λ (r : List ℕ). has_move v b (get_or p (at - 1) d ∷ r)) (drop_more p at d l)
    ∙ ap (λ (r : List ℕ). ((get_or p (at - 1) d == v) && (get_or p at d == b)) || has_move v b r)
    (sym (drop_more p at d l))
  where
    back : at - 1 + 1 ≡ at
    back = omega (arith, low)

pub move_none : (v b : ℕ) (p : List ℕ) (at : ℕ) → 1 ≤ at → length p ≤ at → has_move v b (drop (at - 1) p) ≡ false
move_none v b [] at low l = none (at - 1)
  where
    none : (k : ℕ) → has_move v b (drop k []) ≡ false
    none zero = refl
    none (suc k) = refl
move_none v b (x ∷ []) at low l = one (at - 1)
  where
    one : (k : ℕ) → has_move v b (drop k (x ∷ [])) ≡ false
    one zero = refl
    one (suc zero) = refl
    one (suc (suc k)) = refl
move_none v b (x ∷ (y ∷ p)) at low l = ap (λ k. has_move v b (drop k (x ∷ (y ∷ p)))) more
    ∙ move_none v b (y ∷ p) (at - 1) (omega (arith, l)) (omega (arith, l))
  where
    more : at - 1 ≡ suc (at - 1 - 1)
    more = omega (arith, l)

-- one place more without the move
pub move_step : (v b : ℕ) (p : List ℕ) (at d : ℕ) (is whole : Bool) → 1 ≤ at → at < length p
    → is ≡ ((get_or p (at - 1) d == v) && (get_or p at d == b)) → is ≡ false
    → has_move v b (drop (at - 1) p) ≡ whole → has_move v b (drop (at + 1 - 1) p) ≡ whole
move_step v b p at d is whole low l e f h =
    ap (λ k. has_move v b (drop k p)) back ∙ sym (ap (λ c. c || has_move v b (drop at p)) (sym e ∙ f))
    ∙ sym (move_more v b p at d low l) ∙ h
  where
    back : at + 1 - 1 ≡ at
    back = omega arith

-- one with it
pub move_found : (v b : ℕ) (p : List ℕ) (at d : ℕ) (is whole : Bool) → 1 ≤ at → at < length p
    → is ≡ ((get_or p (at - 1) d == v) && (get_or p at d == b)) → is ≡ true
    → has_move v b (drop (at - 1) p) ≡ whole → true ≡ whole
move_found v b p at d is whole low l e f h =
    sym (ap (λ c. c || has_move v b (drop at p)) (sym e ∙ f)) ∙ sym (move_more v b p at d low l) ∙ h

-- the last two blocks
pub ends_at : (v b : ℕ) (p : List ℕ) (d : ℕ) → 2 ≤ length p
    → ((get_or p (length p - 2) d == v) && (get_or p (length p - 1) d == b)) ≡ ends_by_move v b p
ends_at v b [] d l = absurd (omega (arith, l))
ends_at v b (x ∷ []) d l = absurd (omega (arith, l))
ends_at v b (x ∷ (y ∷ [])) d l = refl
ends_at v b (x ∷ (y ∷ (z ∷ p))) d l =
    ap₂ (λ i j. (get_or (x ∷ (y ∷ (z ∷ p))) i d == v) && (get_or (x ∷ (y ∷ (z ∷ p))) j d == b)) two one
    ∙ ends_at v b (y ∷ (z ∷ p)) d (omega arith)
  where
    two : length (x ∷ (y ∷ (z ∷ p))) - 2 ≡ suc (length (y ∷ (z ∷ p)) - 2)
    two = omega arith

    one : length (x ∷ (y ∷ (z ∷ p))) - 1 ≡ suc (length (y ∷ (z ∷ p)) - 1)
    one = omega arith

pub ends_none : (v b : ℕ) (p : List ℕ) → length p < 2 → false ≡ ends_by_move v b p
ends_none v b [] l = refl
ends_none v b (x ∷ []) l = refl
ends_none v b (x ∷ (y ∷ p)) l = absurd (omega (arith, l))
