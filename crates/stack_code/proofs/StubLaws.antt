-- Where the stubs of a switch stand.
use Rattle.std.proofs.Common.{◌≡◌, ◌≢◌, refl, sym, ap, ◌∙◌, ℕ, zero, suc, ◌+◌, ◌<◌, ◌≤◌, List, []}
use Rattle.std.proofs.Common.{◌∷◌, ◌++◌, length, drop, get_or, arith, eq-eqb, length-append, append_assoc, append-nil}
use Rattle.std.proofs.lemmas.Bool.{ne_eqb}
use Rattle.std.proofs.lemmas.List.{drop_more, drop_all}
use Rattle.c_tree.specs.Sound.{Each}
use Rattle.flow_graph.specs.Ascending.{Ascends}
use Rattle.stack_ops.specs.declared.operation.Op.{Op}
use Rattle.stack_ops.specs.declared.operation.Op.TheVariants as op
use Rattle.stack_code.specs.Laying.{stub, stubs, stub_at, land}
use Rattle.stack_code.specs.Places.{stubs_from, stubs_end}

each_at : (P : ℕ → Type 0) (xs : List ℕ) (k : ℕ) → Each P xs → k < length xs → P (get_or xs k 0)
each_at P [] k h lt = absurd (omega (arith, lt))
each_at P (x ∷ xs) zero h lt = h.0
each_at P (x ∷ xs) (suc k) h lt = each_at P xs k h.1 (omega (arith, lt))

-- numbers that ascend rise from place to place
pub rising : (xs : List ℕ) → Ascends xs → (i j : ℕ) → i ≤ j → j < length xs → get_or xs i 0 ≤ get_or xs j 0
rising [] up i j le lt = absurd (omega (arith, lt))
rising (x ∷ xs) up zero zero le lt = omega arith
rising (x ∷ xs) up zero (suc j) le lt =
    let above = each_at (λ y. x < y) xs j up.0 (omega (arith, lt)) in omega (arith, above)
rising (x ∷ xs) up (suc i) zero le lt = absurd (omega (arith, le))
rising (x ∷ xs) up (suc i) (suc j) le lt = rising xs up.1 i j (omega (arith, le)) (omega (arith, lt))

pub many_stubs : (m : ℕ → List Op) (q : ℕ) (ts : List ℕ) → length (stubs_from m q ts) ≡ length ts
many_stubs m q [] = refl
many_stubs m q (t ∷ ts) = ap suc (many_stubs m (q + length (stub (m t) 0)) ts)

pub stub_found : (m : ℕ → List Op) (q : ℕ) (ts : List ℕ) (i t d : ℕ) → Ascends ts → i < length ts
    → get_or ts i 0 ≡ t → get_or (stubs_from m q ts) i d ≡ stub_at m q ts t
stub_found m q [] i t d up lt e = absurd (omega (arith, lt))
stub_found m q (x ∷ ts) zero t d up lt e = rw (eq-eqb t x (sym e)) refl
stub_found m q (x ∷ ts) (suc i) t d up lt e =
    let above = each_at (λ y. x < y) ts i up.0 (omega (arith, lt)) in
    rw (ne_eqb t x (λ same. omega (arith, above, same, e)))
    (stub_found m (q + length (stub (m x) 0)) ts i t d up.1 (omega (arith, lt)) e)

pub stub_missing : (m : ℕ → List Op) (q : ℕ) (ts : List ℕ) (t : ℕ)
    → ((k : ℕ) → k < length ts → get_or ts k 0 ≢ t) → stubs_end m q ts ≡ stub_at m q ts t
stub_missing m q [] t none = refl
stub_missing m q (x ∷ ts) t none =
    rw (ne_eqb t x (λ same. none 0 (omega arith) (sym same)))
    (stub_missing m (q + length (stub (m x) 0)) ts t (λ k lt. none (suc k) (omega (arith, lt))))

-- a way goes to its block or to the stub
pub land_near : (ms : List Op) (place q : ℕ) → length ms ≡ 0 → place ≡ land ms place q
land_near [] place q e = refl
land_near (o ∷ os) place q e = absurd (omega (arith, e))

pub land_far : (ms : List Op) (place q : ℕ) → length ms ≢ 0 → q ≡ land ms place q
land_far [] place q e = absurd (e refl)
land_far (o ∷ os) place q e = refl

pub stub_near : (ms : List Op) (place : ℕ) (old : List Op) → length ms ≡ 0 → old ≡ old ++ stub ms place
stub_near [] place old e = sym (append-nil old)
stub_near (o ∷ os) place old e = absurd (omega (arith, e))

pub stub_far : (ms : List Op) (place : ℕ) (old new : List Op) → length ms ≢ 0
    → new ≡ old ++ (ms ++ op.Jump place ∷ []) → new ≡ old ++ stub ms place
stub_far [] place old new e h = absurd (e refl)
stub_far (o ∷ os) place old new e h = h

-- ---- loops

pub stubs_step : (m : ℕ → List Op) (ts : List ℕ) (d k q p : ℕ) (places more whole : List ℕ) → k < length ts
    → p ≡ q + length (stub (m (get_or ts k d)) 0) → more ≡ places ++ q ∷ []
    → places ++ stubs_from m q (drop k ts) ≡ whole → more ++ stubs_from m p (drop (k + 1) ts) ≡ whole
stubs_step m ts d k q p places more whole l e h w =
    ap (λ (x : List ℕ). x ++ stubs_from m p (drop (k + 1) ts)) h
    ∙ append_assoc places (q ∷ []) (stubs_from m p (drop (k + 1) ts))
    ∙ ap (λ (i : ℕ). places ++ q ∷ stubs_from m i (drop (k + 1) ts)) e
    ∙ ap (λ (rest : List ℕ). places ++ stubs_from m q rest) (sym (drop_more ts k d l)) ∙ w

pub ends_step : (m : ℕ → List Op) (ts : List ℕ) (d k q p whole : ℕ) → k < length ts
    → p ≡ q + length (stub (m (get_or ts k d)) 0) → stubs_end m q (drop k ts) ≡ whole
    → stubs_end m p (drop (k + 1) ts) ≡ whole
ends_step m ts d k q p whole l e w =
    ap (λ (i : ℕ). stubs_end m i (drop (k + 1) ts)) e
    ∙ ap (λ (rest : List ℕ). stubs_end m q rest) (sym (drop_more ts k d l)) ∙ w

-- where the last stub ends
pub ends_long : (m : ℕ → List Op) (q : ℕ) (ts : List ℕ)
    → stubs_end m q ts ≡ q + length (stubs m (λ x. 0) ts)
ends_long m q [] = omega arith
ends_long m q (t ∷ ts) =
    let rest = ends_long m (q + length (stub (m t) 0)) ts in
    let n = length-append (stub (m t) 0) (stubs m (λ x. 0) ts) in omega (arith, rest, n)

pub stubs_done : (m : ℕ → List Op) (ts : List ℕ) (k q : ℕ) (places whole : List ℕ) → length ts ≤ k
    → places ++ stubs_from m q (drop k ts) ≡ whole → places ≡ whole
stubs_done m ts k q places whole l h =
    sym (append-nil places) ∙ ap (λ (rest : List ℕ). places ++ stubs_from m q rest) (sym (drop_all k ts l)) ∙ h

pub ends_done : (m : ℕ → List Op) (ts : List ℕ) (k q whole : ℕ) → length ts ≤ k
    → stubs_end m q (drop k ts) ≡ whole → q ≡ whole
ends_done m ts k q whole l h = ap (λ (rest : List ℕ). stubs_end m q rest) (sym (drop_all k ts l)) ∙ h
