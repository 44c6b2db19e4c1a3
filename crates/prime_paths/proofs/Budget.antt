-- What a spent budget shows, and that the prime paths of a net are fit for masks.
use Rattle.std.proofs.Common.{◌≡◌, refl, sym, subst, ℕ, zero, suc, ◌+◌, ◌*◌, ◌/◌, ◌≤◌, ◌<◌, ◌&&◌, [], ◌∷◌, length, true, ◌⊎◌, inl, inr, arith, mul-le-mul}
use Rattle.std.proofs.lemmas.Bool.{and_parts, and_from, cases_eq}
use Rattle.cov_base.specs.Net.{NetValue}
use Rattle.prime_paths.specs.Paths.{is_simple, is_simple_path, leads, is_inner, IsPrime}
use Rattle.prime_paths.specs.Lister.{simple_paths, listing}
use Rattle.prime_paths.proofs.Counting.{few_simple}

-- where there are more simple paths than limit * (n + 1) * (n + 2) / 2, there are more prime paths than the limit
pub spent : (net : NetValue) (limit : ℕ) → limit * ((net.blocks + 1) * (net.blocks + 2)) / 2 < length (simple_paths net)
    → limit < length (listing net)
spent net limit l = over (limit * ((net.blocks + 1) * (net.blocks + 2))) (few_simple net) refl l
    (below_or limit (length (listing net)))
  where
    below_or : (a b : ℕ) → (b ≤ a) ⊎ (a < b)
    below_or zero zero = inl (omega arith)
    below_or zero (suc b) = inr (omega arith)
    below_or (suc a) zero = inl (omega arith)
    below_or (suc a) (suc b) = elim (below_or a b) [ inl h ↦ inl (omega (arith, h)) | inr h ↦ inr (omega (arith, h)) ]

    over : (m : ℕ) → 2 * length (simple_paths net) ≤ length (listing net) * ((net.blocks + 1) * (net.blocks + 2)) → m
        ≡ limit * ((net.blocks + 1) * (net.blocks + 2))
        → m / 2 < length (simple_paths net) → (length (listing net) ≤ limit) ⊎ (limit < length (listing net))
        → limit < length (listing net)
    over m few e l (inr h) = h
    over m few e l (inl h) =
        let most : length (listing net) * ((net.blocks + 1) * (net.blocks + 2)) ≤ limit *
        ((net.blocks + 1) * (net.blocks + 2)) = mul-le-mul h (omega arith) in
        absurd (omega (arith, few, e, l, most))

-- ---- prime paths are fit for masks

edge : (net : NetValue) (a b : ℕ) → leads net a b ≡ true → is_inner net a ≡ true → is_inner net b ≡ true → (a ≡ b → ⊥)
    → is_simple_path net (a ∷ b ∷ []) ≡ true
edge net a b l x y o =
    and_from (is_inner net a && (leads net a b && (is_inner net b && true))) (is_simple (a ∷ b ∷ []))
    (and_from _ _ x (and_from _ _ l (and_from _ _ y refl))) refl

turn : (net : NetValue) (a : ℕ) → leads net a a ≡ true → is_inner net a ≡ true → is_simple_path net (a ∷ a ∷ []) ≡ true
turn net a l x =
    and_from (is_inner net a && (leads net a a && (is_inner net a && true))) (is_simple (a ∷ a ∷ []))
    (and_from _ _ x (and_from _ _ l (and_from _ _ x refl))) refl

-- no prime path is one block that another block, or itself, leads to
pub single_prime : (net : NetValue) (a b : ℕ) → IsPrime net (b ∷ []) → leads net a b ≡ true → is_inner net a ≡ true → ⊥
single_prime net a b h l x =
    let y : is_inner net b ≡ true = (and_parts (is_inner net b) true
    (and_parts (is_inner net b && true) (is_simple (b ∷ [])) h.simple).0).0 in
    go (cases_eq a b) y
  where
    go : (a ≡ b) ⊎ (a ≡ b → ⊥) → is_inner net b ≡ true → ⊥
    go (inl e) y = (let never : a ∷ b ∷ [] ≡ b ∷ [] = h.maximal (a ∷ b ∷ [])
        (subst (λ k. is_simple_path net (k ∷ b ∷ []) ≡ true) (sym e)
        (turn net b (subst (λ k. leads net k b ≡ true) e l) y)) (a ∷ [], [], refl) in cc)
    go (inr o) y = (let never : a ∷ b ∷ [] ≡ b ∷ [] = h.maximal (a ∷ b ∷ []) (edge net a b l x y o)
        (a ∷ [], [], refl) in cc)
