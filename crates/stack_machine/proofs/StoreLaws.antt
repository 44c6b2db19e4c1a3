-- What a store is seen as, when it changes.
use Rattle.std.proofs.Common.{◌≡◌, refl, sym, ap, subst, min, ℕ, ◌+◌, ◌-◌, ◌<◌, ◌≤◌, ℤ, pos, List, [], ◌∷◌, ◌++◌, length, take, drop, reverse, replicate, set, append_assoc, drop_of_length-le, arith}
use Rattle.std.proofs.lemmas.List.{drop-drop, take-set-le, drop-set-lt, drop-set-add, length-take, length-drop, length-reverse, reverse-append, reverse-reverse, take-append-drop, take-append-le, drop-append-le, length-append, length-replicate}
use Rattle.std.proofs.Math.Seq.{take-set-lt, drop-append_seam, take-append_seam, take-add, take-length}
use Rattle.std.proofs.lemmas.List.{replicate-append-replicate}
use Rattle.stack_machine.specs.Store.{StoreValue, begun}

abbrev pub seen : List ℤ → ℕ → ℕ → ℕ → StoreValue
seen ns base floor room = record { below = take base ns; cells = take (floor - base) (drop base ns); operands = reverse (drop floor ns); room = room }

pub seen-set : (ns : List ℤ) (base floor room w : ℕ) (n : ℤ) → base + w < floor
    → seen (set ns (base + w) n) base floor room ≡ record (seen ns base floor room) { cells = set (take (floor - base) (drop base ns)) w n }
seen-set ns base floor room w n lt =
    rw (take-set-le base ns (base + w) n (omega arith), drop-set-add base ns w n, take-set-lt (floor - base) (drop base ns) w n (omega (arith, lt)), drop-set-lt floor ns (base + w) n lt) refl

pub seen-stored : (ns : List ℤ) (base floor room w : ℕ) (n m : ℤ) (s : StoreValue) → seen ns base floor room ≡ s → w < length s.cells → m ≡ n
    → seen (set ns (base + w) m) base floor room ≡ record s { cells = set s.cells w n }
seen-stored ns base floor room w n m s e lt is =
    let lt' : w < length (take (floor - base) (drop base ns)) = rw (sym e) at lt in
    let lt'' : w < min (floor - base) (length (drop base ns)) = rw (length-take (floor - base) (drop base ns)) at lt' in
    rw (is, sym e) (seen-set ns base floor room w n (omega (arith, lt'')))

pub zero-more : (ns xs : List ℤ) (k n : ℕ) → xs ≡ ns ++ replicate k (pos 0) → n ≡ k + 1 → xs ++ pos 0 ∷ [] ≡ ns ++ replicate n (pos 0)
zero-more ns xs k n e is =
    rw (e, is, append_assoc ns (replicate k (pos 0)) (pos 0 ∷ []))
    (ap (λ l. ns ++ l) (replicate-append-replicate k 1 (pos 0)))

-- the two parts of a list turned round
drop-reverse : (ys zs : List ℤ) → drop (length zs) (reverse (ys ++ zs)) ≡ reverse ys
drop-reverse ys zs = rw (reverse-append ys zs) (subst (λ n. drop n (reverse zs ++ reverse ys) ≡ reverse ys) (length-reverse zs) (drop-append_seam (reverse zs) (reverse ys)))

take-reverse : (ys zs : List ℤ) → take (length zs) (reverse (ys ++ zs)) ≡ reverse zs
take-reverse ys zs = rw (reverse-append ys zs) (subst (λ n. take n (reverse zs ++ reverse ys) ≡ reverse zs) (length-reverse zs) (take-append_seam (reverse zs) (reverse ys)))

-- the same of a list that is not given in parts
drop-of-reverse : (xs : List ℤ) (n p : ℕ) → n + p ≡ length xs → reverse (drop p (reverse xs)) ≡ take n xs
drop-of-reverse xs n p e =
    let size : length (drop n xs) ≡ p = rw (length-drop n xs) (omega (arith, e)) in
    let h : drop p (reverse xs) ≡ reverse (take n xs) =
    subst (λ k. drop k (reverse xs) ≡ reverse (take n xs)) size (subst (λ l. drop (length (drop n xs)) (reverse l) ≡ reverse (take n xs)) (take-append-drop n xs) (drop-reverse (take n xs) (drop n xs))) in
    rw (h, reverse-reverse (take n xs)) refl

take-of-reverse : (xs : List ℤ) (n p : ℕ) → n + p ≡ length xs → reverse (take p (reverse xs)) ≡ drop n xs
take-of-reverse xs n p e =
    let size : length (drop n xs) ≡ p = rw (length-drop n xs) (omega (arith, e)) in
    let h : take p (reverse xs) ≡ reverse (drop n xs) =
    subst (λ k. take k (reverse xs) ≡ reverse (drop n xs)) size (subst (λ l. take (length (drop n xs)) (reverse l) ≡ reverse (drop n xs)) (take-append-drop n xs) (take-reverse (take n xs) (drop n xs))) in
    rw (h, reverse-reverse (drop n xs)) refl

drop-drop' : (a b n : ℕ) (xs : List ℤ) → a + b ≡ n → drop b (drop a xs) ≡ drop n xs
drop-drop' a b n xs e = rw (drop-drop b a xs) (ap (λ k. drop k xs) e)

take-whole : (xs : List ℤ) (n : ℕ) → n ≡ length xs → take n xs ≡ xs
take-whole xs n e = rw e (take-length xs)

pub seen-begun : (ns zs : List ℤ) (base floor room p cells low high : ℕ) (s : StoreValue) → seen ns base floor room ≡ s → base ≤ floor → floor ≤ length ns → p ≤ length s.operands → p ≤ cells
    → zs ≡ ns ++ replicate (cells - p) (pos 0) → low + p ≡ length ns → high ≡ length ns + (cells - p) → seen zs low high room ≡ begun p cells s
seen-begun ns zs base floor room p cells low high s e le within params more is l h =
    let ps : p ≤ length (drop floor ns) = rw (sym e, length-reverse (drop floor ns)) at params in
    let qs : p ≤ length ns - floor = rw (length-drop floor ns) at ps in
    let n : ℕ = length ns - floor - p in
    let size : n + p ≡ length (drop floor ns) = rw (length-drop floor ns) (omega (arith, qs)) in
    let lows : low ≡ base + ((floor - base) + n) = omega (arith, l, qs, le, within) in
    let same : drop (floor - base) (drop base ns) ≡ drop floor ns = drop-drop' base (floor - base) floor ns (omega (arith, le)) in
    let below : take low zs ≡ take base ns ++ (take (floor - base) (drop base ns) ++ reverse (drop p (reverse (drop floor ns)))) =
    rw (is, take-append-le low ns (replicate (cells - p) (pos 0)) (omega (arith, l)), lows, take-add base ((floor - base) + n) ns, take-add (floor - base) n (drop base ns), same, drop-of-reverse (drop floor ns) n p size) refl in
    let cs : take (high - low) (drop low zs) ≡ reverse (take p (reverse (drop floor ns))) ++ replicate (cells - p) (pos 0) =
    rw (is, drop-append-le low ns (replicate (cells - p) (pos 0)) (omega (arith, l)), take-of-reverse (drop floor ns) n p size, drop-drop' floor n low ns (omega (arith, l, qs, within)))
    (take-whole (drop low ns ++ replicate (cells - p) (pos 0)) (high - low)
    (rw (length-append (drop low ns) (replicate (cells - p) (pos 0)), length-drop low ns, length-replicate (cells - p) (pos 0)) (omega (arith, h, l)))) in
    let none : drop high zs ≡ [] = drop_of_length-le zs (rw (is, length-append ns (replicate (cells - p) (pos 0)), length-replicate (cells - p) (pos 0)) (omega (arith, h))) in
    let os : reverse (drop high zs) ≡ [] = rw none refl in
    rw (sym e, below, cs, os) refl

pub operands-within : (ns : List ℤ) (base floor room p : ℕ) (s : StoreValue) → seen ns base floor room ≡ s → p ≤ length s.operands → p ≤ length ns
operands-within ns base floor room p s e h =
    let a : p ≤ length (drop floor ns) = rw (sym e, length-reverse (drop floor ns)) at h in
    let b : p ≤ length ns - floor = rw (length-drop floor ns) at a in
    omega (arith, b)
