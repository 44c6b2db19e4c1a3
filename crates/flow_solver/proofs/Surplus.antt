-- What known arcs bring to blocks.
use Rattle.std.proofs.Common.{◌≡◌, refl, sym, ap, subst, ◌∙◌, ℕ, zero, suc, ◌+◌, ◌<◌, ◌≤◌, ◌==◌, List, [], ◌∷◌}
use Rattle.std.proofs.Common.{length, get_or, Bool, true, false, cond, ◌⊎◌, inl, inr, arith, pos, ◌+ℤ◌}
use Rattle.std.specs.Prelude.{ℤ, Option, Some, None, slice_get, ◌-ℤ◌}
use Rattle.std.proofs.lemmas.Bool.{cond-true, cond-false, cases_eq, ne_eqb}
use Rattle.std.proofs.lemmas.Int.{ints}
use Rattle.std.proofs.Common.{eq-eqb}
use Rattle.cov_base.specs.declared.net.FlowArc.{FlowArc}
use Rattle.span_tree.specs.Circulation.{sum_in, sum_out}

-- what an arc with this number brings to a block: the number where it enters, less the number where it leaves
abbrev pub brought : FlowArc → ℤ → ℕ → ℤ
brought arc x b = cond (arc.to == b) x (pos 0) -ℤ cond (arc.from == b) x (pos 0)

-- what the known ones of these arcs bring to a block, where the first has index i
abbrev pub surplus : (ℕ → Bool) → ℕ → ℕ → List FlowArc → List ℤ → ℤ
surplus known b i [] xs = pos 0
surplus known b i (arc ∷ arcs) [] = pos 0
surplus known b i (arc ∷ arcs) (x ∷ xs) = cond (known i) (brought arc x b) (pos 0) +ℤ surplus known b (suc i) arcs xs

-- where the same arcs are known and have the same numbers, they bring the same
pub surplus_same : (known other : ℕ → Bool) (b i : ℕ) (arcs : List FlowArc) (xs ys : List ℤ) → length xs ≡ length ys
    → ((k : ℕ) → k < length arcs → known (i + k) ≡ other (i + k))
    → ((k : ℕ) → known (i + k) ≡ true → get_or xs k (pos 0) ≡ get_or ys k (pos 0))
    → surplus known b i arcs xs ≡ surplus other b i arcs ys
surplus_same known other b i [] xs ys l same at = refl
surplus_same known other b i (arc ∷ arcs) [] [] l same at = refl
surplus_same known other b i (arc ∷ arcs) [] (y ∷ ys) l same at = absurd (omega (arith, l))
surplus_same known other b i (arc ∷ arcs) (x ∷ xs) [] l same at = absurd (omega (arith, l))
surplus_same known other b i (arc ∷ arcs) (x ∷ xs) (y ∷ ys) l same at =
    go (known i) (other i) (subst (λ j. known j ≡ other j) (omega arith) (same zero (omega arith)))
    (λ e. at zero (subst (λ j. known j ≡ true) (omega arith) e))
    (surplus_same known other b (suc i) arcs xs ys (omega (arith, l))
    (λ k lt. subst (λ j. known j ≡ other j) (omega arith) (same (suc k) (omega (arith, lt))))
    (λ k e. at (suc k) (subst (λ j. known j ≡ true) (omega arith) e)))
  where
    go : (p q : Bool) → p ≡ q → (p ≡ true → x ≡ y)
        → surplus known b (suc i) arcs xs ≡ surplus other b (suc i) arcs ys
        → cond p (brought arc x b) (pos 0) +ℤ surplus known b (suc i) arcs xs
        ≡ cond q (brought arc y b) (pos 0) +ℤ surplus other b (suc i) arcs ys
    go true true e h r = ap (λ z. brought arc z b +ℤ surplus known b (suc i) arcs xs) (h refl)
        ∙ ap (λ s. brought arc y b +ℤ s) r
    go true false e h r = absurd (cc)
    go false true e h r = absurd (cc)
    go false false e h r = ap (λ s. pos 0 +ℤ s) r

-- where one more arc is known, it brings its number too
pub surplus_more : (known more : ℕ → Bool) (b i : ℕ) (arcs : List FlowArc) (xs ys : List ℤ) (at : ℕ) (arc : FlowArc)
    → length xs ≡ length ys → at < length ys → slice_get arcs at ≡ Some arc
    → known (i + at) ≡ false → more (i + at) ≡ true
    → ((k : ℕ) → (k ≡ at → ⊥) → known (i + k) ≡ more (i + k))
    → ((k : ℕ) → (k ≡ at → ⊥) → known (i + k) ≡ true → get_or xs k (pos 0) ≡ get_or ys k (pos 0))
    → surplus more b i arcs ys ≡ surplus known b i arcs xs +ℤ brought arc (get_or ys at (pos 0)) b
surplus_more known more b i [] xs ys at arc l w is new now same eq = absurd (let never : None ≡ Some arc = is in cc)
surplus_more known more b i (a ∷ arcs) xs [] at arc l w is new now same eq = absurd (omega (arith, w))
surplus_more known more b i (a ∷ arcs) [] (y ∷ ys) at arc l w is new now same eq = absurd (omega (arith, l))
surplus_more known more b i (a ∷ arcs) (x ∷ xs) (y ∷ ys) zero arc l w is new now same eq =
    let this : a ≡ arc = (let h : Some a ≡ Some arc = is in cc) in
    let rest = surplus_same known more b (suc i) arcs xs ys (omega (arith, l))
    (λ k lt. subst (λ j. known j ≡ more j) (omega arith) (same (suc k) (λ e. omega (arith, e))))
    (λ k e. eq (suc k) (λ e. omega (arith, e)) (subst (λ j. known j ≡ true) (omega arith) e)) in
    let was = cond-false (known i) (brought a x b) (pos 0) (subst (λ j. known j ≡ false) (omega arith) new) in
    let is_now = cond-true (more i) (brought a y b) (pos 0) (subst (λ j. more j ≡ true) (omega arith) now) in
    let its = ap (λ (z : FlowArc). brought z y b) this in
    go _ _ _ _ _ _ rest was is_now its
  where
    go : (s t c d e f : ℤ) → s ≡ t → c ≡ pos 0 → d ≡ e → e ≡ f → d +ℤ t ≡ (c +ℤ s) +ℤ f
    go s t c d e f h k m n = omega (arith, ints, h, k, m, n)
surplus_more known more b i (a ∷ arcs) (x ∷ xs) (y ∷ ys) (suc at) arc l w is new now same eq =
    let rest = surplus_more known more b (suc i) arcs xs ys at arc (omega (arith, l)) (omega (arith, w)) is
    (subst (λ j. known j ≡ false) (omega arith) new) (subst (λ j. more j ≡ true) (omega arith) now)
    (λ k ne. subst (λ j. known j ≡ more j) (omega arith) (same (suc k) (λ e. ne (omega (arith, e)))))
    (λ k ne e. eq (suc k) (λ e. ne (omega (arith, e))) (subst (λ j. known j ≡ true) (omega arith) e)) in
    go (known i) (more i) (subst (λ j. known j ≡ more j) (omega arith) (same zero (λ e. omega (arith, e))))
    (λ e. eq zero (λ e. omega (arith, e)) (subst (λ j. known j ≡ true) (omega arith) e)) rest
  where
    go : (p q : Bool) → p ≡ q → (p ≡ true → x ≡ y)
        → surplus more b (suc i) arcs ys
        ≡ surplus known b (suc i) arcs xs +ℤ brought arc (get_or ys at (pos 0)) b
        → cond q (brought a y b) (pos 0) +ℤ surplus more b (suc i) arcs ys
        ≡ (cond p (brought a x b) (pos 0) +ℤ surplus known b (suc i) arcs xs) +ℤ brought arc (get_or ys at (pos 0)) b
    go true true e h r =
        over (brought a y b) (brought a x b) (surplus more b (suc i) arcs ys) (surplus known b (suc i) arcs xs)
        (brought arc (get_or ys at (pos 0)) b) (sym (ap (λ z. brought a z b) (h refl))) r
      where
        over : (c d s t f : ℤ) → c ≡ d → s ≡ t +ℤ f → c +ℤ s ≡ (d +ℤ t) +ℤ f
        over c d s t f h k = omega (arith, ints, h, k)
    go true false e h r = absurd (cc)
    go false true e h r = absurd (cc)
    go false false e h r =
        over (surplus more b (suc i) arcs ys) (surplus known b (suc i) arcs xs) (brought arc (get_or ys at (pos 0)) b) r
      where
        over : (s t f : ℤ) → s ≡ t +ℤ f → pos 0 +ℤ s ≡ (pos 0 +ℤ t) +ℤ f
        over s t f k = omega (arith, ints, k)

-- where no arc is known, nothing is brought
pub surplus_none : (known : ℕ → Bool) (b i : ℕ) (arcs : List FlowArc) (xs : List ℤ)
    → ((k : ℕ) → known (i + k) ≡ false) → surplus known b i arcs xs ≡ pos 0
surplus_none known b i [] xs h = refl
surplus_none known b i (arc ∷ arcs) [] h = refl
surplus_none known b i (arc ∷ arcs) (x ∷ xs) h =
    let here = cond-false (known i) (brought arc x b) (pos 0) (subst (λ j. known j ≡ false) (omega arith) (h zero)) in
    let rest = surplus_none known b (suc i) arcs xs (λ k. subst (λ j. known j ≡ false) (omega arith) (h (suc k))) in
    over _ _ here rest
  where
    over : (c s : ℤ) → c ≡ pos 0 → s ≡ pos 0 → c +ℤ s ≡ pos 0
    over c s h k = omega (arith, ints, h, k)

-- where all arcs are known, the sum in less the sum out is brought
pub surplus_all : (known : ℕ → Bool) (b i : ℕ) (arcs : List FlowArc) (xs : List ℤ)
    → ((k : ℕ) → known (i + k) ≡ true) → surplus known b i arcs xs ≡ sum_in b arcs xs -ℤ sum_out b arcs xs
surplus_all known b i [] xs h = refl
surplus_all known b i (arc ∷ arcs) [] h = refl
surplus_all known b i (arc ∷ arcs) (x ∷ xs) h =
    let here = cond-true (known i) (brought arc x b) (pos 0) (subst (λ j. known j ≡ true) (omega arith) (h zero)) in
    let rest = surplus_all known b (suc i) arcs xs (λ k. subst (λ j. known j ≡ true) (omega arith) (h (suc k))) in
    over (cond (known i) (brought arc x b) (pos 0)) (surplus known b (suc i) arcs xs) (sum_in b arcs xs)
    (sum_out b arcs xs) (cond (arc.to == b) x (pos 0)) (cond (arc.from == b) x (pos 0)) here rest
  where
    over : (c s in_ out f g : ℤ) → c ≡ f -ℤ g → s ≡ in_ -ℤ out → c +ℤ s ≡ (f +ℤ in_) -ℤ (g +ℤ out)
    over c s in_ out f g h k = omega (arith, ints, h, k)

-- ---- sums over blocks

-- the sum over the blocks below n
abbrev pub total : ℕ → (ℕ → ℤ) → ℤ
total zero f = pos 0
total (suc n) f = f n +ℤ total n f

total_none : (n : ℕ) (f : ℕ → ℤ) → ((b : ℕ) → b < n → f b ≡ pos 0) → total n f ≡ pos 0
total_none zero f h = refl
total_none (suc n) f h = over _ _ (h n (omega arith)) (total_none n f (λ b l. h b (omega (arith, l))))
  where
    over : (c s : ℤ) → c ≡ pos 0 → s ≡ pos 0 → c +ℤ s ≡ pos 0
    over c s h k = omega (arith, ints, h, k)

total_one : (n t : ℕ) (x : ℤ) → t < n → total n (λ b. cond (t == b) x (pos 0)) ≡ x
total_one zero t x l = absurd (omega (arith, l))
total_one (suc n) t x l = go (cases_eq t n) (λ l. total_one n t x l)
  where
    go : (t ≡ n) ⊎ (t ≡ n → ⊥) → (t < n → total n (λ b. cond (t == b) x (pos 0)) ≡ x)
        → cond (t == n) x (pos 0) +ℤ total n (λ b. cond (t == b) x (pos 0)) ≡ x
    go (inl same) rec = over _ _ (cond-true (t == n) x (pos 0) (eq-eqb t n same))
        (total_none n (λ b. cond (t == b) x (pos 0))
        (λ b l. cond-false (t == b) x (pos 0) (ne_eqb t b (λ e. omega (arith, l, e, same)))))
      where
        over : (c s : ℤ) → c ≡ x → s ≡ pos 0 → c +ℤ s ≡ x
        over c s h k = omega (arith, ints, h, k)
    go (inr other) rec = over _ _ (cond-false (t == n) x (pos 0) (ne_eqb t n other)) (rec (omega (arith, l, other)))
      where
        over : (c s : ℤ) → c ≡ pos 0 → s ≡ x → c +ℤ s ≡ x
        over c s h k = omega (arith, ints, h, k)

total_add : (n : ℕ) (f g : ℕ → ℤ) → total n (λ b. f b +ℤ g b) ≡ total n f +ℤ total n g
total_add zero f g = refl
total_add (suc n) f g = over (total n (λ b. f b +ℤ g b)) (total n f) (total n g) (f n) (g n) (total_add n f g)
  where
    over : (s t u c d : ℤ) → s ≡ t +ℤ u → (c +ℤ d) +ℤ s ≡ (c +ℤ t) +ℤ (d +ℤ u)
    over s t u c d h = omega (arith, ints, h)

total_sub : (n : ℕ) (f g : ℕ → ℤ) → total n (λ b. f b -ℤ g b) ≡ total n f -ℤ total n g
total_sub zero f g = refl
total_sub (suc n) f g = over (total n (λ b. f b -ℤ g b)) (total n f) (total n g) (f n) (g n) (total_sub n f g)
  where
    over : (s t u c d : ℤ) → s ≡ t -ℤ u → (c -ℤ d) +ℤ s ≡ (c +ℤ t) -ℤ (d +ℤ u)
    over s t u c d h = omega (arith, ints, h)

-- What an arc brings to all blocks is nothing.
pub total_surplus : (n i : ℕ) (known : ℕ → Bool) (arcs : List FlowArc) (xs : List ℤ)
    → ((k : ℕ) (arc : FlowArc) → slice_get arcs k ≡ Some arc → (arc.from < n) × (arc.to < n))
    → total n (λ b. surplus known b i arcs xs) ≡ pos 0
total_surplus n i known [] xs ends = total_none n (λ b. pos 0) (λ b l. refl)
total_surplus n i known (arc ∷ arcs) [] ends = total_none n (λ b. pos 0) (λ b l. refl)
total_surplus n i known (arc ∷ arcs) (x ∷ xs) ends =
    over _ _ _ (total_add n (λ b. cond (known i) (brought arc x b) (pos 0)) (λ b. surplus known b (suc i) arcs xs))
    (go (known i)) (total_surplus n (suc i) known arcs xs (λ k a at. ends (suc k) a at))
  where
    over : (s c d : ℤ) → s ≡ c +ℤ d → c ≡ pos 0 → d ≡ pos 0 → s ≡ pos 0
    over s c d h k m = omega (arith, ints, h, k, m)

    go : (p : Bool) → total n (λ b. cond p (brought arc x b) (pos 0)) ≡ pos 0
    go true = apart _ _ _ (total_sub n (λ b. cond (arc.to == b) x (pos 0)) (λ b. cond (arc.from == b) x (pos 0)))
        (total_one n arc.to x (ends zero arc refl).1) (total_one n arc.from x (ends zero arc refl).0)
      where
        apart : (s c d : ℤ) → s ≡ c -ℤ d → c ≡ x → d ≡ x → s ≡ pos 0
        apart s c d h k m = omega (arith, ints, h, k, m)
    go false = total_none n (λ b. pos 0) (λ b l. refl)

-- where each block from 2 up has 0, the sum is that of the first two
pub total_two : (n : ℕ) (f : ℕ → ℤ) → 2 ≤ n → ((b : ℕ) → 2 ≤ b → b < n → f b ≡ pos 0) → total n f ≡ f 0 +ℤ f 1
total_two zero f l h = absurd (omega (arith, l))
total_two (suc zero) f l h = absurd (omega (arith, l))
total_two (suc (suc zero)) f l h = over (f 0) (f 1)
  where
    over : (a b : ℤ) → b +ℤ (a +ℤ pos 0) ≡ a +ℤ b
    over a b = omega (arith, ints)
total_two (suc (suc (suc n))) f l h =
    over _ _ _ (h (suc (suc n)) (omega arith) (omega arith))
    (total_two (suc (suc n)) f (omega arith) (λ b low high. h b low (omega (arith, high))))
  where
    over : (c s t : ℤ) → c ≡ pos 0 → s ≡ t → c +ℤ s ≡ t
    over c s t h k = omega (arith, ints, h, k)
