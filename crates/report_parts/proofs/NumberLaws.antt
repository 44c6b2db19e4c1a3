-- Numbers in a row, one by one.
use Rattle.std.proofs.Common.{◌≡◌, ℕ, suc, ◌+◌, ◌-◌, ◌<◌, ◌≤◌, Bool, cond, List, [], ◌∷◌, ◌++◌, ap, ◌∙◌, arith, append_assoc, append-nil, sym}
use Rattle.std.specs.List.{count_by, flat_map}
use Rattle.std.proofs.lemmas.List.Sums.{sum_by-cons}
use Rattle.prime_paths.specs.Lister.{numbers}

-- The first of the numbers up to a bound, and the others.
pub numbers_more : (b n : ℕ) → b < n → numbers b (n - b) ≡ b ∷ numbers (b + 1) (n - (b + 1))
numbers_more b n low = ap (numbers b) left ∙ ap (λ k. b ∷ numbers k (n - (b + 1))) next
  where
    left : n - b ≡ suc (n - (b + 1))
    left = omega (arith, low)

    next : suc b ≡ b + 1
    next = omega arith

-- None are left at the bound.
pub numbers_done : (b n : ℕ) → n ≤ b → numbers b (n - b) ≡ []
numbers_done b n past = ap (numbers b) left
  where
    left : n - b ≡ 0
    left = omega (arith, past)

-- How many numbers up to a bound pass a test: the first, and the others.
pub count_more : (p : ℕ → Bool) (b n : ℕ) → b < n
    → count_by p (numbers b (n - b)) ≡ cond (p b) 1 0 + count_by p (numbers (b + 1) (n - (b + 1)))
count_more p b n low =
    ap (count_by p) (numbers_more b n low)
    ∙ sum_by-cons (λ k. cond (p k) 1 0) b (numbers (b + 1) (n - (b + 1)))

-- one number more is counted
pub count_step : (p : ℕ → Bool) (b n so_far now one all : ℕ) → b < n → now ≡ so_far + one → one ≡ cond (p b) 1 0
    → so_far + count_by p (numbers b (n - b)) ≡ all → now + count_by p (numbers (b + 1) (n - (b + 1))) ≡ all
count_step p b n so_far now one all low is_now is_one left =
    omega (arith, is_now, is_one, left, count_more p b n low)

-- all are counted
pub count_done : (p : ℕ → Bool) (b n so_far all : ℕ) → n ≤ b → so_far + count_by p (numbers b (n - b)) ≡ all → so_far ≡ all
count_done p b n so_far all past left = omega (arith, left, ap (count_by p) (numbers_done b n past))

-- The texts of numbers up to a bound: that of the first, and those of the others.
pub text_step : (f : ℕ → List ℕ) (b n : ℕ) (so_far now all : List ℕ) → b < n → now ≡ so_far ++ f b
    → so_far ++ flat_map f (numbers b (n - b)) ≡ all → now ++ flat_map f (numbers (b + 1) (n - (b + 1))) ≡ all
text_step f b n so_far now all low is_now left =
    ap (λ (l : List ℕ). l ++ flat_map f (numbers (b + 1) (n - (b + 1)))) is_now
    ∙ (append_assoc so_far (f b) (flat_map f (numbers (b + 1) (n - (b + 1))))
    ∙ (ap (λ (l : List ℕ). so_far ++ flat_map f l) (sym (numbers_more b n low)) ∙ left))

-- none are left
pub text_done : (f : ℕ → List ℕ) (b n : ℕ) (so_far all : List ℕ) → n ≤ b
    → so_far ++ flat_map f (numbers b (n - b)) ≡ all → so_far ≡ all
text_done f b n so_far all past left =
    sym (append-nil so_far) ∙ (ap (λ (l : List ℕ). so_far ++ flat_map f l) (sym (numbers_done b n past)) ∙ left)
