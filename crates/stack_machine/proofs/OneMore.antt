-- A member of a list that becomes one more.
use Rattle.std.proofs.Common.{◌≡◌, ap, ℕ, zero, suc, ◌+◌, ◌<◌, List, [], ◌∷◌, length, set, get_or, arith}
use Rattle.code_runs.specs.CodeRun.{at_index}

-- a member that becomes one more
pub one_more : (xs : List ℕ) (n d : ℕ) → n < length xs → set xs n (get_or xs n d + 1) ≡ at_index suc n xs
one_more [] n d lt = absurd (omega (arith, lt))
one_more (x ∷ xs) zero d lt = ap (λ k. k ∷ xs) (omega arith)
one_more (x ∷ xs) (suc n) d lt = ap (λ l. x ∷ l) (one_more xs n d (omega (arith, lt)))
