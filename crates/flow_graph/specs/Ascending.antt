-- Lists of numbers that ascend, each once.
use Rattle.std.specs.Prelude.{◌≡◌, ℕ, ◌<◌, ◌≤◌, ◌==◌, nat_lt, cond, List, [], ◌∷◌, length}
use Rattle.std.specs.List.{insert}
use Rattle.c_tree.specs.Sound.{Each}

-- an ascending list with one more number, which it may have already
abbrev pub inserted : ℕ → List ℕ → List ℕ
inserted n [] = n ∷ []
inserted n (m ∷ ms) = cond (nat_lt n m) (n ∷ m ∷ ms) (cond (n == m) (m ∷ ms) (m ∷ inserted n ms))

-- each number is above all before it
abbrev pub Ascends : List ℕ → Type 0
Ascends [] = Unit {0}
Ascends (n ∷ ns) = Each (λ m. n < m) ns × Ascends ns

-- A number that isn't in an ascending list has its place there.
pub record HasPlace (numbers : List ℕ) (n place : ℕ) : Type 0 where
  pub within : place ≤ length numbers
  pub put : inserted n numbers ≡ insert numbers place n
