-- Numbers on the arcs of a net that balance at each block.
use Rattle.std.specs.Prelude.{◌≡◌, ℕ, Bool, ◌<◌, ◌==◌, cond, ℤ, pos, ◌+ℤ◌, List, [], ◌∷◌, length, get_or}
use Rattle.std.specs.List.{Contains}
use Rattle.cov_base.specs.Net.{NetValue}
use Rattle.cov_base.specs.declared.net.FlowArc.{FlowArc}

-- the sum of the numbers of the arcs that pass a test
abbrev pub sum_where : (FlowArc → Bool) → List FlowArc → List ℤ → ℤ
sum_where p [] xs = pos 0
sum_where p (arc ∷ arcs) [] = pos 0
sum_where p (arc ∷ arcs) (x ∷ xs) = cond (p arc) x (pos 0) +ℤ sum_where p arcs xs

-- the sum of the numbers of the arcs that enter a block
abbrev pub sum_in : ℕ → List FlowArc → List ℤ → ℤ
sum_in b arcs xs = sum_where (λ arc. arc.to == b) arcs xs

-- the sum of the numbers of the arcs that leave a block
abbrev pub sum_out : ℕ → List FlowArc → List ℤ → ℤ
sum_out b arcs xs = sum_where (λ arc. arc.from == b) arcs xs

-- a number at one block, and 0 at each other
abbrev pub at_block : ℕ → ℤ → ℕ → ℤ
at_block a x b = cond (b == a) x (pos 0)

-- At each block the sum in is the sum out, where an unwritten arc from the exit to the entry has a number too.
abbrev pub Balance : NetValue → List ℤ → ℤ → Type 0
Balance net xs back = (b : ℕ) → b < net.blocks
    → sum_in b net.arcs xs +ℤ at_block 0 back b ≡ sum_out b net.arcs xs +ℤ at_block 1 back b

-- a circulation: a whole number for each arc, and one for the unwritten arc, which balance
pub record IsCirculation (net : NetValue) (xs : List ℤ) : Type 0 where
  pub long : length xs ≡ length net.arcs
  pub back : ℤ
  pub balance : Balance net xs back

-- two circulations of the net that agree on these arcs are equal
abbrev pub Determine : List ℕ → NetValue → Type 0
Determine arcs net = (xs ys : List ℤ) → IsCirculation net xs → IsCirculation net ys
    → ((arc : ℕ) → Contains arcs arc → get_or xs arc (pos 0) ≡ get_or ys arc (pos 0)) → xs ≡ ys
