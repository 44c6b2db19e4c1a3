-- Which variables are in scope.
use Rattle.std.proofs.Common.{arith, ◌≡◌, sym, ap, ◌∙◌, ℕ, suc, zero, ◌+◌, ◌<◌, ◌≤◌, List, [], ◌∷◌, ◌++◌, length, get_or, Option}
use Rattle.std.specs.Prelude.{Contains}
use Rattle.c_tree.specs.declared.typed_expr.CellAt.TheVariants as cell
use Rattle.c_tree.specs.Sound.{Variable, Each, IsLength, standing}
use Rattle.c_tree.specs.TypedParts.{cells_of}

absent_at : (vs : List Variable) (v : Variable) (k : ℕ) → Each (λ w. w ≡ v → ⊥) vs → k < length vs → get_or vs k v ≡ v → ⊥
absent_at [] v k others less at = omega arith
absent_at (w ∷ ws) v zero others less at = others.0 at
absent_at (w ∷ ws) v (suc k) others less at = absent_at ws v k others.1 (omega arith) at

-- a variable isn't in a list of others
pub absent : (vs : List Variable) (v : Variable) → Each (λ w. w ≡ v → ⊥) vs → Contains vs v → ⊥
absent vs v others h = absent_at vs v h.0 others h.1 h.2

-- a variable among those that stand from a cell on begins at that cell or behind it
pub from_at : (next : ℕ) (ns : List (Option ℕ)) (v : Variable) (k : ℕ) → k < length (standing cell.Global next ns) → get_or (standing cell.Global next ns) k v ≡ v
    → (m : ℕ) × (v.first ≡ cell.Global m) × (next ≤ m)
from_at next [] v k less at = absurd (omega arith)
from_at next (n ∷ ns) v zero less at = (next, sym (ap (λ w. w.first) at), omega arith)
from_at next (n ∷ ns) v (suc k) less at =
    let h = from_at (next + cells_of n) ns v k (omega arith) at in
    (h.0, h.1, omega arith)

local_at : (vs : List Variable) (ns : List (Option ℕ)) (c : ℕ) (n : Option ℕ) (k : ℕ)
    → k < length (vs ++ standing cell.Global 0 ns) → get_or (vs ++ standing cell.Global 0 ns) k (record { first = cell.Local c; length = n }) ≡ record { first = cell.Local c; length = n }
    → Contains vs (record { first = cell.Local c; length = n })
local_at [] ns c n k less at =
    let h = from_at 0 ns (record { first = cell.Local c; length = n }) k less at in
    let e : cell.Local c ≡ cell.Global h.0 = h.1 in absurd (cc)
local_at (v ∷ vs) ns c n zero less at = (0, omega arith, at)
local_at (v ∷ vs) ns c n (suc k) less at =
    let h = local_at vs ns c n k (omega arith) at in
    (suc h.0, omega arith, h.2)

-- a local variable in scope is one of the local ones
pub is_local : (vs : List Variable) (ns : List (Option ℕ)) (c : ℕ) (n : Option ℕ) → Contains (vs ++ standing cell.Global 0 ns) (record { first = cell.Local c; length = n })
    → Contains vs (record { first = cell.Local c; length = n })
is_local vs ns c n h = local_at vs ns c n h.0 h.1 h.2

not_behind : (next m : ℕ) (n : Option ℕ) → 1 ≤ cells_of n → next + cells_of n ≤ m → cell.Global next ≡ cell.Global m → ⊥
not_behind next m n some behind e =
    let same : next ≡ m = cc in omega arith

alike_at : (next : ℕ) (ns : List (Option ℕ)) (v w : Variable) (j k : ℕ) → Each (λ n. IsLength (cells_of n)) ns
    → j < length (standing cell.Global next ns) → get_or (standing cell.Global next ns) j v ≡ v
    → k < length (standing cell.Global next ns) → get_or (standing cell.Global next ns) k w ≡ w
    → v.first ≡ w.first → v ≡ w
alike_at next [] v w j k long j_less at_j k_less at_k same = absurd (omega arith)
alike_at next (n ∷ ns) v w zero zero long j_less at_j k_less at_k same = sym at_j ∙ at_k
alike_at next (n ∷ ns) v w zero (suc k) long j_less at_j k_less at_k same =
    let h = from_at (next + cells_of n) ns w k (omega arith) at_k in
    absurd (not_behind next h.0 n long.0.some h.2 (ap (λ x. x.first) at_j ∙ (same ∙ h.1)))
alike_at next (n ∷ ns) v w (suc j) zero long j_less at_j k_less at_k same =
    let h = from_at (next + cells_of n) ns v j (omega arith) at_j in
    absurd (not_behind next h.0 n long.0.some h.2 (ap (λ x. x.first) at_k ∙ (sym same ∙ h.1)))
alike_at next (n ∷ ns) v w (suc j) (suc k) long j_less at_j k_less at_k same =
    alike_at (next + cells_of n) ns v w j k long.1 (omega arith) at_j (omega arith) at_k same

-- two globals that begin at one cell are the same
pub one_global : (ns : List (Option ℕ)) (v w : Variable) → Each (λ n. IsLength (cells_of n)) ns
    → Contains (standing cell.Global 0 ns) v → Contains (standing cell.Global 0 ns) w → v.first ≡ w.first → v ≡ w
one_global ns v w long hv hw same = alike_at 0 ns v w hv.0 hw.0 long hv.1 hv.2 hw.1 hw.2 same
