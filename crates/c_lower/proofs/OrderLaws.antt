-- Blocks are numbered in the order in which they begin.
use Rattle.std.proofs.Common.{arith, ◌≡◌, refl, ◌∙◌, ℕ, suc, ◌+◌, ◌==◌, true, false, List, [], ◌∷◌, ◌++◌, length, Some}
use Rattle.std.proofs.lemmas.Bool.Decides.{Decides-eqb}
use Rattle.c_lower.specs.Items.{Name}
use Rattle.c_lower.specs.Lowered.{Named, is_name, number_from}

same_number : (n : ℕ) → (n == n) ≡ true
same_number n = (Decides-eqb n n).1 refl

-- a name is its own
pub its_own : (l : Name) → is_name l (Some l) ≡ true
its_own l = rw (same_number l.node, same_number l.part) refl

-- none of the blocks has the name
abbrev pub NoneNamed : Name → List Named → Type 0
NoneNamed l [] = Unit {0}
NoneNamed l (b ∷ bs) = (is_name l b.name ≡ false) × NoneNamed l bs

-- the block of a name that no block before it has is numbered by how many stand before it
pub in_order : (n : ℕ) (front : List Named) (b : Named) (rest : List Named) (l : Name) → b.name ≡ Some l → NoneNamed l
    front
    → number_from n (front ++ b ∷ rest) l ≡ n + length front
in_order n [] b rest l named none = rw named (rw (its_own l) (omega arith))
in_order n (f ∷ front) b rest l named none = rw none.0 (in_order (suc n) front b rest l named none.1 ∙ omega arith)
