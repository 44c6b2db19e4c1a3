-- The rules of quotients, shifts and comparisons, case by case.
use Rattle.std.proofs.Common.{◌≡◌, refl, ◌^◌, Bool, true, false, ℤ, pos, negsuc, int_div, int_rem, unsigned_abs, Err}
use Rattle.std.specs.Int.{int_div_euclid}
use Rattle.std.specs.Ordering.{int_eq}
use Rattle.std.specs.Bool.{Decides}
use Rattle.std.proofs.lemmas.Bool.Decides.{Decides-int_eq}
use Rattle.int_ops.specs.declared.types.IntType.{IntType}
use Rattle.int_ops.specs.declared.operators.ArithTrap.TheVariants as trap
use Rattle.int_ops.specs.Ranges.{is_in_range}
use Rattle.int_ops.specs.Apply.{settled, quotient, remainder, shifted_right, is_past, power}

pub differ : (a b : ℤ) → (a ≡ b → ⊥) → int_eq a b ≡ false
differ a b apart = no (int_eq a b) (Decides-int_eq a b)
  where
    no : (r : Bool) → Decides r (a ≡ b) → r ≡ false
    no true d = absurd (apart (d.0 refl))
    no false d = refl

pub same : (a b : ℤ) → a ≡ b → int_eq a b ≡ true
same a b e = (Decides-int_eq a b).1 e

pub divided : (t : IntType) (a b : ℤ) → (b ≡ pos 0 → ⊥) → quotient t a b ≡ settled t (int_div a b)
divided t a b some = rw (differ b (pos 0) some) refl

pub left_over : (t : IntType) (a b : ℤ) → (b ≡ pos 0 → ⊥) → is_in_range t (int_div a b) ≡ true → remainder t a b ≡ settled t (int_rem a b)
left_over t a b some fits = rw (differ b (pos 0) some, fits) refl

pub too_large : (t : IntType) (a b : ℤ) → (b ≡ pos 0 → ⊥) → is_in_range t (int_div a b) ≡ false → remainder t a b ≡ Err trap.Overflow
too_large t a b some out = rw (differ b (pos 0) some, out) refl

pub shifted : (t : IntType) (a n : ℤ) → is_past t n ≡ false → shifted_right t a n ≡ settled t (int_div_euclid a (power n))
shifted t a n within = rw within refl

-- a count that is not past the width is no less than 0
pub count_power : (t : IntType) (n : ℤ) → is_past t n ≡ false → pos (2 ^ unsigned_abs n) ≡ power n
count_power t (pos k) within = refl
count_power t (negsuc k) past = (let h : ◌≡◌ {A = Bool} true false = past in cc)
