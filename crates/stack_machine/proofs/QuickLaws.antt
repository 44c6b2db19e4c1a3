-- Operators at int on numbers of int: no operand is converted.
use Rattle.std.proofs.Common.{SFits, to_z, of_z, ◌≡◌, refl, subst, ap, ap₂, ◌∙◌, ◌+◌, ◌-◌, ◌^◌, ◌<◌, ◌%◌, ℕ, ℤ, Option, Some, None, IfSome, Ok, pos, negsuc, neg_ℤ, ◌+ℤ◌, ◌-ℤ◌, arith}
use Rattle.std.specs.Int.{w32, int_rem_euclid}
use Rattle.std.proofs.lemmas.Int.{ints, to_z-of_z, int_rem_euclid_is}
use Rattle.std.proofs.Math.Nat.{mod-eq_of_lt}
use Rattle.int_ops.specs.declared.types.IntType.{IntType}
use Rattle.int_ops.specs.declared.types.IntType.TheVariants as type
use Rattle.int_ops.specs.declared.operators.BinOp.{BinOp}
use Rattle.int_ops.specs.Apply.{binary, applied}
use Rattle.int_ops.specs.Conversion.{convert}
use Rattle.stack_machine.specs.Ints.{IsInt}

-- a number of int, above the least
above : (n : ℤ) → IsInt n → (q : ℕ) × (q < 2 ^ 32) × (n -ℤ neg_ℤ (pos (2 ^ 31)) ≡ pos q)
above (pos k) h = (k + 2 ^ 31, omega (arith, ints, h), omega (arith, ints, h))
above (negsuc k) h = (2 ^ 31 - 1 - k, omega (arith, ints, h), omega (arith, ints, h))

-- a number of int stays in int
pub stays_int : (n : ℤ) → IsInt n → convert type.Int n ≡ n
stays_int n h =
    let q = above n h in
    let e : int_rem_euclid (n -ℤ neg_ℤ (pos (2 ^ 31))) (pos (2 ^ 32)) ≡ pos (q.0 % 2 ^ 32) =
    int_rem_euclid_is (n -ℤ neg_ℤ (pos (2 ^ 31))) (pos (2 ^ 32)) (2 ^ 32) 0 q.0 (omega arith) refl (let a = q.2 in omega (arith, ints, a)) in
    let m : q.0 % 2 ^ 32 ≡ q.0 = mod-eq_of_lt q.1 in
    ap (λ z. neg_ℤ (pos (2 ^ 31)) +ℤ z) (e ∙ ap pos m) ∙ (let a = q.2 in omega (arith, ints, a))

pub as_they_are : (o : BinOp) (a b : ℤ) → IsInt a → IsInt b → binary o type.Int a b ≡ applied o type.Int a b b
as_they_are o a b f g = ap₂ (λ x y. applied o type.Int x y b) (stays_int a f) (stays_int b g)

int_fits : (n : ℤ) → SFits w32 n → IsInt n
int_fits (pos k) f = let h : k < 2 ^ 31 = f.sfits in (omega (arith, ints, h), omega (arith, ints, h))
int_fits (negsuc k) f = let h : k < 2 ^ 31 = f.sfits in (omega (arith, ints, h), omega (arith, ints, h))

-- what is told of operands that are taken as they are
told : (r : Option ℤ) (o : BinOp) (a b : ℤ) → IsInt a → IsInt b → IfSome r (λ n. IsInt n × (applied o type.Int a b b ≡ Ok n))
    → IfSome r (λ n. IsInt n × (binary o type.Int a b ≡ Ok n))
told None o a b f g h = h
told (Some n) o a b f g h = (h.0, as_they_are o a b f g ∙ h.1)

-- a number that was read at the width of int
read : (a x l : ℤ) → x ≡ a → SFits w32 x → l ≡ x → to_z w32 (of_z w32 l) ≡ a
read a x l is f e = rw e (to_z-of_z w32 x f ∙ is)

pub told_so : (r : Option ℤ) (o : BinOp) (t : IntType) (a b x y l m : ℤ) → t ≡ type.Int → x ≡ a → y ≡ b
    → SFits w32 x × (l ≡ x) → SFits w32 y × (m ≡ y)
    → IfSome r (λ n. IsInt n × (applied o type.Int (to_z w32 (of_z w32 l)) (to_z w32 (of_z w32 m)) (to_z w32 (of_z w32 m)) ≡ Ok n))
    → IfSome r (λ n. IsInt n × (binary o t a b ≡ Ok n))
told_so r o t a b x y l m e i j f g h =
    let u : to_z w32 (of_z w32 l) ≡ a = read a x l i f.0 f.1 in
    let v : to_z w32 (of_z w32 m) ≡ b = read b y m j g.0 g.1 in
    let fits : IsInt a = int_fits a (subst (λ z. SFits w32 z) i f.0) in
    let fits' : IsInt b = int_fits b (subst (λ z. SFits w32 z) j g.0) in
    rw e (told r o a b fits fits'
    (subst (λ z. IfSome r (λ n. IsInt n × (applied o type.Int a z z ≡ Ok n))) v
    (subst (λ z. IfSome r (λ n. IsInt n × (applied o type.Int z (to_z w32 (of_z w32 m)) (to_z w32 (of_z w32 m)) ≡ Ok n))) u h)))
