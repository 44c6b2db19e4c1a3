-- Laws of types and of lists of faults.
use Rattle.std.proofs.Common.{◌≡◌, refl, sym, ap, ◌∙◌, ℕ, ◌==◌, Bool, true, false, cond, List, [], ◌∷◌, ◌++◌}
use Rattle.std.proofs.lemmas.Bool.Decides.{Decides-eqb}
use Rattle.int_ops.specs.declared.types.IntType.{IntType}
use Rattle.int_ops.specs.declared.types.IntType.TheVariants as type
use Rattle.int_ops.specs.Codes.{type_code}
use Rattle.int_ops.specs.Common.{promoted, common_type}
use Rattle.int_ops.proofs.TypeLaws.{promoted_once, promoted_common}
use Rattle.c_tree.specs.declared.expr.Base.{Base}
use Rattle.c_tree.specs.declared.expr.Base.TheVariants as base
use Rattle.c_tree.specs.Sound.{HasValue, IsPromoted}
use Rattle.c_typing.specs.declared.fault.TypeFault.{TypeFault}
use Rattle.c_typing.specs.TypedForms.{same_base, promoted_base, common_base, number_type}
use Rattle.c_typing.specs.ExprFaults.{wanted}

-- the type with a code
abbrev type_at : ℕ → IntType
type_at n =
    cond (n == 0) type.Bool (cond (n == 1) type.Char (cond (n == 2) type.SignedChar (cond (n == 3) type.UnsignedChar
    (cond (n == 4) type.Short (cond (n == 5) type.UnsignedShort (cond (n == 6) type.Int (cond (n == 7) type.UnsignedInt
    (cond (n == 8) type.Long type.UnsignedLong))))))))

decoded : (t : IntType) → type_at (type_code t) ≡ t
decoded type.Bool = refl
decoded type.Char = refl
decoded type.SignedChar = refl
decoded type.UnsignedChar = refl
decoded type.Short = refl
decoded type.UnsignedShort = refl
decoded type.Int = refl
decoded type.UnsignedInt = refl
decoded type.Long = refl
decoded type.UnsignedLong = refl

same_type : (t u : IntType) → (type_code t == type_code u) ≡ true → t ≡ u
same_type t u e = sym (decoded t) ∙ (ap type_at ((Decides-eqb (type_code t) (type_code u)).0 e) ∙ decoded u)

-- types that are told to be the same are so
pub same_base_is : (a b : Base) → same_base a b ≡ true → a ≡ b
same_base_is base.Void base.Void e = refl
same_base_is base.Void (base.Int u) e = (let h : ◌≡◌ {A = Bool} false true = e in cc)
same_base_is (base.Int t) base.Void e = (let h : ◌≡◌ {A = Bool} false true = e in cc)
same_base_is (base.Int t) (base.Int u) e = ap base.Int (same_type t u e)

same_self : (b : Base) → same_base b b ≡ true
same_self base.Void = refl
same_self (base.Int t) = (Decides-eqb (type_code t) (type_code t)).1 refl

-- and the others aren't
pub apart_bases : (a b : Base) → same_base a b ≡ false → b ≡ a → ⊥
apart_bases a b e same =
    let h : ◌≡◌ {A = Bool} true false = sym (same_self a) ∙ (ap (same_base a) (sym same) ∙ e) in cc

-- a promoted type, and a common one
pub is_promoted : (b : Base) → IsPromoted (promoted_base b)
is_promoted b = (promoted (number_type b), refl, promoted_once (number_type b))

pub is_common : (a b : Base) → IsPromoted (common_base a b)
is_common a b = (common_type (number_type a) (number_type b), refl, promoted_common (number_type a) (number_type b))

pub has_value : (b : Base) → IsPromoted b → HasValue b
has_value b p = (p.0, p.1)

-- a list that isn't empty
pub not_none : {A : Type 0} (x : A) (xs : List A) → x ∷ xs ≡ [] → ⊥
not_none x xs e = cc

-- two lists that make none
pub none_left : {A : Type 0} (xs ys : List A) → xs ++ ys ≡ [] → xs ≡ []
none_left [] ys e = refl
none_left (x ∷ xs) ys e = absurd (not_none x (xs ++ ys) e)

pub none_right : {A : Type 0} (xs ys : List A) → xs ++ ys ≡ [] → ys ≡ []
none_right [] ys e = e
none_right (x ∷ xs) ys e = absurd (not_none x (xs ++ ys) e)

-- where a value is wanted and no fault stands, there is one
pub wanted_none : (fs : List TypeFault) (b : Base) (place : ℕ) → wanted fs b place ≡ [] → (fs ≡ []) × HasValue b
wanted_none [] base.Void place e = absurd (not_none _ _ e)
wanted_none [] (base.Int t) place e = (refl, (t, refl))
wanted_none (f ∷ fs) b place e = absurd (not_none _ _ e)
