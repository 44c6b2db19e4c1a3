-- Laws of conversions, promotions and common types, for the crates above.
use Rattle.std.proofs.Common.{arith, ◌≡◌, refl, sym, ap, ◌∙◌, subst, ℤ, pos, negsuc, true, false}
use Rattle.std.proofs.lemmas.Int.{ints}
use Rattle.int_ops.specs.declared.types.IntType.{IntType}
use Rattle.int_ops.specs.declared.types.IntType.TheVariants as type
use Rattle.int_ops.specs.Ranges.{Range}
use Rattle.int_ops.specs.Conversion.{convert, conv_bool}
use Rattle.int_ops.specs.Common.{promoted, joined, common_type}
use Rattle.int_ops.proofs.Conversions.{meets}

bool_range : (n : ℤ) → Range type.Bool (conv_bool n)
bool_range (pos n) = (omega (arith, ints), omega (arith, ints))
bool_range (negsuc n) = (omega (arith, ints), omega (arith, ints))

-- a converted number is one of the type
pub conv_range : (t : IntType) (n : ℤ) → Range t (convert t n)
conv_range type.Bool n = bool_range n
conv_range type.Char n = (meets 8 true n (omega arith)).range
conv_range type.SignedChar n = (meets 8 true n (omega arith)).range
conv_range type.UnsignedChar n = (meets 8 false n (omega arith)).range
conv_range type.Short n = (meets 16 true n (omega arith)).range
conv_range type.UnsignedShort n = (meets 16 false n (omega arith)).range
conv_range type.Int n = (meets 32 true n (omega arith)).range
conv_range type.UnsignedInt n = (meets 32 false n (omega arith)).range
conv_range type.Long n = (meets 64 true n (omega arith)).range
conv_range type.UnsignedLong n = (meets 64 false n (omega arith)).range

-- the types that a promotion gives
data Wide : Type 0 where
  int : Wide
  unsigned_int : Wide
  long : Wide
  unsigned_long : Wide

abbrev the_type : Wide → IntType
the_type int = type.Int
the_type unsigned_int = type.UnsignedInt
the_type long = type.Long
the_type unsigned_long = type.UnsignedLong

wide : (t : IntType) → (w : Wide) × (promoted t ≡ the_type w)
wide type.Bool = (int, refl)
wide type.Char = (int, refl)
wide type.SignedChar = (int, refl)
wide type.UnsignedChar = (int, refl)
wide type.Short = (int, refl)
wide type.UnsignedShort = (int, refl)
wide type.Int = (int, refl)
wide type.UnsignedInt = (unsigned_int, refl)
wide type.Long = (long, refl)
wide type.UnsignedLong = (unsigned_long, refl)

stays : (w : Wide) → promoted (the_type w) ≡ the_type w
stays int = refl
stays unsigned_int = refl
stays long = refl
stays unsigned_long = refl

-- a and b have a promoted type in common, and a has the same in common with it
abbrev Settles : IntType → IntType → Type 0
Settles a b = (promoted (joined a b) ≡ joined a b) × (joined a (promoted (joined a b)) ≡ joined a b)

both : (v w : Wide) → Settles (the_type v) (the_type w)
both int int = (refl, refl)
both int unsigned_int = (refl, refl)
both int long = (refl, refl)
both int unsigned_long = (refl, refl)
both unsigned_int int = (refl, refl)
both unsigned_int unsigned_int = (refl, refl)
both unsigned_int long = (refl, refl)
both unsigned_int unsigned_long = (refl, refl)
both long int = (refl, refl)
both long unsigned_int = (refl, refl)
both long long = (refl, refl)
both long unsigned_long = (refl, refl)
both unsigned_long int = (refl, refl)
both unsigned_long unsigned_int = (refl, refl)
both unsigned_long long = (refl, refl)
both unsigned_long unsigned_long = (refl, refl)

settles : (t u : IntType) → Settles (promoted t) (promoted u)
settles t u =
    subst (λ x. Settles x (promoted u)) (sym (wide t).1)
    (subst (λ y. Settles (the_type (wide t).0) y) (sym (wide u).1) (both (wide t).0 (wide u).0))

-- a promoted type is promoted
pub promoted_once : (t : IntType) → promoted (promoted t) ≡ promoted t
promoted_once t = ap promoted (wide t).1 ∙ (stays (wide t).0 ∙ sym (wide t).1)

-- and so is a common one
pub promoted_common : (t u : IntType) → promoted (common_type t u) ≡ common_type t u
promoted_common t u = (settles t u).0

-- a type and its common type with another have that in common
pub common_once : (t u : IntType) → common_type t (common_type t u) ≡ common_type t u
common_once t u = (settles t u).1
