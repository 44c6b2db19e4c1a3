-- The type in which operands are taken: the integer promotions and the usual arithmetic conversions.
use Rattle.std.specs.Prelude.{Bool, true, false, not, cond, ◌&&◌, nat_lt, nat_le, int_le}
use Rattle.int_ops.specs.declared.types.IntType.{IntType}
use Rattle.int_ops.specs.declared.types.IntType.TheVariants as type
use Rattle.int_ops.specs.Ranges.{is_signed, rank, least, greatest}

-- the first type holds each number of the second
abbrev pub holds : IntType → IntType → Bool
holds a b = int_le (least a) (least b) && int_le (greatest b) (greatest a)

-- The integer promotions: a type that ranks below int becomes int, where int holds it, and otherwise unsigned int; the
-- others stay (C17 6.3.1.1 paragraph 2).
abbrev pub promoted : IntType → IntType
promoted t = cond (nat_lt (rank t) (rank type.Int)) (cond (holds type.Int t) type.Int type.UnsignedInt) t

-- the unsigned type that corresponds to a type (C17 6.2.5 paragraph 6)
abbrev pub unsigned_of : IntType → IntType
unsigned_of type.Char = type.UnsignedChar
unsigned_of type.SignedChar = type.UnsignedChar
unsigned_of type.Short = type.UnsignedShort
unsigned_of type.Int = type.UnsignedInt
unsigned_of type.Long = type.UnsignedLong
unsigned_of t = t

-- Of an unsigned and a signed type: the unsigned one where the signed one doesn't rank above it; the signed one where
-- it holds the other; otherwise the unsigned type that corresponds to the signed one.
abbrev pub mixed : IntType → IntType → IntType
mixed unsigned signed =
    cond (nat_le (rank signed) (rank unsigned)) unsigned (cond (holds signed unsigned) signed (unsigned_of signed))

-- of two types of one sign, the one that ranks higher
abbrev pub higher : IntType → IntType → IntType
higher a b = cond (nat_lt (rank a) (rank b)) b a

-- both are signed, or both unsigned
abbrev pub agrees : Bool → Bool → Bool
agrees true b = b
agrees false b = not b

-- the common type of two types that are promoted
abbrev pub joined : IntType → IntType → IntType
joined a b =
    cond (agrees (is_signed a) (is_signed b)) (higher a b) (cond (is_signed a) (mixed b a) (mixed a b))

-- the usual arithmetic conversions (C17 6.3.1.8 paragraph 1, from "Otherwise, the integer promotions" on)
abbrev pub common_type : IntType → IntType → IntType
common_type a b = joined (promoted a) (promoted b)
