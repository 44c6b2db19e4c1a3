-- Worked rows, computed by the definitions.
use Rattle.std.proofs.Common.{◌≡◌, refl, ℤ, pos, negsuc, Ok, Err}
use Rattle.int_ops.specs.declared.types.IntType.{IntType}
use Rattle.int_ops.specs.declared.types.IntType.TheVariants as type
use Rattle.int_ops.specs.declared.operators.BinOp.TheVariants as op
use Rattle.int_ops.specs.declared.operators.UnOp.TheVariants as sign
use Rattle.int_ops.specs.declared.operators.ArithTrap.TheVariants as trap
use Rattle.int_ops.specs.Conversion.{convert}
use Rattle.int_ops.specs.Common.{promoted, common_type}
use Rattle.int_ops.specs.Apply.{Answer, binary, unary}

-- -7 and 2
quotient_toward_zero : ◌≡◌ {A = Answer} (binary op.Div type.Int (negsuc 6) (pos 2)) (Ok (negsuc 2))
quotient_toward_zero = refl

remainder_with_the_left_sign : ◌≡◌ {A = Answer} (binary op.Rem type.Int (negsuc 6) (pos 2)) (Ok (negsuc 0))
remainder_with_the_left_sign = refl

-- the least int and -1
quotient_too_large : ◌≡◌ {A = Answer} (binary op.Div type.Int (negsuc 2147483647) (negsuc 0)) (Err trap.Overflow)
quotient_too_large = refl

remainder_of_it : ◌≡◌ {A = Answer} (binary op.Rem type.Int (negsuc 2147483647) (negsuc 0)) (Err trap.Overflow)
remainder_of_it = refl

shift_into_the_sign : ◌≡◌ {A = Answer} (binary op.Shl type.Int (pos 1) (pos 31)) (Err trap.Overflow)
shift_into_the_sign = refl

shift_without_sign : ◌≡◌ {A = Answer} (binary op.Shl type.UnsignedInt (pos 1) (pos 31)) (Ok (pos 2147483648))
shift_without_sign = refl

shift_by_the_width : ◌≡◌ {A = Answer} (binary op.Shl type.Int (negsuc 0) (pos 32)) (Err trap.ShiftRange)
shift_by_the_width = refl

shift_of_a_negative_number : ◌≡◌ {A = Answer} (binary op.Shl type.Int (negsuc 0) (pos 0)) (Err trap.Overflow)
shift_of_a_negative_number = refl

shift_down : ◌≡◌ {A = Answer} (binary op.Shr type.Int (negsuc 7) (pos 1)) (Ok (negsuc 3))
shift_down = refl

less_without_sign : ◌≡◌ {A = Answer} (binary op.Less type.UnsignedInt (negsuc 0) (pos 1)) (Ok (pos 0))
less_without_sign = refl

-- -4 and 6, -4 or 1, -4 without and with the bits of -1
bits_of_both : ◌≡◌ {A = Answer} (binary op.And type.Int (negsuc 3) (pos 6)) (Ok (pos 4))
bits_of_both = refl

bits_of_any : ◌≡◌ {A = Answer} (binary op.Or type.Int (negsuc 3) (pos 1)) (Ok (negsuc 2))
bits_of_any = refl

bits_of_one : ◌≡◌ {A = Answer} (binary op.Xor type.Int (negsuc 3) (negsuc 0)) (Ok (pos 3))
bits_of_one = refl

product_wraps : ◌≡◌ {A = Answer} (binary op.Mul type.UnsignedLong (pos 18446744073709551615) (pos 18446744073709551615)) (Ok (pos 1))
product_wraps = refl

complement_without_sign : ◌≡◌ {A = Answer} (unary sign.Complement type.UnsignedInt (pos 0)) (Ok (pos 4294967295))
complement_without_sign = refl

minus_the_least : ◌≡◌ {A = Answer} (unary sign.Minus type.Int (negsuc 2147483647)) (Err trap.Overflow)
minus_the_least = refl

char_of_200 : convert type.Char (pos 200) ≡ negsuc 55
char_of_200 = refl

bool_of_256 : convert type.Bool (pos 256) ≡ pos 1
bool_of_256 = refl

long_and_unsigned_int : common_type type.UnsignedInt type.Long ≡ type.Long
long_and_unsigned_int = refl

int_and_unsigned_int : common_type type.Int type.UnsignedInt ≡ type.UnsignedInt
int_and_unsigned_int = refl

short_without_sign : promoted type.UnsignedShort ≡ type.Int
short_without_sign = refl
