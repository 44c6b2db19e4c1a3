-- The cases of a switch of a sound source are numbers.
use Rattle.std.proofs.Common.{◌≡◌, refl, ℕ, suc, ◌+◌, Bool, true, false, List, [], ◌∷◌, map, arith, Option, Some, None}
use Rattle.std.specs.Prelude.{ℤ, int_le, T}
use Rattle.std.proofs.lemmas.Bool.{and_from}
use Rattle.std.proofs.lemmas.Int.{ints}
use Rattle.int_ops.specs.declared.types.IntType.{IntType}
use Rattle.int_ops.specs.declared.types.IntType.TheVariants as type
use Rattle.int_ops.specs.Ranges.{least, greatest, Range, IsNumber}
use Rattle.c_tree.specs.declared.expr.Base.{Base}
use Rattle.c_tree.specs.TypedStmt.{TypedItem, TypedItems}
use Rattle.c_tree.specs.Sound.{Scope, Inside, Each, SoundItems, behind_item}
use Rattle.code_runs.specs.CodeChecks.{is_number}
use Rattle.c_lower.specs.Items.{Name, stmt_nodes, group_at, cases_of}

-- a number of a type lies from -2^63 to 2^64 - 1
is_number_of : (t : IntType) (n : ℤ) → Range t n → IsNumber n
is_number_of type.Bool n h = (omega (arith, ints, h), omega (arith, ints, h))
is_number_of type.Char n h = (omega (arith, ints, h), omega (arith, ints, h))
is_number_of type.SignedChar n h = (omega (arith, ints, h), omega (arith, ints, h))
is_number_of type.UnsignedChar n h = (omega (arith, ints, h), omega (arith, ints, h))
is_number_of type.Short n h = (omega (arith, ints, h), omega (arith, ints, h))
is_number_of type.UnsignedShort n h = (omega (arith, ints, h), omega (arith, ints, h))
is_number_of type.Int n h = (omega (arith, ints, h), omega (arith, ints, h))
is_number_of type.UnsignedInt n h = (omega (arith, ints, h), omega (arith, ints, h))
is_number_of type.Long n h = (omega (arith, ints, h), omega (arith, ints, h))
is_number_of type.UnsignedLong n h = (omega (arith, ints, h), omega (arith, ints, h))

held : (b : Bool) → T b → b ≡ true
held true h = refl
held false h = absurd h

-- the test of it
pub told_number : (n : ℤ) → IsNumber n → is_number n ≡ true
told_number n h =
    and_from (int_le (least type.Long) n) (int_le n (greatest type.UnsignedLong)) (held _ h.0.le) (held _ h.1.le)

pub of_type : (t : IntType) (n : ℤ) → Range t n → is_number n ≡ true
of_type t n h = told_number n (is_number_of t n h)

-- other names or numbers of blocks leave those of the cases
pub still_numbers : {A B : Type 0} (f : A → B) (cases : List (ℤ × A)) → Each (λ (c : ℤ × A). is_number c.0 ≡ true) cases
    → Each (λ (c : ℤ × B). is_number c.0 ≡ true) (map (λ (c : ℤ × A). (c.0, f c.1)) cases)
still_numbers f [] h = tt
still_numbers f (c ∷ cases) h = (h.0, still_numbers f cases h.1)

pub cases_numbers : (s : Scope) (i : Inside) (t : Base) (is : TypedItems) (m : ℕ) (g : Option Name)
    → SoundItems s i t is → Each (λ (c : ℤ × Name). is_number c.0 ≡ true) (cases_of is m g)
cases_numbers s i t TypedItems.Last m g sound = tt
cases_numbers s i t (TypedItems.Further (TypedItem.Case n place) is) m g sound =
    (of_type sound.0.0 n sound.0.2, cases_numbers s i t is (suc m) (Some (group_at g m)) sound.1)
cases_numbers s i t (TypedItems.Further (TypedItem.Default place) is) m g sound =
    cases_numbers s i t is (suc m) (Some (group_at g m)) sound.1
cases_numbers s i t (TypedItems.Further (TypedItem.Item a) is) m g sound =
    cases_numbers (behind_item s (TypedItem.Item a)) i t is (m + stmt_nodes a) None sound.1
