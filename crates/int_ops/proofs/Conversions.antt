-- Laws of conversion: `conv_at` meets what a conversion is, and nothing else does.
use Rattle.std.proofs.Common.{arith, subst, ap₂, to_z, of_z, SFits, inl, inr, ◌≡◌, refl, sym, ap, ◌∙◌, ℕ, zero, suc, ◌+◌, ◌-◌, ◌*◌, ◌/◌, ◌%◌, ◌^◌, ◌<◌, Bool, true, false, ℤ, pos, negsuc, ◌+ℤ◌, ◌-ℤ◌, ◌*ℤ◌, ◌≤ℤ◌, ◌<ℤ◌}
use Rattle.std.proofs.lemmas.Int.{ints, to_z-of_z, int_rem_euclid_is}
use Rattle.std.proofs.lemmas.Nat.{pow_pos, pow-add, div-add-mod', mod_below, mod-mul-add}
use Rattle.std.proofs.Math.Nat.{mod-eq_of_lt}
use Rattle.std.specs.Int.{w128, int_rem_euclid}
use Rattle.int_ops.specs.Widths.{IsWidth}
use Rattle.int_ops.specs.Ranges.{least_at, greatest_at, RangeAt}
use Rattle.int_ops.specs.Conversion.{ConvAt, conv_at}

-- a number that is no less than another lies so much above it
above : (a b : ℤ) → a ≤ℤ b → (q : ℕ) × (b ≡ a +ℤ pos q)
above (pos a) (pos b) h = (b - a, omega (arith, ints))
above (pos a) (negsuc b) h = (0, omega (arith, ints))
above (negsuc a) (pos b) h = (suc a + b, omega (arith, ints))
above (negsuc a) (negsuc b) h = (a - b, omega (arith, ints))

mod_less : (q s : ℕ) → q < s → q % s ≡ q
mod_less q s less = mod-eq_of_lt less

-- q is what is left of q and a multiple of the divisor that is above it
left_of : (z times : ℤ) (s q : ℕ) → q < s → z ≡ pos q +ℤ (times *ℤ pos s) → int_rem_euclid z (pos s) ≡ pos q
left_of z (pos k) s q less e = int_rem_euclid_is z (pos s) s 0 (k * s + q) (omega arith) refl (omega (arith, ints)) ∙ ap pos (mod-mul-add k s q less)
left_of z (negsuc k) s q less e = int_rem_euclid_is z (pos s) s (suc k) q (omega arith) refl (omega (arith, ints)) ∙ ap pos (mod_less q s less)

-- a number is a multiple of the divisor and what is left
split : (z : ℤ) (s : ℕ) → 0 < s → (times : ℤ) × (q : ℕ) × (q < s) × (int_rem_euclid z (pos s) ≡ pos q) × (z ≡ pos q +ℤ (times *ℤ pos s))
split (pos a) s some = (pos (a / s), a % s, mod_below a s some, refl, omega (arith, ints, div-add-mod' a s))
split (negsuc a) s some =
    (negsuc (a / s), s - 1 - a % s, omega arith, refl, (let below : a % s < s = mod_below a s some in omega (arith, ints, div-add-mod' a s)))

-- half of the range lies below 0
halves : (bits : ℕ) → 0 < bits → 2 ^ bits ≡ 2 ^ (bits - 1) + 2 ^ (bits - 1)
halves bits some = ap (λ k. 2 ^ k) (omega arith) ∙ (pow-add 2 (bits - 1) 1 ∙ omega arith)

-- the range of so many bits has 2 to their number
span : (bits : ℕ) (signed : Bool) (r : ℤ) (q : ℕ) → 0 < bits → r ≤ℤ greatest_at bits signed → r ≡ least_at bits signed +ℤ pos q → q < 2 ^ bits
span bits true r q some high e = omega (arith, ints, halves bits some, pow_pos (bits - 1))
span bits false r q some high e = omega (arith, ints, pow_pos bits)

pub only : (bits : ℕ) (signed : Bool) (n r : ℤ) → 0 < bits → ConvAt bits signed n r → r ≡ conv_at bits signed n
only bits signed n r some c =
    let q : (q : ℕ) × (r ≡ least_at bits signed +ℤ pos q) = above (least_at bits signed) r c.range.0 in
    q.1 ∙ ap (λ x. least_at bits signed +ℤ x) (sym (left_of _ c.times (2 ^ bits) q.0 (span bits signed r q.0 some c.range.1 q.1)
    (let e : r ≡ least_at bits signed +ℤ pos q.0 = q.1 in let d : n ≡ r +ℤ (c.times *ℤ pos (2 ^ bits)) = c.differs in omega (arith, ints))))

reaches : (bits : ℕ) (signed : Bool) (q : ℕ) → 0 < bits → q < 2 ^ bits → RangeAt bits signed (least_at bits signed +ℤ pos q)
reaches bits true q some less = (omega (arith, ints), omega (arith, ints, halves bits some, pow_pos (bits - 1)))
reaches bits false q some less = (omega (arith, ints), omega (arith, ints))

pub meets : (bits : ℕ) (signed : Bool) (n : ℤ) → 0 < bits → ConvAt bits signed n (conv_at bits signed n)
meets bits signed n some =
    let parts = split (n -ℤ least_at bits signed) (2 ^ bits) (pow_pos bits) in
    record {
      range = subst (λ x. RangeAt bits signed (least_at bits signed +ℤ x)) (sym parts.3) (reaches bits signed parts.1 some parts.2);
      times = parts.0;
      differs = (let e : n -ℤ least_at bits signed ≡ pos parts.1 +ℤ (parts.0 *ℤ pos (2 ^ bits)) = parts.4 in let f : int_rem_euclid (n -ℤ least_at bits signed) (pos (2 ^ bits)) ≡ pos parts.1 = parts.3 in rw f (omega (arith, ints)));
    }

pub some_bits : (bits : ℕ) → IsWidth bits → 0 < bits
some_bits bits (inl e) = omega arith
some_bits bits (inr (inl e)) = omega arith
some_bits bits (inr (inr (inl e))) = omega arith
some_bits bits (inr (inr (inr e))) = omega arith

-- the remainder, at the width of the code's numbers
pub remains : (bits : ℕ) (n span rest : ℤ) → SFits w128 n → SFits w128 span → SFits w128 rest → span ≡ pos (2 ^ bits)
    → rest ≡ int_rem_euclid (to_z w128 (of_z w128 n)) (to_z w128 (of_z w128 span)) → to_z w128 (of_z w128 rest) ≡ int_rem_euclid n (pos (2 ^ bits))
remains bits n span rest f g h is e =
    to_z-of_z w128 rest h ∙ (e ∙ ap₂ int_rem_euclid (to_z-of_z w128 n f) (to_z-of_z w128 span g ∙ is))

-- q is what is left of n, and x is q or the divisor less
data Taken (n x : ℤ) (s q : ℕ) : Type 0 where
  whole : x ≡ pos q → Taken n x s q
  less : x ≡ pos q -ℤ pos s → Taken n x s q

taken : (bits : ℕ) (signed : Bool) (n x times : ℤ) (q : ℕ) → RangeAt bits signed x → n ≡ pos q +ℤ (times *ℤ pos (2 ^ bits)) → Taken n x (2 ^ bits) q → ConvAt bits signed n x
taken bits signed n x times q range e (whole is) = record { range = range; times = times; differs = omega (arith, ints) }
taken bits signed n x (pos k) q range e (less is) = record { range = range; times = pos (suc k); differs = omega (arith, ints) }
taken bits signed n x (negsuc zero) q range e (less is) = record { range = range; times = pos 0; differs = omega (arith, ints) }
taken bits signed n x (negsuc (suc k)) q range e (less is) = record { range = range; times = negsuc k; differs = omega (arith, ints) }

pub without_sign : (bits : ℕ) (n x : ℤ) → 0 < bits → x ≡ int_rem_euclid n (pos (2 ^ bits)) → ConvAt bits false n x
without_sign bits n x some e =
    let parts = split n (2 ^ bits) (pow_pos bits) in
    let is : x ≡ pos parts.1 = e ∙ parts.3 in
    let below : parts.1 < 2 ^ bits = parts.2 in
    taken bits false n x parts.0 parts.1 (omega (arith, ints), omega (arith, ints)) parts.4 (whole is)

pub below_half : (bits : ℕ) (n x : ℤ) → 0 < bits → x ≡ int_rem_euclid n (pos (2 ^ bits)) → x <ℤ (pos (2 ^ bits) -ℤ x) → ConvAt bits true n x
below_half bits n x some e small =
    let parts = split n (2 ^ bits) (pow_pos bits) in
    let is : x ≡ pos parts.1 = e ∙ parts.3 in
    let below : parts.1 < 2 ^ bits = parts.2 in
    taken bits true n x parts.0 parts.1 (omega (arith, ints), omega (arith, ints, halves bits some)) parts.4 (whole is)

pub above_half : (bits : ℕ) (n rest x : ℤ) → 0 < bits → rest ≡ int_rem_euclid n (pos (2 ^ bits)) → (pos (2 ^ bits) -ℤ rest) ≤ℤ rest → x ≡ rest -ℤ pos (2 ^ bits) → ConvAt bits true n x
above_half bits n rest x some e large is =
    let parts = split n (2 ^ bits) (pow_pos bits) in
    let left : rest ≡ pos parts.1 = e ∙ parts.3 in
    let below : parts.1 < 2 ^ bits = parts.2 in
    taken bits true n x parts.0 parts.1 (omega (arith, ints, halves bits some, pow_pos (bits - 1)), omega (arith, ints)) parts.4 (less (omega (arith, ints)))
