-- The operators bit by bit, on the code's numbers of 128 bits.
use Rattle.std.proofs.Common.{arith, ◌≡◌, sym, ap, ap₂, ◌∙◌, ℕ, suc, ◌+◌, ◌-◌, ◌%◌, ◌^◌, ◌<◌, ◌≤◌, min, max, ℤ, pos, negsuc, bit_and, bit_or, bit_xor, to_z, of_z, SFits}
use Rattle.std.specs.Int.{w128, bit_at, bit_not}
use Rattle.std.proofs.lemmas.Int.{to_z_pos, to_z-of_z}
use Rattle.std.proofs.lemmas.Nat.{and_le_l, and_comm, or_comm, xor_comm, or_lt, xor_lt, and-not}
use Rattle.std.proofs.lemmas.Nat.Bits.{bit_at_and, bit_at_or, bit_at_xor, bit_at_not, bit_at-lt, same_from_bits_below}
use Rattle.int_ops.specs.Apply.{both, one_alone, any, and_not}

-- the bits that n lacks, of 128
abbrev over : ℕ → ℕ
over n = 2 ^ 128 - suc n

over_is : (n : ℕ) → over n ≡ bit_not w128 n
over_is n = omega arith

over_below : (n : ℕ) → over n < 2 ^ 128
over_below n = omega arith

bit_over : (n i : ℕ) → n < 2 ^ 127 → i < 128 → bit_at (over n) i ≡ 1 - bit_at n i
bit_over n i less within = ap (λ x. bit_at x i) (over_is n) ∙ bit_at_not w128 n i (omega arith) within

-- a number below 0 is that of the code's bits turned over
to_z_over : (n : ℕ) → n < 2 ^ 127 → to_z w128 (over n) ≡ negsuc n
to_z_over n less = to_z-of_z w128 (negsuc n) (record { sfits = less })

and_over : (a b : ℕ) → a < 2 ^ 127 → b < 2 ^ 127 → bit_and a (over b) ≡ and_not a b
and_over a b f g =
    and_comm a (over b) ∙ (let e : bit_and (over b) a + bit_and b a ≡ a = ap (λ x. bit_and x a + bit_and b a) (over_is b) ∙ and-not 128 b a (omega arith) (omega arith) in let s : bit_and b a ≡ bit_and a b = and_comm b a in omega arith)

least_and : (x y : ℕ) → x < 2 → y < 2 → min (1 - x) (1 - y) ≡ 1 - max x y
least_and x y f g = omega arith

most_or : (x y : ℕ) → x < 2 → y < 2 → max (1 - x) (1 - y) ≡ 1 - min x y
most_or x y f g = omega arith

or_least : (x y : ℕ) → x < 2 → y < 2 → max x (1 - y) ≡ 1 - min (1 - x) y
or_least x y f g = omega arith

xor_one : (x y : ℕ) → x < 2 → y < 2 → (x + (1 - y)) % 2 ≡ 1 - (x + y) % 2
xor_one x y f g = omega arith

xor_two : (x y : ℕ) → x < 2 → y < 2 → ((1 - x) + (1 - y)) % 2 ≡ (x + y) % 2
xor_two x y f g = omega arith

and_both_over : (a b : ℕ) → a < 2 ^ 127 → b < 2 ^ 127 → bit_and (over a) (over b) ≡ over (bit_or a b)
and_both_over a b f g =
    same_from_bits_below 128 _ _ (let l : bit_and (over a) (over b) ≤ over a = and_le_l (over a) (over b) in let m : over a < 2 ^ 128 = over_below a in omega arith) (over_below _)
    (λ i within. bit_at_and (over a) (over b) i ∙ (ap₂ min (bit_over a i f within) (bit_over b i g within)
    ∙ (least_and (bit_at a i) (bit_at b i) (bit_at-lt a i) (bit_at-lt b i) ∙ (ap (λ x. 1 - x) (sym (bit_at_or a b i)) ∙ sym (bit_over (bit_or a b) i (or_lt 127 a b f g) within)))))

or_both_over : (a b : ℕ) → a < 2 ^ 127 → b < 2 ^ 127 → bit_or (over a) (over b) ≡ over (bit_and a b)
or_both_over a b f g =
    same_from_bits_below 128 _ _ (or_lt 128 (over a) (over b) (over_below a) (over_below b)) (over_below _)
    (λ i within. bit_at_or (over a) (over b) i ∙ (ap₂ max (bit_over a i f within) (bit_over b i g within)
    ∙ (most_or (bit_at a i) (bit_at b i) (bit_at-lt a i) (bit_at-lt b i) ∙ (ap (λ x. 1 - x) (sym (bit_at_and a b i)) ∙ sym (bit_over (bit_and a b) i (let l : bit_and a b ≤ a = and_le_l a b in omega arith) within)))))

bit_lacks : (a b i : ℕ) → a < 2 ^ 127 → b < 2 ^ 127 → i < 128 → bit_at (and_not b a) i ≡ min (1 - bit_at a i) (bit_at b i)
bit_lacks a b i f g within = ap (λ n. bit_at n i) (sym (and_over b a g f) ∙ and_comm b (over a)) ∙ (bit_at_and (over a) b i ∙ ap (λ x. min x (bit_at b i)) (bit_over a i f within))

or_over : (a b : ℕ) → a < 2 ^ 127 → b < 2 ^ 127 → bit_or a (over b) ≡ over (and_not b a)
or_over a b f g =
    same_from_bits_below 128 _ _ (or_lt 128 a (over b) (omega arith) (over_below b)) (over_below _)
    (λ i within. bit_at_or a (over b) i ∙ (ap (λ x. max (bit_at a i) x) (bit_over b i g within)
    ∙ (or_least (bit_at a i) (bit_at b i) (bit_at-lt a i) (bit_at-lt b i) ∙ (ap (λ x. 1 - x) (sym (bit_lacks a b i f g within)) ∙ sym (bit_over (and_not b a) i (omega arith) within)))))

xor_over : (a b : ℕ) → a < 2 ^ 127 → b < 2 ^ 127 → bit_xor a (over b) ≡ over (bit_xor a b)
xor_over a b f g =
    same_from_bits_below 128 _ _ (xor_lt 128 a (over b) (omega arith) (over_below b)) (over_below _)
    (λ i within. bit_at_xor a (over b) i ∙ (ap (λ x. (bit_at a i + x) % 2) (bit_over b i g within)
    ∙ (xor_one (bit_at a i) (bit_at b i) (bit_at-lt a i) (bit_at-lt b i) ∙ (ap (λ x. 1 - x) (sym (bit_at_xor a b i)) ∙ sym (bit_over (bit_xor a b) i (xor_lt 127 a b f g) within)))))

xor_both_over : (a b : ℕ) → a < 2 ^ 127 → b < 2 ^ 127 → bit_xor (over a) (over b) ≡ bit_xor a b
xor_both_over a b f g =
    same_from_bits_below 128 _ _ (xor_lt 128 (over a) (over b) (over_below a) (over_below b)) (let l : bit_xor a b < 2 ^ 127 = xor_lt 127 a b f g in omega arith)
    (λ i within. bit_at_xor (over a) (over b) i ∙ (ap₂ (λ x y. (x + y) % 2) (bit_over a i f within) (bit_over b i g within)
    ∙ (xor_two (bit_at a i) (bit_at b i) (bit_at-lt a i) (bit_at-lt b i) ∙ sym (bit_at_xor a b i))))

pub both_is : (a b : ℤ) → SFits w128 a → SFits w128 b → to_z w128 (bit_and (of_z w128 a) (of_z w128 b)) ≡ both a b
both_is (pos a) (pos b) f g = to_z_pos w128 (bit_and a b) (let l : bit_and a b ≤ a = and_le_l a b in omega (arith, f.sfits))
both_is (pos a) (negsuc b) f g = ap (to_z w128) (and_over a b f.sfits g.sfits) ∙ to_z_pos w128 _ (omega (arith, f.sfits))
both_is (negsuc a) (pos b) f g = ap (to_z w128) (and_comm (over a) b ∙ and_over b a g.sfits f.sfits) ∙ to_z_pos w128 _ (omega (arith, g.sfits))
both_is (negsuc a) (negsuc b) f g = ap (to_z w128) (and_both_over a b f.sfits g.sfits) ∙ to_z_over _ (or_lt 127 a b f.sfits g.sfits)

pub one_is : (a b : ℤ) → SFits w128 a → SFits w128 b → to_z w128 (bit_xor (of_z w128 a) (of_z w128 b)) ≡ one_alone a b
one_is (pos a) (pos b) f g = to_z_pos w128 _ (xor_lt 127 a b f.sfits g.sfits)
one_is (pos a) (negsuc b) f g = ap (to_z w128) (xor_over a b f.sfits g.sfits) ∙ to_z_over _ (xor_lt 127 a b f.sfits g.sfits)
one_is (negsuc a) (pos b) f g = ap (to_z w128) (xor_comm (over a) b ∙ (xor_over b a g.sfits f.sfits ∙ ap over (xor_comm b a))) ∙ to_z_over _ (xor_lt 127 a b f.sfits g.sfits)
one_is (negsuc a) (negsuc b) f g = ap (to_z w128) (xor_both_over a b f.sfits g.sfits) ∙ to_z_pos w128 _ (xor_lt 127 a b f.sfits g.sfits)

pub any_is : (a b : ℤ) → SFits w128 a → SFits w128 b → to_z w128 (bit_or (of_z w128 a) (of_z w128 b)) ≡ any a b
any_is (pos a) (pos b) f g = to_z_pos w128 _ (or_lt 127 a b f.sfits g.sfits)
any_is (pos a) (negsuc b) f g = ap (to_z w128) (or_over a b f.sfits g.sfits) ∙ to_z_over _ (omega (arith, g.sfits))
any_is (negsuc a) (pos b) f g = ap (to_z w128) (or_comm (over a) b ∙ or_over b a g.sfits f.sfits) ∙ to_z_over _ (omega (arith, f.sfits))
any_is (negsuc a) (negsuc b) f g = ap (to_z w128) (or_both_over a b f.sfits g.sfits) ∙ to_z_over _ (let l : bit_and a b ≤ a = and_le_l a b in omega (arith, f.sfits))
