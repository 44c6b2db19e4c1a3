use Rattle.std.proofs.Common.{rules, arith, ap, sym, ◌≡◌, ◌<◌, ◌==◌, ℕ, false, true}
use Rattle.std.proofs.lemmas.Int.{ints}
use Rattle.int_ops.proofs.Conversions.{some_bits, without_sign, below_half, above_half, remains}
use Rattle.int_ops.proofs.num.wrapped.Goals as goal

has_sign : (signed : ℕ) → (signed ≡ 0 → ⊥) → signed < 2 → signed ≡ 1
has_sign signed some below = omega arith

pub returns-then-signed-eq0 : goal.returns-then-signed-eq0
returns-then-signed-eq0 c =
    let flag : (c.args.signed == 1) ≡ false = ap (λ s. s == 1) c.if-signed-eq0.true in
    rw flag (without_sign c.args.bits c.args.n _ (some_bits c.args.bits c.requires.bits) (remains c.args.bits c.args.n c.span_of-span.result c.rem_euclid-rest.result
    (search rules) (search rules) (search rules) c.span_of-span.ensures c.rem_euclid-rest.ensures.value))

pub returns-then-rest-span : goal.returns-then-rest-span
returns-then-rest-span c =
    let flag : (c.args.signed == 1) ≡ true = ap (λ s. s == 1) (has_sign c.args.signed c.if-signed-eq0.false c.requires.signed) in
    rw flag (below_half c.args.bits c.args.n _ (some_bits c.args.bits c.requires.bits) (remains c.args.bits c.args.n c.span_of-span.result c.rem_euclid-rest.result
    (search rules) (search rules) (search rules) c.span_of-span.ensures c.rem_euclid-rest.ensures.value)
    (rw (sym c.span_of-span.ensures) (omega (arith, ints))))

pub returns : goal.returns
returns c =
    let flag : (c.args.signed == 1) ≡ true = ap (λ s. s == 1) (has_sign c.args.signed c.if-signed-eq0.false c.requires.signed) in
    rw flag (above_half c.args.bits c.args.n _ _ (some_bits c.args.bits c.requires.bits) (remains c.args.bits c.args.n c.span_of-span.result c.rem_euclid-rest.result
    (search rules) (search rules) (search rules) c.span_of-span.ensures c.rem_euclid-rest.ensures.value)
    (rw (sym c.span_of-span.ensures) (omega (arith, ints))) (rw (sym c.span_of-span.ensures) (omega (arith, ints))))
