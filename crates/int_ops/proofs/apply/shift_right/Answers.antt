use Rattle.std.proofs.Common.{rules, sym, ap, ap₂, ◌∙◌, ◌≡◌, ◌^◌, unsigned_abs, pos, false, to_z, of_z}
use Rattle.std.specs.Int.{w128, int_div_euclid}
use Rattle.std.proofs.lemmas.Int.{to_z-of_z}
use Rattle.int_ops.specs.Apply.{settled, power, is_past}
use Rattle.int_ops.proofs.Rules.{shifted, count_power}
use Rattle.int_ops.proofs.apply.shift_right.Goals as goal

pub returns-clause-value : goal.returns-clause-value
returns-clause-value c =
    let a : to_z w128 (of_z w128 c.args.a) ≡ c.args.a = to_z-of_z w128 c.args.a (search rules) in
    let n : to_z w128 (of_z w128 c.args.by) ≡ c.args.by = to_z-of_z w128 c.args.by (search rules) in
    let within : is_past c.args.t c.args.by ≡ false = ap (is_past c.args.t) (sym n) ∙ (sym c.passes_width.ensures ∙ c.if-passes_width.false) in
    let s : to_z w128 (of_z w128 c.shifted_right.result) ≡ int_div_euclid c.args.a (power c.args.by) =
    to_z-of_z w128 c.shifted_right.result (search rules) ∙ (c.shifted_right.ensures ∙ ap₂ int_div_euclid a (ap (λ z. pos (2 ^ unsigned_abs z)) n ∙ count_power c.args.t c.args.by within)) in
    c.settle.ensures.value ∙ (ap (settled c.args.t) s ∙ sym (shifted c.args.t c.args.a c.args.by within))
