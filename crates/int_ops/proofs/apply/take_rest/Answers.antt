use Rattle.std.proofs.Common.{rules, sym, ap, ap₂, ◌∙◌, ◌≡◌, int_div, int_rem, to_z, of_z}
use Rattle.std.specs.Int.{w128}
use Rattle.std.proofs.lemmas.Int.{to_z-of_z}
use Rattle.int_ops.specs.Ranges.{is_in_range}
use Rattle.int_ops.specs.Apply.{settled}
use Rattle.int_ops.proofs.Rules.{left_over, too_large}
use Rattle.int_ops.proofs.apply.take_rest.Goals as goal

pub returns-then-is_in_range-clause-value : goal.returns-then-is_in_range-clause-value
returns-then-is_in_range-clause-value c =
    let a : to_z w128 (of_z w128 c.args.a) ≡ c.args.a = to_z-of_z w128 c.args.a (search rules) in
    let b : to_z w128 (of_z w128 c.args.b) ≡ c.args.b = to_z-of_z w128 c.args.b (search rules) in
    let q : to_z w128 (of_z w128 c.quotient.result) ≡ int_div c.args.a c.args.b = to_z-of_z w128 c.quotient.result (search rules) ∙ (c.quotient.ensures ∙ ap₂ int_div a b) in
    let r : to_z w128 (of_z w128 c.remainder.result) ≡ int_rem c.args.a c.args.b = to_z-of_z w128 c.remainder.result (search rules) ∙ (c.remainder.ensures ∙ ap₂ int_rem a b) in
    c.settle.ensures.value ∙ (ap (settled c.args.t) r
    ∙ sym (left_over c.args.t c.args.a c.args.b (λ e. c.if-b-eq0.false (ap (of_z w128) e)) (ap (is_in_range c.args.t) (sym q) ∙ (sym c.is_in_range.ensures ∙ c.if-is_in_range.true))))

pub returns-clause-value : goal.returns-clause-value
returns-clause-value c =
    let a : to_z w128 (of_z w128 c.args.a) ≡ c.args.a = to_z-of_z w128 c.args.a (search rules) in
    let b : to_z w128 (of_z w128 c.args.b) ≡ c.args.b = to_z-of_z w128 c.args.b (search rules) in
    let q : to_z w128 (of_z w128 c.quotient.result) ≡ int_div c.args.a c.args.b = to_z-of_z w128 c.quotient.result (search rules) ∙ (c.quotient.ensures ∙ ap₂ int_div a b) in
    sym (too_large c.args.t c.args.a c.args.b (λ e. c.if-b-eq0.false (ap (of_z w128) e)) (ap (is_in_range c.args.t) (sym q) ∙ (sym c.is_in_range.ensures ∙ c.if-is_in_range.false)))
