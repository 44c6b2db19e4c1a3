use Rattle.std.proofs.Common.{rules, sym, ap, ◌∙◌, ◌≡◌, Ok, not, of_z}
use Rattle.std.specs.Int.{w128}
use Rattle.std.proofs.lemmas.Int.{to_z-of_z}
use Rattle.int_ops.specs.Conversion.{convert}
use Rattle.int_ops.specs.Apply.{truth}
use Rattle.int_ops.proofs.Rules.{differ}
use Rattle.int_ops.proofs.apply.binary.Goals as goal

pub returns-else-left-right-5-clause-value : goal.returns-else-left-right-5-clause-value
returns-else-left-right-5-clause-value c =
    let l : c.convert-left.result ≡ convert c.args.t c.args.a = c.convert-left.ensures.value ∙ ap (convert c.args.t) (to_z-of_z w128 c.args.a (search rules)) in
    let r : c.convert-right.result ≡ convert c.args.t c.args.b = c.convert-right.ensures.value ∙ ap (convert c.args.t) (to_z-of_z w128 c.args.b (search rules)) in
    rw c.in-Equal.is (ap (λ b. Ok (truth b)) (sym (differ _ _ (λ e. c.if-left-right-5.false (ap (of_z w128) (l ∙ (e ∙ sym r)))))))

pub returns-then-left-right-6-clause-value : goal.returns-then-left-right-6-clause-value
returns-then-left-right-6-clause-value c =
    let l : c.convert-left.result ≡ convert c.args.t c.args.a = c.convert-left.ensures.value ∙ ap (convert c.args.t) (to_z-of_z w128 c.args.a (search rules)) in
    let r : c.convert-right.result ≡ convert c.args.t c.args.b = c.convert-right.ensures.value ∙ ap (convert c.args.t) (to_z-of_z w128 c.args.b (search rules)) in
    rw c.in-NotEqual.is (ap (λ b. Ok (truth (not b))) (sym (differ _ _ (λ e. c.if-left-right-6.true (ap (of_z w128) (l ∙ (e ∙ sym r)))))))
