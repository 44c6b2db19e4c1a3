use Rattle.std.proofs.Common.{ap₂, sym, ◌∙◌, [], ◌∷◌}
use Rattle.stack_ops.specs.Steps.{state}
use Rattle.middle_rows.proofs.OperatorStepsLaws.{held, gave, trapped}
use Rattle.middle_rows.proofs.operator_steps.by_stack.Goals as goal

pub returns-in-Ok : goal.returns-in-Ok
returns-in-Ok c =
    let before = state c.in_ok-stack.stack [] [] c.in_ok-io.io in
    let operands = c.in_ok-stack.ensures.operands ∙ ap₂ (λ b a. b ∷ a ∷ []) (held _ c.requires.right) (held _ c.requires.left) in
    let number = c.pop.ensures.numbers c.in-Ok.ensures.numbers.of_operands in
    rw (held c.pop.result number.0)
    (sym (gave c.operation.result c.args.op c.args.t before c.operation.ensures operands c.in-Ok.ensures.effect c.pop.ensures.top))

pub returns : goal.returns
returns c =
    let before = state c.in_ok-stack.stack [] [] c.in_ok-io.io in
    let operands = c.in_ok-stack.ensures.operands ∙ ap₂ (λ b a. b ∷ a ∷ []) (held _ c.requires.right) (held _ c.requires.left) in
    sym (trapped c.operation.result c.args.op c.args.t before c.operation.ensures operands c.in-Err.ensures.effect)
