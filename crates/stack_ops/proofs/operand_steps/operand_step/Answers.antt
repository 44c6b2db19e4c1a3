use Rattle.stack_ops.proofs.Numbers.{IsNumber-held}
use Rattle.stack_ops.proofs.operand_steps.operand_step.Goals as goal

pub returns-in-Swap-clause-numbers : goal.returns-in-Swap-clause-numbers
returns-in-Swap-clause-numbers c =
    let b = c.pop-b.ensures.numbers c.requires.numbers in
    let a = c.pop-a-in-Swap.ensures.numbers b.1 in
    c.push-in-Swap-2.ensures.numbers
    (c.push-in-Swap.ensures.numbers a.1 (IsNumber-held _ b.0)) (IsNumber-held _ a.0)
