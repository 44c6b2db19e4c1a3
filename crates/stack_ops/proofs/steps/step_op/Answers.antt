use Rattle.stack_ops.specs.Steps.{state}
use Rattle.stack_ops.proofs.steps.step_op.Goals as goal

pub returns-in-GetChar-clause-effect : goal.returns-in-GetChar-clause-effect
returns-in-GetChar-clause-effect c =
    c.stream_step.ensures.effect (state c.args.stack.now c.args.locals.now c.args.globals.now c.args.io.now)

pub returns-in-CheckIndex-clause-effect : goal.returns-in-CheckIndex-clause-effect
returns-in-CheckIndex-clause-effect c =
    c.element_step.ensures.effect (state c.args.stack.now c.args.locals.now c.args.globals.now c.args.io.now)

pub returns-in-LoadLocal-clause-effect : goal.returns-in-LoadLocal-clause-effect
returns-in-LoadLocal-clause-effect c =
    c.cell_step.ensures.effect (state c.args.stack.now c.args.locals.now c.args.globals.now c.args.io.now)
