use Rattle.std.proofs.Common.{◌∙◌, refl, ap}
use Rattle.stack_machine.specs.Machine.{MachineValue}
use Rattle.stack_machine.proofs.BeginLaws.{shows, shows-each}
use Rattle.stack_machine.proofs.machine.Machine.run.Goals as goal

pub returns-clause-ran : goal.returns-clause-ran
returns-clause-ran c =
    shows c.args.self.now.code c.self.inside.code c.args.input.now c.args.input.now c.args.self.now.turns _
    c.finish-ending.result.0 c.finish-ending.new.io.output.items c.finish-ending.result.1 _
    (ap (λ (m : MachineValue). m.code) c.self.view_is) refl
    (ap (λ r. r.turns) c.replace-start.ensures.value
    ∙ (c.begin.ensures.turns ∙ ap (λ (m : MachineValue). m.turns) c.self.view_is))
    refl refl refl c.finish-ending.ensures.ran

pub returns-clause-only : goal.returns-clause-only
returns-clause-only c =
    shows-each c.args.self.now.code c.args.input.now c.args.self.now.turns _ _ (returns-clause-ran c)
