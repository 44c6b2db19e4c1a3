use Rattle.run_command.proofs.RunLaws.{told_whole, told_cut}
use Rattle.run_command.proofs.running.show.Goals as goal

pub returns-in-Ok-clause-ends : goal.returns-in-Ok-clause-ends
returns-in-Ok-clause-ends g c = λ ran shows.
    told_whole _ _ c.args.turns c.args.name.now c.args.finished.now.machine.code ran _ _ c.output.result.now
    c.args.finished.now.machine.output _ c.output.ensures shows.output c.in-Ok.ensures.writes
    (c.keep.ensures.keeps ran shows)

pub returns-in-Err-clause-ends : goal.returns-in-Err-clause-ends
returns-in-Err-clause-ends g c = λ ran shows.
    told_cut _ c.args.turns c.args.name.now c.args.finished.now.machine.code ran _ _ c.output.result.now
    c.args.finished.now.machine.output _ c.output.ensures shows.output c.in-Err.ensures.kind c.in-Err.ensures.writes
