use Rattle.run_command.proofs.RunLaws.{went_shown, stopped_before}
use Rattle.run_command.proofs.running.run.Goals as goal

pub returns-in-Ok-clause-runs : goal.returns-in-Ok-clause-runs
returns-in-Ok-clause-runs g c =
    let h = c.in-Ok.ensures.finishes in
    went_shown _ _ _ _ c.args.turns c.args.name.now _ _ c.in-Ok.finished _ c.in-Ok.ensures.files h
    (c.show.ensures.ends h.ran h.shows)

pub returns-in-Err-clause-runs : goal.returns-in-Err-clause-runs
returns-in-Err-clause-runs g c =
    stopped_before _ _ _ c.args.turns c.args.name.now _ _ c.in-Err.ensures.files c.in-Err.ensures.finishes
