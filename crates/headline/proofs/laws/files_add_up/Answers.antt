use Rattle.headline.proofs.Files.{merges_add_up, runs_add_up}
use Rattle.headline.proofs.RunFiles.{open_runs_meant, runs_are_kept}
use Rattle.headline.proofs.Ready.{merges_stop, ready_is_run}
use Rattle.headline.proofs.laws.files_add_up.Goals as goal

pub returns-clause-runs : goal.returns-clause-runs
returns-clause-runs c = runs_add_up

pub returns-clause-merges : goal.returns-clause-merges
returns-clause-merges c = merges_add_up

pub returns-clause-kept : goal.returns-clause-kept
returns-clause-kept c = runs_are_kept

pub returns-clause-open : goal.returns-clause-open
returns-clause-open c = open_runs_meant

pub returns-clause-ready : goal.returns-clause-ready
returns-clause-ready c = ready_is_run

pub returns-clause-merged : goal.returns-clause-merged
returns-clause-merged c = merges_stop
