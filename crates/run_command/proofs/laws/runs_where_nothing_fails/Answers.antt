use Rattle.run_command.proofs.EndLaws.{ready_is_run}
use Rattle.run_command.proofs.FirstLaws.{first_is_kept}
use Rattle.run_command.proofs.laws.runs_where_nothing_fails.Goals as goal

pub returns-clause-ready : goal.returns-clause-ready
returns-clause-ready c = ready_is_run

pub returns-clause-first : goal.returns-clause-first
returns-clause-first c = first_is_kept
