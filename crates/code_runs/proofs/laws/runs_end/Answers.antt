use Rattle.code_runs.proofs.Ends.{lighter, each_ends, one_run}
use Rattle.code_runs.proofs.laws.runs_end.Goals as goal

pub returns-clause-lighter : goal.returns-clause-lighter
returns-clause-lighter c = lighter

pub returns-clause-ends : goal.returns-clause-ends
returns-clause-ends c = each_ends

pub returns-clause-one : goal.returns-clause-one
returns-clause-one c = one_run
