use Rattle.walk_counts.proofs.Adding.{counters_add, bits_add, runs_add, runs_merge, go_together, one_data}
use Rattle.walk_counts.proofs.laws.runs_added.Goals as goal

pub returns-clause-counters : goal.returns-clause-counters
returns-clause-counters c = counters_add

pub returns-clause-bits : goal.returns-clause-bits
returns-clause-bits c = bits_add

pub returns-clause-runs : goal.returns-clause-runs
returns-clause-runs c = runs_add

pub returns-clause-merge : goal.returns-clause-merge
returns-clause-merge c = runs_merge

pub returns-clause-together : goal.returns-clause-together
returns-clause-together c = go_together

pub returns-clause-one : goal.returns-clause-one
returns-clause-one c = one_data
