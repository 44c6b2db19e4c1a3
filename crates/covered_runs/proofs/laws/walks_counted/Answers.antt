use Rattle.covered_runs.proofs.CoveredRuns.{along_arcs, closed_counted}
use Rattle.covered_runs.proofs.FewNumbers.{numbers_few}
use Rattle.covered_runs.proofs.laws.walks_counted.Goals as goal

pub returns-clause-along : goal.returns-clause-along
returns-clause-along c = along_arcs

pub returns-clause-closed : goal.returns-clause-closed
returns-clause-closed c = closed_counted

pub returns-clause-few : goal.returns-clause-few
returns-clause-few c = numbers_few
