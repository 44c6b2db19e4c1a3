use Rattle.run_counts.proofs.MergeLaws.{data_few, run_few, first_is_itself}
use Rattle.run_counts.proofs.laws.counts_of_runs.Goals as goal

pub returns-clause-few : goal.returns-clause-few
returns-clause-few c = run_few

pub returns-clause-first : goal.returns-clause-first
returns-clause-first c = first_is_itself

pub returns-clause-files : goal.returns-clause-files
returns-clause-files c = data_few
