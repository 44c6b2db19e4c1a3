use Rattle.code_runs.proofs.CountLaws.{counters_are_marks}
use Rattle.code_runs.proofs.laws.counters.Goals as goal

pub returns : goal.returns
returns c = counters_are_marks
