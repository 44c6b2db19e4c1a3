use Rattle.walk_counts.proofs.Tallying.{function_tallied, tallies_so}
use Rattle.walk_counts.proofs.laws.walks_tallied.Goals as goal

pub returns-clause-function : goal.returns-clause-function
returns-clause-function c = function_tallied

pub returns-clause-program : goal.returns-clause-program
returns-clause-program c = tallies_so
