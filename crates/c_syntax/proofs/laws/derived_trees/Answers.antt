use Rattle.c_syntax.proofs.Closed.{sources}
use Rattle.c_syntax.proofs.laws.derived_trees.Goals as goal

pub returns : goal.returns
returns c = sources
