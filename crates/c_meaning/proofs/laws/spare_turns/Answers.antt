use Rattle.c_meaning.proofs.SpareTurns.{spare_turns}
use Rattle.c_meaning.proofs.laws.spare_turns.Goals as goal

pub returns : goal.returns
returns c = spare_turns
