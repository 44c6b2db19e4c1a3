use Rattle.prune_agrees.proofs.Joined.{pruned_agrees}
use Rattle.prune_agrees.proofs.Made.{lowered_made}
use Rattle.prune_agrees.proofs.laws.agreement.Goals as goal

pub returns-clause-agrees : goal.returns-clause-agrees
returns-clause-agrees c = pruned_agrees

pub returns-clause-made : goal.returns-clause-made
returns-clause-made c = lowered_made
