use Rattle.headline.proofs.Covering.{covers_meant}
use Rattle.headline.proofs.Stopping.{ready_is_covered}
use Rattle.headline.proofs.laws.covers_are_meant.Goals as goal

pub returns-clause-text : goal.returns-clause-text
returns-clause-text c = covers_meant

pub returns-clause-ready : goal.returns-clause-ready
returns-clause-ready c = ready_is_covered
