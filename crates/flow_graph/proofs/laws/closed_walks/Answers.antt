use Rattle.flow_graph.proofs.WalkLaws.{closed_walks}
use Rattle.flow_graph.proofs.laws.closed_walks.Goals as goal

pub returns : goal.returns
returns c = closed_walks
