use Rattle.walk_counts.proofs.Reporting.{arcs_told, lines_told, paths_told}
use Rattle.walk_counts.proofs.laws.walks_reported.Goals as goal

pub returns-clause-arcs : goal.returns-clause-arcs
returns-clause-arcs c = arcs_told

pub returns-clause-lines : goal.returns-clause-lines
returns-clause-lines c = lines_told

pub returns-clause-paths : goal.returns-clause-paths
returns-clause-paths c = paths_told
