use Rattle.walk_counts.proofs.Circulating.{walks_circulate_so, closed_go_through}
use Rattle.walk_counts.proofs.RunFunctions.{runs_inside}
use Rattle.walk_counts.proofs.laws.walks_circulate.Goals as goal

pub returns-clause-balance : goal.returns-clause-balance
returns-clause-balance c = walks_circulate_so

pub returns-clause-closed : goal.returns-clause-closed
returns-clause-closed c = closed_go_through

pub returns-clause-inside : goal.returns-clause-inside
returns-clause-inside c = runs_inside
