use Rattle.orderly_units.proofs.OrderlySources.{graphs_well, source_orderly}
use Rattle.orderly_units.proofs.SourceLimits.{source_within}
use Rattle.orderly_units.proofs.laws.orderly.Goals as goal

pub returns-clause-lowered : goal.returns-clause-lowered
returns-clause-lowered c = graphs_well

pub returns-clause-pruned : goal.returns-clause-pruned
returns-clause-pruned c = source_orderly

pub returns-clause-limits : goal.returns-clause-limits
returns-clause-limits c = source_within
