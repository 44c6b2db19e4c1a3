use Rattle.operand_depths.proofs.Blocks.{graphs_steady}
use Rattle.operand_depths.proofs.Pruned.{pruning_keeps, pruned_steady}
use Rattle.operand_depths.proofs.laws.depths.Goals as goal

pub returns-clause-lowered : goal.returns-clause-lowered
returns-clause-lowered c = graphs_steady

pub returns-clause-kept : goal.returns-clause-kept
returns-clause-kept c = pruning_keeps

pub returns-clause-pruned : goal.returns-clause-pruned
returns-clause-pruned c = pruned_steady
