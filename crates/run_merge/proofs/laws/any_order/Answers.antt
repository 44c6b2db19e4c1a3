use Rattle.run_merge.proofs.OrderLaws as laws
use Rattle.run_merge.proofs.laws.any_order.Goals as goal

pub returns : goal.returns
returns c = laws.any_order
