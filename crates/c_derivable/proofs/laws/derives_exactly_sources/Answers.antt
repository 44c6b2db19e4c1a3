use Rattle.c_derivable.proofs.Exactly.{exactly, one_tree}
use Rattle.c_derivable.proofs.laws.derives_exactly_sources.Goals as goal

pub returns : goal.returns
returns c = record { exactly = exactly; one = one_tree }
