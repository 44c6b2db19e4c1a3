use Rattle.c_lower.proofs.NameLaws.{found_by_number}
use Rattle.c_lower.proofs.laws.found_by_number.Goals as goal

pub returns : goal.returns
returns c = found_by_number
