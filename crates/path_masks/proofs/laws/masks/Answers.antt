use Rattle.path_masks.proofs.WalkBits.{contains_decides, under_decides}
use Rattle.path_masks.proofs.MaskLaws.{bits_tell, begin_stands, pass_stands, all_seen}
use Rattle.path_masks.proofs.FitLaws.{fit_primes}
use Rattle.path_masks.proofs.laws.masks.Goals as goal

pub returns-clause-bits : goal.returns-clause-bits
returns-clause-bits c = bits_tell

pub returns-clause-tests : goal.returns-clause-tests
returns-clause-tests c = λ walk p. (contains_decides walk p, under_decides walk p)

pub returns-clause-begins : goal.returns-clause-begins
returns-clause-begins c = begin_stands

pub returns-clause-goes : goal.returns-clause-goes
returns-clause-goes c = pass_stands

pub returns-clause-seen : goal.returns-clause-seen
returns-clause-seen c = all_seen

pub returns-clause-primes : goal.returns-clause-primes
returns-clause-primes c = fit_primes
