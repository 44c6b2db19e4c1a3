use Rattle.prime_paths.proofs.PrimeLaws.{one_list_each, part_each, long_none, simple_few}
use Rattle.prime_paths.proofs.laws.primes.Goals as goal

pub returns-clause-one : goal.returns-clause-one
returns-clause-one c = one_list_each

pub returns-clause-part : goal.returns-clause-part
returns-clause-part c = part_each

pub returns-clause-long : goal.returns-clause-long
returns-clause-long c = long_none

pub returns-clause-few : goal.returns-clause-few
returns-clause-few c = simple_few
