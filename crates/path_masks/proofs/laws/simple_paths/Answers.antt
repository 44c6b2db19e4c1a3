use Rattle.path_masks.proofs.NetWalkLaws.{primes_followable, paths_followed, paths_seen}
use Rattle.path_masks.proofs.laws.simple_paths.Goals as goal

pub returns-clause-primes : goal.returns-clause-primes
returns-clause-primes c = primes_followable

pub returns-clause-follow : goal.returns-clause-follow
returns-clause-follow c = paths_followed

pub returns-clause-seen : goal.returns-clause-seen
returns-clause-seen c = paths_seen
