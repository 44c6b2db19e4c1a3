use Rattle.path_masks.proofs.NetWalkLaws.{rows_name_words, primes_followed, primes_seen}
use Rattle.path_masks.proofs.laws.primes.Goals as goal

pub returns-clause-words : goal.returns-clause-words
returns-clause-words c = rows_name_words

pub returns-clause-follow : goal.returns-clause-follow
returns-clause-follow c = primes_followed

pub returns-clause-seen : goal.returns-clause-seen
returns-clause-seen c = primes_seen
