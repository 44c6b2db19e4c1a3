-- What the laws of prime paths say.
use Rattle.std.specs.Prelude.{◌≡◌, ℕ, ◌+◌, ◌*◌, ◌≤◌, true, List, length}
use Rattle.cov_base.specs.Net.{NetValue}
use Rattle.prime_paths.specs.Paths.{is_simple_path, Part, IsPrime, Among, Apart, ArePrimes}

-- each net has exactly one list of its prime paths, each once, in the order of a dictionary
abbrev pub HasOneList : Type 0
HasOneList = (net : NetValue) → (paths : List (List ℕ)) × ArePrimes net paths
    × ((others : List (List ℕ)) → ArePrimes net others → others ≡ paths)

-- each simple path is a part of a prime path (Ammann and Offutt)
abbrev pub EachIsPartOfAPrime : Type 0
EachIsPartOfAPrime = (net : NetValue) (p : List ℕ) → is_simple_path net p ≡ true
    → (q : List ℕ) × IsPrime net q × Part p q

-- a simple path of a net has at most one block more than the net
abbrev pub NoneIsLong : Type 0
NoneIsLong = (net : NetValue) (p : List ℕ) → is_simple_path net p ≡ true → length p ≤ net.blocks + 1

-- simple paths, each once, are at most (n + 1) * (n + 2) / 2 times as many as the prime paths of the net, where it has
-- n blocks: each is a part of a prime path, which has no more parts
abbrev pub SimpleAreFew : Type 0
SimpleAreFew = (net : NetValue) (primes simple : List (List ℕ)) → ArePrimes net primes
    → Apart simple → ((p : List ℕ) → Among p simple → is_simple_path net p ≡ true)
    → 2 * length simple ≤ length primes * ((net.blocks + 1) * (net.blocks + 2))
