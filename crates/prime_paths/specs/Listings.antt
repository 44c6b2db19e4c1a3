-- What the listing of prime paths gives, and how many steps it takes.
use Rattle.std.specs.Prelude.{◌≡◌, ℕ, ◌+◌, ◌<◌, ◌≤◌, List, length, filter, Result, Ok, Err}
use Rattle.cov_base.specs.Net.{NetValue}
use Rattle.cov_base.specs.declared.no_memory.NoMemory.{NoMemory}
use Rattle.prime_paths.specs.Paths.{ArePrimes}
use Rattle.prime_paths.specs.Lister.{simple_paths}
use Rattle.prime_paths.specs.Search.{is_long}
use Rattle.prime_paths.specs.declared.listing.Listing.{Listing}
use Rattle.prime_paths.specs.declared.listing.Listing.TheVariants as listing

-- All are exactly the prime paths of the net, each once, in the order of a dictionary, and no more than the limit;
-- where the limit is passed there are more; want of memory says nothing
abbrev pub Lists : NetValue → ℕ → Result Listing NoMemory → Type 0
Lists net limit (Ok (listing.All paths)) = ArePrimes net paths × (length paths ≤ limit)
Lists net limit (Ok listing.LimitPassed) = (paths : List (List ℕ)) × ArePrimes net paths × (limit < length paths)
Lists net limit (Err _) = Unit {0}

-- where all are listed, each simple path of two or more blocks took a step, so at least each listed one did
abbrev pub Counts : NetValue → ℕ → ℕ → Result Listing NoMemory → Type 0
Counts net before after (Ok (listing.All paths)) =
    (after ≡ before + length (filter is_long (simple_paths net))) × (before + length (filter is_long paths) ≤ after)
Counts net before after (Ok listing.LimitPassed) = Unit {0}
Counts net before after (Err _) = Unit {0}
