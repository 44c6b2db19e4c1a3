-- The laws of prime paths.
use Rattle.std.proofs.Common.{sym, subst, ℕ, ◌+◌, ◌*◌, ◌≤◌, List, length, arith}
use Rattle.prime_paths.specs.Lister.{simple_paths, listing}
use Rattle.prime_paths.specs.Laws.{HasOneList, EachIsPartOfAPrime, NoneIsLong, SimpleAreFew}
use Rattle.prime_paths.proofs.ListFacts.{no_more}
use Rattle.prime_paths.proofs.AllPaths.{lists, one_list, simple_all}
use Rattle.prime_paths.proofs.Counting.{extends, short_whole, few_simple}

pub one_list_each : HasOneList
one_list_each net = (listing net, lists net, one_list net)

pub part_each : EachIsPartOfAPrime
part_each net p s = extends net p s

pub long_none : NoneIsLong
long_none net p s = (let l = short_whole net p s in omega (arith, l))

pub simple_few : SimpleAreFew
simple_few net primes simple are apart each =
    let most : length simple ≤ length (simple_paths net) = no_more simple (simple_paths net) apart
    (λ p m. simple_all net p (each p m)) in
    let few : 2 * length (simple_paths net) ≤ length primes * ((net.blocks + 1) * (net.blocks + 2)) =
    subst (λ (ps : List (List ℕ)). 2 * length (simple_paths net) ≤ length ps * ((net.blocks + 1) * (net.blocks + 2)))
    (sym (one_list net primes are)) (few_simple net) in
    omega (arith, most, few)
