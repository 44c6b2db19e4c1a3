use Rattle.std.proofs.Common.{◌≡◌, ◌≤◌, sym, ap, subst, ◌∙◌, List, ℕ, length, ◌+◌, Some, None, Err, filter}
use Rattle.prime_paths.specs.Paths.{ArePrimes}
use Rattle.prime_paths.specs.Lister.{simple_paths}
use Rattle.prime_paths.specs.Search.{is_long, Comes, visits}
use Rattle.prime_paths.proofs.SearchLaws.{begins, begins_left, found_primes, more_primes, steps_counted}
use Rattle.prime_paths.proofs.listing.list_primes.Goals as goal

pub returns-in-Ok-clause-lists : goal.returns-in-Ok-clause-lists
returns-in-Ok-clause-lists g c =
    subst (λ (ps : List (List ℕ)). ArePrimes c.args.net.now ps × (length ps ≤ c.args.limit))
    (sym c.into_paths.ensures.value)
    (found_primes c.args.net.now c.args.limit c.search.new.found
    (begins c.args.net.now c.in_ok-ways.ways c.args.limit c.budget.result c.blocks-2.result c.new-found.result
    (Some c.search.new.found)
    c.in_ok-ways.ensures c.new-found.ensures c.budget.ensures c.blocks-2.ensures.value c.in-Ok.ensures.found)
    c.into_paths.ensures.few)

pub returns-in-Ok-clause-counts : goal.returns-in-Ok-clause-counts
returns-in-Ok-clause-counts g c =
    subst (λ (ps : List (List ℕ)). (c.search.new.steps
    ≡ c.args.steps.now + length (filter is_long (simple_paths c.args.net.now)))
    × (c.args.steps.now + length (filter is_long ps) ≤ c.search.new.steps)) (sym c.into_paths.ensures.value)
    (steps_counted c.args.net.now c.args.limit c.search.new.found c.args.steps.now c.search.new.steps
    (begins c.args.net.now c.in_ok-ways.ways c.args.limit c.budget.result c.blocks-2.result c.new-found.result
    (Some c.search.new.found)
    c.in_ok-ways.ensures c.new-found.ensures c.budget.ensures c.blocks-2.ensures.value c.in-Ok.ensures.found)
    (c.search.ensures.steps ∙ ap (λ n. c.args.steps.now + n)
    (begins_left c.args.net.now c.args.limit c.budget.result c.blocks-2.result c.new-found.result c.new-found.ensures
    c.budget.ensures c.blocks-2.ensures.value)))

pub returns-in-Err-LimitPassed-clause-lists : goal.returns-in-Err-LimitPassed-clause-lists
returns-in-Err-LimitPassed-clause-lists g c =
    more_primes c.args.net.now c.args.limit
    (begins c.args.net.now c.in_ok-ways.ways c.args.limit c.budget.result c.blocks-2.result c.new-found.result None
    c.in_ok-ways.ensures c.new-found.ensures c.budget.ensures c.blocks-2.ensures.value
    (subst (λ e. Comes (visits c.in_ok-ways.ways (simple_paths c.in_ok-ways.ways) c.new-found.result)
    c.search.new.found (Err e))
    c.in-Err-LimitPassed.field-0-is c.in-Err-LimitPassed.ensures.found))
