-- Rows of listed prime paths.
use Rattle.std.proofs.Common.{◌≡◌, refl, sym, ap, subst, ◌∙◌, ℕ, zero, suc, ◌<◌, ◌≤◌, Bool, true, false, cond}
use Rattle.std.proofs.Common.{List, [], ◌∷◌, length, Option, Some, None, arith}
use Rattle.std.specs.Prelude.{Ok, nat_le}
use Rattle.std.proofs.lemmas.Bool.{le-leb, lt-leb}
use Rattle.cov_base.specs.Net.{NetValue}
use Rattle.cov_base.specs.Walks.{Walk}
use Rattle.prime_paths.specs.Listings.{Lists}
use Rattle.prime_paths.specs.Paths.{ArePrimes}
use Rattle.prime_paths.specs.declared.listing.Listing.TheVariants as listing
use Rattle.path_masks.specs.Masks.{bits_of}
use Rattle.path_masks.specs.Tables.{RowsValue, AreRows}
use Rattle.stack_code.specs.Modes.{ShapeValue, HasRows}
use Rattle.covered_runs.specs.CoveredWalks.{walks_of, AreWordsOf, ListsPrimes}
use Rattle.covered_code.specs.Shapes.{count_within, bits_within}
use Rattle.covered_code.specs.Shapes.{IsListedBy, IsListed}
use Rattle.covered_code.specs.Shapes as shapes

no_paths : (paths : List (List ℕ)) → length paths ≡ 0 → paths ≡ []
no_paths [] e = refl
no_paths (p ∷ paths) e = absurd (omega (arith, e))

pub listed_some : (net : NetValue) (limit count : ℕ) (paths : List (List ℕ)) (rows : RowsValue)
    → Lists net limit (Ok (listing.All paths)) → count ≡ length paths → ((count ≡ 0) → ⊥)
    → AreRows net.arcs paths rows → IsListed net limit (Some rows) count
listed_some net limit count paths rows lists e some are = record {
  paths = paths;
  primes = lists.0;
  by = shapes.listed lists.1 are e (above count some);
}
  where
    above : (n : ℕ) → ((n ≡ 0) → ⊥) → 0 < n
    above zero ne = absurd (ne refl)
    above (suc n) ne = omega arith

pub listed_none : (net : NetValue) (limit count : ℕ) (paths : List (List ℕ)) → Lists net limit (Ok (listing.All paths))
    → count ≡ length paths → count ≡ 0 → IsListed net limit None 0
listed_none net limit count paths lists e none = record {
  paths = paths;
  primes = lists.0;
  by = shapes.none (no_paths paths (sym e ∙ none));
}

pub listed_past : (net : NetValue) (limit : ℕ) → Lists net limit (Ok listing.LimitPassed) → IsListed net limit None 0
listed_past net limit lists = record { paths = lists.0; primes = lists.1; by = shapes.past lists.2 }

-- ---- what listed rows tell

pub has_rows : (net : NetValue) (limit : ℕ) (paths : List (List ℕ)) (rows : Option RowsValue) (count : ℕ)
    → limit ≤ 65536 → IsListedBy net limit paths rows count → HasRows net count rows
has_rows net limit paths _ count few (shapes.listed low are e some) = record {
  paths = paths;
  rows_are = are;
  count_is = e;
  some = some;
  few = omega (arith, few, low, e);
}
has_rows net limit paths _ _ few (shapes.none e) = refl
has_rows net limit paths _ _ few (shapes.past l) = refl

pub lists_primes : (s : ShapeValue) (net : NetValue) (limit : ℕ) (paths : List (List ℕ)) (rows : Option RowsValue)
    (count : ℕ) → net ≡ s.net → ArePrimes net paths → IsListedBy net limit paths rows count → ListsPrimes s rows
lists_primes s net limit paths _ count same primes (shapes.listed {rows = rows} low are e some) = (
  paths,
  subst (λ (n : NetValue). ArePrimes n paths) same primes,
  subst (λ (n : NetValue). AreRows n.arcs paths rows) same are,
)
lists_primes s net limit paths _ _ same primes (shapes.none e) = tt
lists_primes s net limit paths _ _ same primes (shapes.past l) = tt

pub count_listed : (net : NetValue) (limit : ℕ) (paths : List (List ℕ)) (rows : Option RowsValue) (count : ℕ)
    → IsListedBy net limit paths rows count → count ≡ count_within limit (length paths)
count_listed net limit paths _ count (shapes.listed low are e some) =
    e ∙ sym (ap (λ c. cond c (length paths) 0) (le-leb (length paths) limit low))
count_listed net limit paths _ _ (shapes.none e) =
    sym (ap (λ (ps : List (List ℕ)). count_within limit (length ps)) e ∙ by (nat_le 0 limit))
  where
    by : (z : Bool) → ◌≡◌ {A = ℕ} (cond z 0 0) 0
    by true = refl
    by false = refl
count_listed net limit paths _ _ (shapes.past l) =
    sym (ap (λ c. cond c (length paths) 0) (lt-leb (length paths) limit l))

pub words_listed : (net : NetValue) (limit : ℕ) (paths : List (List ℕ)) (rows : Option RowsValue) (count i : ℕ)
    (walks : List Walk) (words : List ℕ) → IsListedBy net limit paths rows count → ArePrimes net paths
    → AreWordsOf net rows i walks words → words ≡ bits_within limit paths (walks_of i walks)
words_listed net limit paths _ count i walks words (shapes.listed low are e some) primes h =
    h paths primes are
    ∙ sym (ap (λ c. cond c (bits_of paths (walks_of i walks)) []) (le-leb (length paths) limit low))
words_listed net limit paths _ _ i walks words (shapes.none e) primes h =
    h ∙ sym (ap (λ (ps : List (List ℕ)). bits_within limit ps (walks_of i walks)) e ∙ by (nat_le 0 limit))
  where
    by : (z : Bool) → cond z (bits_of [] (walks_of i walks)) [] ≡ []
    by true = refl
    by false = refl
words_listed net limit paths _ _ i walks words (shapes.past l) primes h =
    h ∙ sym (ap (λ c. cond c (bits_of paths (walks_of i walks)) []) (lt-leb (length paths) limit l))
