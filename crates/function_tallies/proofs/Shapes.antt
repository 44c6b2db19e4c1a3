-- Whether counts have the shape of their net, by the tests of the code.
use Rattle.std.proofs.Common.{◌≡◌, refl, sym, ap, ◌∙◌, ℕ, ◌==◌, ◌&&◌, Bool, true, false, List, length, arith, eq-eqb}
use Rattle.std.specs.Prelude.{Ok}
use Rattle.std.proofs.lemmas.Bool.{and_parts, both_ways, eqb-true}
use Rattle.cov_base.specs.Net.{NetValue}
use Rattle.gcda_format.specs.Data.{FunctionDataValue}
use Rattle.prime_paths.specs.Listings.{Lists}
use Rattle.prime_paths.specs.declared.listing.Listing.{Listing}
use Rattle.prime_paths.specs.declared.listing.Listing.TheVariants as listing
use Rattle.prime_paths.proofs.AllPaths.{one_list}
use Rattle.span_tree.specs.Tree.{off}
use Rattle.function_tallies.specs.Tallies.{HasShape, fits_paths}

-- A net and a limit have one listing.
pub one_listing : (net : NetValue) (limit : ℕ) (a b : Listing) → Lists net limit (Ok a) → Lists net limit (Ok b) → a ≡ b
one_listing net limit (listing.All ps) (listing.All qs) x y =
    ap listing.All (one_list net ps x.0 ∙ sym (one_list net qs y.0))
one_listing net limit (listing.All ps) listing.LimitPassed x y =
    let same = ap (λ (ls : List (List ℕ)). length ls) (one_list net ps x.0 ∙ sym (one_list net y.0 y.1)) in
    let few = x.1 in
    let many = y.2 in
    absurd (omega (arith, same, few, many))
one_listing net limit listing.LimitPassed (listing.All qs) x y =
    let same = ap (λ (ls : List (List ℕ)). length ls) (one_list net qs y.0 ∙ sym (one_list net x.0 x.1)) in
    let few = y.1 in
    let many = x.2 in
    absurd (omega (arith, same, few, many))
one_listing net limit listing.LimitPassed listing.LimitPassed x y = refl

-- the tests of the code
abbrev pub tests : ℕ → ℕ → Listing → FunctionDataValue → Bool
tests checksum count paths d = (d.checksum == checksum) && ((length d.counters == count) && fits_paths paths d.bits)

-- Where they hold, the counts have the shape.
pub shape_from : (limit checksum : ℕ) (net : NetValue) (d : FunctionDataValue) (count : ℕ) (paths : Listing)
    → Lists net limit (Ok paths) → count ≡ length (off net) → tests checksum count paths d ≡ true
    → HasShape limit checksum net d
shape_from limit checksum net d count paths lists many holds =
    let one = and_parts (d.checksum == checksum) ((length d.counters == count) && fits_paths paths d.bits) holds in
    let two = and_parts (length d.counters == count) (fits_paths paths d.bits) one.1 in
    record {
      checksum = eqb-true d.checksum checksum one.0;
      counters = eqb-true (length d.counters) count two.0 ∙ many;
      listing = paths;
      lists = lists;
      words = two.1;
    }

-- Where they fail, the counts don't have it.
pub no_shape : (limit checksum : ℕ) (net : NetValue) (d : FunctionDataValue) (count : ℕ) (paths : Listing)
    → Lists net limit (Ok paths) → count ≡ length (off net) → tests checksum count paths d ≡ false
    → HasShape limit checksum net d → ⊥
no_shape limit checksum net d count paths lists many fails has =
    both_ways (tests checksum count paths d) fails (all (d.checksum == checksum) (length d.counters == count)
    (fits_paths paths d.bits) (eq-eqb d.checksum checksum has.checksum)
    (eq-eqb (length d.counters) count (has.counters ∙ sym many))
    (ap (λ l. fits_paths l d.bits) (one_listing net limit paths has.listing lists has.lists) ∙ has.words))
  where
    all : (a b c : Bool) → a ≡ true → b ≡ true → c ≡ true → (a && (b && c)) ≡ true
    all a b c p q r = rw (p, q, r) refl
