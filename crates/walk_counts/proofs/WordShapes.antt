-- The words of paths that walks contain have the shape of those paths.
use Rattle.std.proofs.Common.{◌≡◌, refl, ap, ◌∙◌, ℕ, ◌+◌, ◌*◌, ◌/◌, ◌%◌, ◌^◌, ◌≤◌, ◌==◌}
use Rattle.std.proofs.Common.{Bool, true, false, cond, inl, inr, arith, List, [], length, get_or, drop, eq-eqb}
use Rattle.std.specs.Prelude.{nat_le, Ok}
use Rattle.std.specs.List.{list_any}
use Rattle.std.proofs.Math.Nat.{div-eq_of_lt, zero-div}
use Rattle.std.proofs.lemmas.Bool.{and_from, cases_lt, leb-true, leb-false}
use Rattle.std.proofs.lemmas.List.{length-take, length-drop, get_or_past}
use Rattle.cov_base.specs.Net.{NetValue}
use Rattle.prime_paths.specs.Listings.{Lists}
use Rattle.prime_paths.specs.Paths.{ArePrimes}
use Rattle.prime_paths.specs.declared.listing.Listing.{Listing}
use Rattle.prime_paths.specs.declared.listing.Listing.TheVariants as listing
use Rattle.path_masks.specs.Masks.{contains, word_of, chunk, width, words_of, bits_of}
use Rattle.path_masks.proofs.ChunkLaws.{word_small}
use Rattle.path_masks.proofs.MaskLaws.{words_length}
use Rattle.path_masks.proofs.WordLaws.{get_numbers}
use Rattle.function_tallies.specs.Tallies.{ends_below, fits_paths}
use Rattle.walk_counts.specs.WalkData.{bits_within}

-- no bit of the words is past the paths
pub ends : (t : List ℕ → Bool) (ps : List (List ℕ)) → ends_below (length ps) (words_of t ps) ≡ true
ends t ps = elim (cases_lt (length ps / 64) (width ps)) [
  | inl inside ↦ (let at : get_or (words_of t ps) (length ps / 64) 0 ≡ word_of t (chunk ps (length ps / 64)) =
      get_numbers (λ i. word_of t (chunk ps i)) 0 (width ps) (length ps / 64) inside
      ∙ ap (λ i. word_of t (chunk ps i)) (let e : 0 + length ps / 64 ≡ length ps / 64 = omega arith in e) in
      let few : length (chunk ps (length ps / 64)) ≤ length ps % 64 =
      (let a = length-take 64 (drop (64 * (length ps / 64)) ps) in
      let b = length-drop (64 * (length ps / 64)) ps in omega (arith, a, b)) in
      last (get_or (words_of t ps) (length ps / 64) 0)
      (ap (λ w. w / 2 ^ (length ps % 64)) at
      ∙ div-eq_of_lt (word_small t (chunk ps (length ps / 64)) (length ps % 64) few)))
  | inr past ↦
      last (get_or (words_of t ps) (length ps / 64) 0)
      (ap (λ w. w / 2 ^ (length ps % 64))
      (get_or_past (words_of t ps) (length ps / 64) 0 (let l = words_length t ps in omega (arith, l, past)))
      ∙ zero-div (2 ^ (length ps % 64)))
]
  where
    last : (w : ℕ) → w / 2 ^ (length ps % 64) ≡ 0 → (w / 2 ^ (length ps % 64) == 0) ≡ true
    last w e = eq-eqb (w / 2 ^ (length ps % 64)) 0 e

-- the bits that walks leave fit the listing of the paths
pub record ListsBits (net : NetValue) (limit : ℕ) (bits : List ℕ) : Type 0 where
  pub listing : Listing
  pub lists : Lists net limit (Ok listing)
  pub fits : fits_paths listing bits ≡ true

pub bits_listed : (net : NetValue) (limit : ℕ) (ps walks : List (List ℕ)) → ArePrimes net ps
    → ListsBits net limit (bits_within limit ps walks)
bits_listed net limit ps walks primes = by (nat_le (length ps) limit) refl
  where
    seen : List ℕ → Bool
    seen p = list_any (λ w. contains w p) walks

    by : (z : Bool) → nat_le (length ps) limit ≡ z → ListsBits net limit (cond z (bits_of ps walks) [])
    by true e = record {
      listing = listing.All ps;
      lists = (primes, leb-true (length ps) limit e);
      fits = and_from (length (bits_of ps walks) == width ps) (ends_below (length ps) (bits_of ps walks))
          (eq-eqb (length (bits_of ps walks)) (width ps) (words_length seen ps)) (ends seen ps);
    }
    by false e = record {
      listing = listing.LimitPassed;
      lists = (ps, primes, leb-false (length ps) limit e);
      fits = refl;
    }
