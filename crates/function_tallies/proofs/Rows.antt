-- Words of worked listings.
use Rattle.std.proofs.Common.{◌≡◌, refl, ℕ, List, [], ◌∷◌, true, false}
use Rattle.prime_paths.specs.declared.listing.Listing.{Listing}
use Rattle.prime_paths.specs.declared.listing.Listing.TheVariants as listing
use Rattle.function_tallies.specs.Tallies.{ends_below, fits_paths}

-- the prime paths of a loop
abbrev five : Listing
five = listing.All ((2 ∷ 3 ∷ 4 ∷ []) ∷ (2 ∷ 3 ∷ 5 ∷ []) ∷ (3 ∷ 4 ∷ 3 ∷ []) ∷ (4 ∷ 3 ∷ 4 ∷ []) ∷ (4 ∷ 3 ∷ 5 ∷ []) ∷ [])

four_of_five_paths : fits_paths five (29 ∷ []) ≡ true
four_of_five_paths = refl

all_five_paths : fits_paths five (31 ∷ []) ≡ true
all_five_paths = refl

sixth_bit_is_past_the_paths : fits_paths five (32 ∷ []) ≡ false
sixth_bit_is_past_the_paths = refl

no_word_is_too_few : fits_paths five [] ≡ false
no_word_is_too_few = refl

two_words_are_too_many : fits_paths five (29 ∷ 0 ∷ []) ≡ false
two_words_are_too_many = refl

no_word_above_the_limit : fits_paths listing.LimitPassed [] ≡ true
no_word_above_the_limit = refl

a_word_above_the_limit : fits_paths listing.LimitPassed (0 ∷ []) ≡ false
a_word_above_the_limit = refl

a_full_word : ends_below 64 (18446744073709551615 ∷ []) ≡ true
a_full_word = refl

last_bit_of_two_words : ends_below 127 (0 ∷ 9223372036854775808 ∷ []) ≡ false
last_bit_of_two_words = refl
