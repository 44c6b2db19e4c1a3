-- What the readers of matches give, by the rows of the matches.
use Rattle.std.proofs.Common.{◌≡◌, refl, sym, ap, ◌∙◌, ℕ, List, [], Option, Some, None, unwrap_or, option_map}
use Rattle.clap.specs.Words.{Text, rows_of, first_of, all_of, first_value, raw_values, matched_of}
use Rattle.clap.specs.declared.parser.matches.Found.{Found}
use Rattle.clap.proofs.WalkLemmas.{first_value-rows, raw_values-rows}
use Rattle.cov_words.specs.Numbers.{number_in}
use Rattle.cov_words.specs.Values.{text_in, texts_in, number_by, number_or}

pub text_some : (f : Found) (id word : Text) → Some word ≡ first_value f id → word ≡ text_in id (rows_of f)
unfolding text_in
text_some f id word h = ap (λ (o : Option Text). unwrap_or o []) (h ∙ first_value-rows f id)

pub text_none : (f : Found) (id : Text) → None ≡ first_value f id → [] ≡ text_in id (rows_of f)
unfolding text_in
text_none f id h = ap (λ (o : Option Text). unwrap_or o []) (h ∙ first_value-rows f id)

pub texts_some : (f : Found) (id : Text) (words : List Text) → Some words ≡ option_map raw_values (matched_of f id)
    → words ≡ texts_in id (rows_of f)
unfolding texts_in
texts_some f id words h = ap (λ (o : Option (List Text)). unwrap_or o []) (h ∙ raw_values-rows f id)

pub texts_none : (f : Found) (id : Text) → None ≡ option_map raw_values (matched_of f id) → [] ≡ texts_in id (rows_of f)
unfolding texts_in
texts_none f id h = ap (λ (o : Option (List Text)). unwrap_or o []) (h ∙ raw_values-rows f id)

pub number_some : (f : Found) (id word : Text) (most other : ℕ) → Some word ≡ first_value f id
    → number_in 0 most word ≡ number_or id most other (rows_of f)
unfolding number_or
number_some f id word most other h = ap (number_by most other) (h ∙ first_value-rows f id)

pub number_none : (f : Found) (id : Text) (most other : ℕ) → None ≡ first_value f id
    → Some other ≡ number_or id most other (rows_of f)
unfolding number_or
number_none f id most other h = ap (number_by most other) (h ∙ first_value-rows f id)
