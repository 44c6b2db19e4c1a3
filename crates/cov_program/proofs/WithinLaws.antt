-- A command that words give is within its limits.
use Rattle.std.proofs.Common.{◌≡◌, refl, subst, ℕ, ◌≤◌, Bool, true, false, List, [], ◌∷◌, codes, arith}
use Rattle.std.specs.Prelude.{◌&&◌, if◌then◌else◌, nat_le, Option, Some, None}
use Rattle.clap.specs.Words.{Row, Text, first_of, fault_of, matches_of}
use Rattle.clap.specs.Kinds.{Kinds}
use Rattle.cov_base.specs.Limits.{default_turns}
use Rattle.std.specs.List.{list_any}
use Rattle.std.specs.Str.Parse.{digits_value}
use Rattle.std.proofs.lemmas.Bool.{leb-true}
use Rattle.cov_words.specs.declared.syntax.CommandName.{CommandName}
use Rattle.cov_words.specs.declared.syntax.CommandName.TheVariants as which
use Rattle.cov_words.specs.Numbers.{number_in, is_number}
use Rattle.cov_words.specs.Reading.{Reading, Reads, Faults, Misfits, CommandValue, Cover, Build, Make}
use Rattle.cov_words.specs.Reading.{with_number, with_source, reading, reading_of, reading_by, unless_refused, is_conditions}
use Rattle.cov_words.specs.Syntax.{named, app_for}
use Rattle.cov_words.specs.Values.{number_by, number_or, turn_limit, path_limit, default_paths, turns_in, path_limit_in, made_in, text_in, texts_in, stands_in, is_source_name}
use Rattle.cov_program.specs.Within.{IsWithin}

-- a reading that is a command within its limits, or none
abbrev AllWithin : Reading → Type 0
AllWithin (Reads command) = IsWithin command
AllWithin (Faults found) = Unit {0}
AllWithin (Misfits kinds) = Unit {0}

-- what passes two tests passes each
both : (a b : Bool) → (a && b) ≡ true → (a ≡ true) × (b ≡ true)
both true true h = (refl, refl)
both true false h = absurd (cc)
both false b h = absurd (cc)

-- a test of order that holds
holds : (m n : ℕ) → nat_le m n ≡ true → m ≤ n
holds m n h = leb-true m n h

-- a number that was read is no more than the most
number_within : (least most : ℕ) (text : List ℕ) (n : ℕ) → number_in least most text ≡ Some n → n ≤ most
number_within least most text n h =
    by_test (is_number text && (nat_le least (digits_value 10 text) && nat_le (digits_value 10 text) most)) refl h
  where
    by_test : (b : Bool)
        → (is_number text && (nat_le least (digits_value 10 text) && nat_le (digits_value 10 text) most)) ≡ b
        → number_in least most text ≡ Some n → n ≤ most
    by_test true e h =
        let p = both (nat_le least (digits_value 10 text)) (nat_le (digits_value 10 text) most)
        (both (is_number text) _ e).1 in
        let le : digits_value 10 text ≤ most = holds _ _ p.1 in
        let g : Some (digits_value 10 text) ≡ Some n = cc in
        let f : digits_value 10 text ≡ n = cc in
        omega (arith, le, f)
    by_test false e h = absurd (cc)

-- so of an option's number, whose default is no more
option_within : (most other : ℕ) (word : Option Text) (n : ℕ) → other ≤ most → number_by most other word ≡ Some n
    → n ≤ most
option_within most other None n le h = let f : other ≡ n = cc in omega (arith, le, f)
option_within most other (Some word) n le h = number_within 0 most word n h

-- where a number is wanted, what follows is within its limits for each number up to the most
with_numbers : (most : ℕ) (found : Option ℕ) (next : ℕ → Reading) → ((n : ℕ) → found ≡ Some n → n ≤ most)
    → ((n : ℕ) → n ≤ most → AllWithin (next n)) → AllWithin (with_number found next)
with_numbers most None next le h = tt
with_numbers most (Some n) next le h = h n (le n refl)

-- where any number will do
any_number : (found : Option ℕ) (next : ℕ → Reading) → ((n : ℕ) → AllWithin (next n)) → AllWithin (with_number found next)
any_number None next h = tt
any_number (Some n) next h = h n

-- one of two readings, by a test
either : (b : Bool) (r s : Reading) → (b ≡ true → AllWithin r) → (b ≡ false → AllWithin s)
    → AllWithin (if b then r else s)
either true r s h k = h refl
either false r s h k = k refl

-- where a source's name is wanted, what follows is so for each that is one
with_sources : (source : Text) (next : Text → Reading) → (is_source_name source ≡ true → AllWithin (next source))
    → AllWithin (with_source source next)
with_sources source next h = either (is_source_name source) (next source) _ h (λ e. tt)

-- turns that were given, or the default, are within their limit
turns_within : (rows : List Row) (n : ℕ) → turns_in rows ≡ Some n → n ≤ turn_limit
unfolding number_or
turns_within rows n h = option_within turn_limit default_turns (first_of (codes "turns") rows) n (omega arith) h

-- and so are the paths
paths_within : (rows : List Row) (n : ℕ) → path_limit_in rows ≡ Some n → n ≤ path_limit
unfolding number_or
paths_within rows n h = option_within path_limit default_paths (first_of (codes "path-limit") rows) n (omega arith) h

-- so is each command, by its matches
by_matches : (name : CommandName) (rows : List Row) → AllWithin (reading_by name rows)
by_matches which.Cover rows = with_numbers turn_limit (turns_in rows) _ (turns_within rows) (λ turns t.
    with_numbers path_limit (path_limit_in rows) _ (paths_within rows) (λ limit l.
    with_sources (text_in (codes "SRC") rows)
    (λ source. Reads (Cover turns limit source (texts_in (codes "IN") rows))) (λ s. (t, l, s))))
by_matches which.Build rows = with_numbers path_limit (path_limit_in rows) _ (paths_within rows) (λ limit l.
    with_sources (text_in (codes "SRC") rows)
    (λ source. Reads (Build (stands_in (codes "plain") rows) limit source)) (λ s. (l, s)))
by_matches which.Run rows = with_numbers turn_limit (turns_in rows) _ (turns_within rows) (λ turns t. t)
by_matches which.Report rows = tt
by_matches which.Merge rows = tt
by_matches which.Make rows = any_number (made_in rows) (λ n. Reads (Make n)) (λ n. tt)

-- and so are words that `clap` refuses or not
unless : (kinds : Kinds) (r : Reading) → AllWithin r → AllWithin (unless_refused kinds r)
unless [] r h = h
unless (k ∷ ks) r h = tt

-- words of a command's name
by_name : (name : Option CommandName) (words : List Text) → AllWithin (reading_of name words)
by_name None words = tt
by_name (Some name) words =
    unless (fault_of (app_for name) words) _ (by_matches name (matches_of (app_for name) words))

-- all words
all_within : (words : List Text) → AllWithin (reading words)
all_within [] = tt
all_within (first ∷ words) =
    either (list_any is_conditions (first ∷ words)) _ (reading_of (named first) (first ∷ words)) (λ e. tt)
    (λ e. by_name (named first) (first ∷ words))

-- so is the command that words are
pub read_within : (words : List Text) (command : CommandValue) → reading words ≡ Reads command → IsWithin command
read_within words command e = subst AllWithin e (all_within words)
