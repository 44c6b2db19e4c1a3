-- The values that the matches of a command hold.
use Rattle.std.specs.Prelude.{ℕ, Bool, ◌&&◌, ◌==◌, nat_lt, List, [], length, Option, Some, None, unwrap_or, codes}
use Rattle.std.specs.List.{ends_with}
use Rattle.std.specs.Str.{bytes_eq}
use Rattle.clap.specs.Words.{Row, Text, first_of, all_of}
use Rattle.cov_base.specs.Limits.{default_turns}
use Rattle.cov_words.specs.Numbers.{number_in}

-- the most turns that a run may be given
abbrev pub turn_limit : ℕ
turn_limit = 1099511627776

-- the most prime paths of a function that may be listed
abbrev pub path_limit : ℕ
path_limit = 65536

-- the most prime paths of a function that are listed, where no limit is given
abbrev pub default_paths : ℕ
default_paths = 10000

-- the most functions of a made source beside `main`
abbrev pub made_limit : ℕ
made_limit = 400

-- the word that was given, or no text
unfoldable pub text_in : Text → List Row → Text
text_in id rows = unwrap_or (first_of id rows) []

-- the words that were given
unfoldable pub texts_in : Text → List Row → List Text
texts_in id rows = unwrap_or (all_of id rows) []

-- the option without a value stands: `clap` then gives it the word `true`
abbrev pub stands_in : Text → List Row → Bool
stands_in id rows = bytes_eq (text_in id rows) (codes "true")

-- the number that a word writes, or this one where none was given; none where it is no number up to `most`
abbrev pub number_by : ℕ → ℕ → Option Text → Option ℕ
number_by most other None = Some other
number_by most other (Some word) = number_in 0 most word

-- the number that was given, or this one where none was; none where the word is no number up to `most`
unfoldable pub number_or : Text → ℕ → ℕ → List Row → Option ℕ
number_or id most other rows = number_by most other (first_of id rows)

-- the turns of a run
abbrev pub turns_in : List Row → Option ℕ
turns_in rows = number_or (codes "turns") turn_limit default_turns rows

-- the most prime paths of a function that are listed
abbrev pub path_limit_in : List Row → Option ℕ
path_limit_in rows = number_or (codes "path-limit") path_limit default_paths rows

-- how many functions a made source has beside `main`
abbrev pub made_in : List Row → Option ℕ
made_in rows = number_in 1 made_limit (text_in (codes "N") rows)

-- the text ends in `.c` with a byte before
abbrev pub is_source_name : Text → Bool
is_source_name name = nat_lt 2 (length name) && ends_with ◌==◌ name (codes ".c")
