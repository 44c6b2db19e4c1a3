-- What runs of a code count, as data.
use Rattle.std.specs.Prelude.{ℕ, ◌+◌, ◌≤◌, List, [], ◌∷◌, map, replicate, slice_index_or}
use Rattle.std.specs.List.{All}
use Rattle.stack_ops.specs.Code.{FunctionValue, CodeValue}
use Rattle.code_runs.specs.CodeRun.{Tally}
use Rattle.code_runs.specs.Tables.{words_in}
use Rattle.gcda_format.specs.Data.{FunctionDataValue, DataValue, long_limit}

-- Of these functions, the first of which has number k, the checksums, and what stands at their numbers among counters
-- and path words.
abbrev pub counts_from : ℕ → List (List ℕ) → List (List ℕ) → List FunctionValue → List FunctionDataValue
counts_from k counters words [] = []
counts_from k counters words (f ∷ functions) = record {
  checksum = f.checksum;
  counters = slice_index_or counters k [];
  bits = slice_index_or words k [];
} ∷ counts_from (k + 1) counters words functions

-- the data of one run that counted this: the code's stamp, and the checksum, counters and path words of each function
abbrev pub data_of : CodeValue → List (List ℕ) → List (List ℕ) → DataValue
data_of c counters words =
    record { stamp = c.stamp; runs = 1; functions = counts_from 0 counters words c.functions }

-- the data of one run with this tally
abbrev pub counts_of : CodeValue → Tally → DataValue
counts_of c tally = data_of c tally.counters tally.words

-- the checksum of a function, and its counters and path words, all 0
abbrev pub function_zeros : FunctionValue → FunctionDataValue
function_zeros f = record {
  checksum = f.checksum;
  counters = replicate f.counters 0;
  bits = replicate (words_in f.paths) 0;
}

-- the data of no run: the code's stamp, and for each function counters and path words that are all 0
abbrev pub no_counts : CodeValue → DataValue
no_counts c = record { stamp = c.stamp; runs = 0; functions = map function_zeros c.functions }

-- the path words of a function are longs
pub record HasLongs (f : FunctionDataValue) : Type 0 where
  pub bits : All (λ n. n ≤ long_limit) f.bits
