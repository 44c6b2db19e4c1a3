-- The file of data, as bytes.
use Rattle.std.specs.Prelude.{ℕ, List, [], ◌∷◌, ◌++◌, length}
use Rattle.gcov_items.specs.Items.{word_bytes, header_bytes}
use Rattle.gcov_records.specs.Records.{spelled_from, long_record}
use Rattle.gcda_format.specs.Data.{FunctionDataValue, DataValue}

-- the word with which data begin
abbrev pub magic : ℕ
magic = 1734567009

-- the word of the version behind it
abbrev pub version : ℕ
version = 1345400946

-- the tag of the record of the number of runs
abbrev pub runs_tag : ℕ
runs_tag = 2701131776

-- the tag of a function's own record
abbrev pub function_tag : ℕ
function_tag = 16777216

-- the tag of the record of its counters
abbrev pub counter_tag : ℕ
counter_tag = 27328512

-- the tag of the record of its path bits
abbrev pub bit_tag : ℕ
bit_tag = 32571392

-- a function with its number: a record of the number and the checksum, a record of the counters, one of the bits
unfoldable pub function_bytes : ℕ → FunctionDataValue → List ℕ
function_bytes k f =
    header_bytes (function_tag, 8) ++ (word_bytes k ++ (word_bytes f.checksum
    ++ (long_record counter_tag f.counters ++ long_record bit_tag f.bits)))

-- magic word, version, stamp, how many functions there are, a record of the number of runs, the functions
abbrev pub data_bytes : DataValue → List ℕ
data_bytes d =
    word_bytes magic ++ (word_bytes version ++ (word_bytes d.stamp ++ (word_bytes (length d.functions)
    ++ (header_bytes (runs_tag, 4) ++ (word_bytes d.runs ++ spelled_from 0 function_bytes d.functions)))))
