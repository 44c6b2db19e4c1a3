-- What bytes are: the file of data, or bytes with a first fault at a place.
use Rattle.std.specs.Prelude.{ℕ, List, Result}
use Rattle.gcov_records.specs.declared.fault.FileFault.{FileFault}
use Rattle.gcov_records.specs.declared.fault.FileFault.TheVariants as fault
use Rattle.gcov_records.specs.Reading.{Reading, ◌>>=◌, give, word, fixed, header, each, longs, whole}
use Rattle.gcda_format.specs.Data.{FunctionDataValue, DataValue, count_limit, long_limit}
use Rattle.gcda_format.specs.Spelling.{magic, version, runs_tag, function_tag, counter_tag, bit_tag}

-- the function of this number
abbrev pub function_at : ℕ → Reading FunctionDataValue
function_at k =
    header function_tag 8 >>= λ h.
    fixed k fault.Order >>= λ n.
    word >>= λ checksum.
    longs counter_tag count_limit >>= λ counters.
    longs bit_tag long_limit >>= λ bits.
    give (record { checksum = checksum; counters = counters; bits = bits })

-- data
abbrev pub data_file : Reading DataValue
data_file =
    fixed magic fault.Magic >>= λ m.
    fixed version fault.Version >>= λ v.
    word >>= λ stamp.
    word >>= λ count.
    header runs_tag 4 >>= λ h.
    word >>= λ runs.
    each 0 count function_at >>= λ functions.
    give (record { stamp = stamp; runs = runs; functions = functions })

-- what bytes are
abbrev pub told : List ℕ → Result DataValue FileFault
told bytes = whole data_file bytes
