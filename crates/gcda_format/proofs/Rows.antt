-- The data of a worked program after one run, and what changed bytes of them are.
use Rattle.std.proofs.Common.{◌≡◌, refl, ℕ, zero, suc, List, [], ◌∷◌, ◌++◌, length, take}
use Rattle.std.specs.Prelude.{slice_set, Result, Ok, Err}
use Rattle.gcov_records.specs.declared.fault.FileFault.{FileFault}
use Rattle.gcov_records.specs.declared.fault.FileFault.TheVariants as fault
use Rattle.gcda_format.specs.Data.{DataValue}
use Rattle.gcov_records.specs.Records.{long_record}
use Rattle.gcda_format.specs.Spelling.{function_bytes, data_bytes}
use Rattle.gcda_format.specs.Reading.{told}

-- one run that counted 1 and 2, without path bits; its stamp and checksum are 1 and 2
abbrev one_run : DataValue
one_run = record {
  stamp = 1;
  runs = 1;
  functions = record { checksum = 2; counters = 1 ∷ 2 ∷ []; bits = [] } ∷ [];
}

abbrev bytes : List ℕ
bytes =
    97 ∷ 100 ∷ 99 ∷ 103 ∷ 114 ∷ 48 ∷ 49 ∷ 80 ∷ 1 ∷ 0 ∷ 0 ∷ 0 ∷ 1 ∷ 0 ∷ 0 ∷ 0
    ∷ 0 ∷ 0 ∷ 0 ∷ 161 ∷ 4 ∷ 0 ∷ 0 ∷ 0 ∷ 1 ∷ 0 ∷ 0 ∷ 0
    ∷ 0 ∷ 0 ∷ 0 ∷ 1 ∷ 8 ∷ 0 ∷ 0 ∷ 0 ∷ 0 ∷ 0 ∷ 0 ∷ 0 ∷ 2 ∷ 0 ∷ 0 ∷ 0
    ∷ 0 ∷ 0 ∷ 161 ∷ 1 ∷ 16 ∷ 0 ∷ 0 ∷ 0 ∷ 1 ∷ 0 ∷ 0 ∷ 0 ∷ 0 ∷ 0 ∷ 0 ∷ 0 ∷ 2 ∷ 0 ∷ 0 ∷ 0 ∷ 0 ∷ 0 ∷ 0 ∷ 0
    ∷ 0 ∷ 0 ∷ 241 ∷ 1 ∷ 0 ∷ 0 ∷ 0 ∷ 0 ∷ []

the_bytes_of_the_run : data_bytes one_run ≡ bytes
unfolding function_bytes long_record
the_bytes_of_the_run = refl

seventy_six_bytes : length bytes ≡ 76
seventy_six_bytes = refl

-- the same run with four path bits set takes a long more
abbrev covering : DataValue
covering = record {
  stamp = 1;
  runs = 1;
  functions = record { checksum = 2; counters = 1 ∷ 2 ∷ []; bits = 29 ∷ [] } ∷ [];
}

eighty_four_bytes : length (data_bytes covering) ≡ 84
unfolding function_bytes long_record
eighty_four_bytes = refl

its_last_bytes : data_bytes covering
    ≡ take 68 bytes ++ (0 ∷ 0 ∷ 241 ∷ 1 ∷ 8 ∷ 0 ∷ 0 ∷ 0 ∷ 29 ∷ 0 ∷ 0 ∷ 0 ∷ 0 ∷ 0 ∷ 0 ∷ 0 ∷ [])
unfolding function_bytes long_record
its_last_bytes = refl

the_run_of_the_bytes : told bytes ≡ Ok one_run
the_run_of_the_bytes = refl

the_covering_run : told (data_bytes covering) ≡ Ok covering
unfolding function_bytes long_record
the_covering_run = refl

-- what the first bytes are, for each number of them below this
abbrev cuts : ℕ → List (Result DataValue FileFault)
cuts zero = []
cuts (suc n) = told (take n bytes) ∷ cuts n

abbrev shorts : ℕ → List (Result DataValue FileFault)
shorts zero = []
shorts (suc n) = Err (fault.Short n) ∷ shorts n

each_cut_is_short : cuts 76 ≡ shorts 76
each_cut_is_short = refl

one_byte_more : told (bytes ++ 0 ∷ []) ≡ Err (fault.Extra 76)
one_byte_more = refl

notes_for_data : told (slice_set bytes 0 111) ≡ Err (fault.Magic 0)
notes_for_data = refl

another_version : told (slice_set bytes 6 50) ≡ Err (fault.Version 4)
another_version = refl

another_tag : told (slice_set bytes 19 160) ≡ Err (fault.Tag 16)
another_tag = refl

a_longer_record_of_runs : told (slice_set bytes 20 8) ≡ Err (fault.Length 20)
a_longer_record_of_runs = refl

the_second_function_first : told (slice_set bytes 36 1) ≡ Err (fault.Order 36)
the_second_function_first = refl

half_a_counter : told (slice_set bytes 48 12) ≡ Err (fault.Length 48)
half_a_counter = refl

a_count_above_the_limit : told (slice_set bytes 59 128) ≡ Err (fault.Number 52)
a_count_above_the_limit = refl

a_long_more_than_there_is : told (slice_set bytes 72 8) ≡ Err (fault.Short 76)
a_long_more_than_there_is = refl
