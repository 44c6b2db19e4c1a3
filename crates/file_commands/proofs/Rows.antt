-- Worked rows of merging and of tallies without data.
use Rattle.std.proofs.Common.{◌≡◌, refl, ℕ, [], ◌∷◌, arith}
use Rattle.std.specs.Prelude.{codes, bytes_eq, if◌then◌else◌, Some, None, Ok}
use Rattle.cov_outside.specs.Outside.{Files}
use Rattle.prime_paths.specs.declared.listing.Listing.TheVariants as listing
use Rattle.gcda_format.specs.Data.{DataValue}
use Rattle.gcda_format.specs.Spelling.{function_bytes, data_bytes}
use Rattle.gcov_records.specs.Records.{long_record}
use Rattle.function_tallies.specs.declared.tally.TallyFault.TheVariants as fault
use Rattle.cov_answers.specs.declared.answers.End.TheVariants as answer
use Rattle.command_steps.specs.Files.{DataAt}
use Rattle.file_commands.specs.Merge.{MergeSteps}
use Rattle.file_commands.specs.Tallied.{IsTallied, answer_of, words_for}
use Rattle.file_commands.specs.Report.{FindsData}

-- data of this build after so many runs, with one function of two counters and a word
abbrev counts : ℕ → ℕ → ℕ → ℕ → ℕ → DataValue
counts stamp runs a b word = record {
  stamp = stamp;
  runs = runs;
  functions = record { checksum = 5; counters = a ∷ b ∷ []; bits = word ∷ [] } ∷ [];
}

-- the data of two programs
abbrev files : Files
files name =
    if bytes_eq name (codes "one.gcda") then Some (data_bytes (counts 7 1 2 3 1))
    else (if bytes_eq name (codes "two.gcda") then Some (data_bytes (counts 7 4 5 0 6)) else None)

one_is : DataAt (Some files) (codes "one") (Ok (counts 7 1 2 3 1))
unfolding function_bytes long_record
one_is = (data_bytes (counts 7 1 2 3 1), (refl, omega arith), refl)

two_is : DataAt (Some files) (codes "two") (Ok (counts 7 4 5 0 6))
unfolding function_bytes long_record
two_is = (data_bytes (counts 7 4 5 0 6), (refl, omega arith), refl)

-- runs and counters are added, and bits are joined
merged_row : MergeSteps (Some files) (codes "one") (codes "two") (Ok (data_bytes (counts 7 5 7 3 7)))
unfolding function_bytes long_record
merged_row = (counts 7 1 2 3 1, one_is, (counts 7 4 5 0 6, two_is, (counts 7 5 7 3 7, (refl, refl), refl)))

-- a program of that name has no data
none_row : FindsData (Some files) (codes "three") (Ok None)
none_row = refl

-- one path needs a word, and too many need none
words_row : words_for (listing.All ((2 ∷ []) ∷ [])) ≡ 1
words_row = refl

no_words_row : words_for listing.LimitPassed ≡ 0
no_words_row = refl

-- notes without functions have a tally of no run
empty_row : IsTallied (record { stamp = 7; limit = 8; functions = [] }) None (Ok (record { runs = 0; functions = [] }))
empty_row = record { runs = refl; functions = tt }

-- the answers to faults
build_row : answer_of (fault.OtherBuild 7 8) ≡ answer.OtherBuild 7 8
build_row = refl

flow_row : answer_of (fault.NotAFlow 1 2) ≡ answer.NotAFlow 1 2
flow_row = refl
