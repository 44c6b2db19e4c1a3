-- Counts of a worked program merged.
use Rattle.std.proofs.Common.{◌≡◌, refl, ℕ, List, [], ◌∷◌, Some, None}
use Rattle.gcda_format.specs.Data.{DataValue}
use Rattle.run_merge.specs.declared.merging.MergeFault.TheVariants as fault
use Rattle.run_merge.specs.Merging.{added, merge_fault}

-- the data of a program with one function
abbrev program : ℕ → ℕ → List ℕ → List ℕ → DataValue
program stamp runs counters bits = record {
  stamp = stamp;
  runs = runs;
  functions = record { checksum = 2; counters = counters; bits = bits } ∷ [];
}

a_run_twice : added (program 1 1 (1 ∷ 2 ∷ []) (29 ∷ [])) (program 1 1 (1 ∷ 2 ∷ []) (29 ∷ []))
    ≡ program 1 2 (2 ∷ 4 ∷ []) (29 ∷ [])
a_run_twice = refl

a_run_with_no_input_besides : added (program 1 1 (1 ∷ 2 ∷ []) (29 ∷ [])) (program 1 1 (1 ∷ 0 ∷ []) (2 ∷ []))
    ≡ program 1 2 (2 ∷ 2 ∷ []) (31 ∷ [])
a_run_with_no_input_besides = refl

a_full_counter : merge_fault (program 1 1 (9223372036854775807 ∷ 0 ∷ []) (29 ∷ []))
    (program 1 1 (1 ∷ 2 ∷ []) (29 ∷ [])) ≡ Some (fault.CountPassed 0 0)
a_full_counter = refl

a_counter_that_is_filled : merge_fault (program 1 1 (9223372036854775806 ∷ 0 ∷ []) (29 ∷ []))
    (program 1 1 (1 ∷ 2 ∷ []) (29 ∷ [])) ≡ None
a_counter_that_is_filled = refl

all_runs : merge_fault (program 1 4294967295 (1 ∷ 0 ∷ []) (29 ∷ [])) (program 1 1 (1 ∷ 2 ∷ []) (29 ∷ []))
    ≡ Some fault.RunsPassed
all_runs = refl

another_build : merge_fault (program 1 4294967295 (1 ∷ 0 ∷ []) []) (program 3 1 (1 ∷ 2 ∷ []) (29 ∷ []))
    ≡ Some (fault.OtherBuild 1 3)
another_build = refl

another_shape : merge_fault (program 1 4294967295 (1 ∷ 0 ∷ []) []) (program 1 1 (1 ∷ 2 ∷ []) (29 ∷ []))
    ≡ Some (fault.OtherShape 0)
another_shape = refl

a_function_that_one_lacks : merge_fault (record { stamp = 1; runs = 1; functions = [] })
    (program 1 1 (1 ∷ 2 ∷ []) (29 ∷ [])) ≡ Some (fault.OtherShape 0)
a_function_that_one_lacks = refl
