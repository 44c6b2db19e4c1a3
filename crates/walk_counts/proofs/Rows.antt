-- What is counted of worked walks.
use Rattle.std.proofs.Common.{◌≡◌, refl, ℕ, List, [], ◌∷◌, ◌++◌, pos}
use Rattle.cov_base.specs.Net.{NetValue}
use Rattle.cov_base.specs.Walks.{Walk}
use Rattle.cov_base.specs.declared.net.ArcKind.TheVariants.{Real}
use Rattle.cov_base.specs.declared.net.FlowArc.{FlowArc}
use Rattle.covered_runs.specs.CoveredWalks.{counters_of, walks_of}
use Rattle.gcno_format.specs.Notes.{FunctionNotesValue}
use Rattle.walk_counts.specs.WalkData.{bits_within, AreFunctionDataOf}
use Rattle.walk_counts.specs.WalkTallies.{AreFunctionTalliesOf}
use Rattle.walk_counts.specs.WholeWalks.{passages_of, times_entered, times_left}

abbrev way : ℕ → ℕ → FlowArc
way a b = record { from = a; to = b; kind = Real }

-- `while (getchar() == 'a') n++;`, with a block before the loop and one behind it
abbrev loop : NetValue
loop = record {
  blocks = 6;
  arcs = way 0 2 ∷ way 2 3 ∷ way 3 4 ∷ way 3 5 ∷ way 4 3 ∷ way 5 1 ∷ [];
  lines = [] ∷ [] ∷ (1 ∷ 2 ∷ []) ∷ (3 ∷ []) ∷ (4 ∷ []) ∷ (5 ∷ []) ∷ [];
}

abbrev five_paths : List (List ℕ)
five_paths = (2 ∷ 3 ∷ 4 ∷ []) ∷ (2 ∷ 3 ∷ 5 ∷ []) ∷ (3 ∷ 4 ∷ 3 ∷ []) ∷ (4 ∷ 3 ∷ 4 ∷ []) ∷ (4 ∷ 3 ∷ 5 ∷ []) ∷ []

abbrev walk : ℕ → List ℕ → Walk
walk i blocks = record { function = i; blocks = blocks }

-- on the input `aa`
abbrev on_two : List Walk
on_two = walk 0 (0 ∷ 2 ∷ 3 ∷ 4 ∷ 3 ∷ 4 ∷ 3 ∷ 5 ∷ 1 ∷ []) ∷ []

-- on no input
abbrev on_none : List Walk
on_none = walk 0 (0 ∷ 2 ∷ 3 ∷ 5 ∷ 1 ∷ []) ∷ []

arcs_of_the_loop_are_passed_twice : passages_of loop 0 on_two ≡ pos 1 ∷ pos 1 ∷ pos 2 ∷ pos 1 ∷ pos 2 ∷ pos 1 ∷ []
arcs_of_the_loop_are_passed_twice = refl

other_functions_pass_nothing : passages_of loop 1 on_two ≡ pos 0 ∷ pos 0 ∷ pos 0 ∷ pos 0 ∷ pos 0 ∷ pos 0 ∷ []
other_functions_pass_nothing = refl

test_is_entered_three_times : times_entered loop 0 on_two 3 ≡ 3
test_is_entered_three_times = refl

test_is_left_three_times : times_left loop 0 on_two 3 ≡ 3
test_is_left_three_times = refl

two_runs_leave_the_entry_twice : times_left loop 0 (on_two ++ on_none) 0 ≡ 2
two_runs_leave_the_entry_twice = refl

two_runs_enter_the_exit_twice : times_entered loop 0 (on_two ++ on_none) 1 ≡ 2
two_runs_enter_the_exit_twice = refl

two_arcs_have_counters : counters_of loop 0 on_two ≡ 1 ∷ 2 ∷ []
two_arcs_have_counters = refl

four_of_five_paths : bits_within 5 five_paths (walks_of 0 on_two) ≡ 29 ∷ []
four_of_five_paths = refl

all_five_in_two_runs : bits_within 5 five_paths (walks_of 0 (on_two ++ on_none)) ≡ 31 ∷ []
all_five_in_two_runs = refl

no_words_above_the_limit : bits_within 4 five_paths (walks_of 0 on_two) ≡ []
no_words_above_the_limit = refl

abbrev notes : List FunctionNotesValue
notes = record { name = []; line = 1; checksum = 7; net = loop } ∷ []

a_function_without_data : AreFunctionDataOf 5 0 notes on_two [] ≡ ⊥
a_function_without_data = refl

a_function_without_a_tally : AreFunctionTalliesOf 5 0 notes on_two [] ≡ ⊥
a_function_without_a_tally = refl
