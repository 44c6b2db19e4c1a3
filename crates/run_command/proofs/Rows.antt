-- What worked runs of the command come to.
use Rattle.std.proofs.Common.{◌≡◌, refl, ℕ, List, [], ◌∷◌, Some, None, true, false}
use Rattle.std.specs.Prelude.{◌^◌, ◌-◌}
use Rattle.stack_ops.specs.declared.endings.Outcome.{Outcome}
use Rattle.stack_ops.specs.declared.endings.Outcome.TheVariants as outcome
use Rattle.stack_ops.specs.declared.endings.Trap.TheVariants as trap
use Rattle.stack_ops.specs.Code.{FunctionValue, CodeValue}
use Rattle.code_runs.specs.CodeRun.{Ran}
use Rattle.gcda_format.specs.Data.{FunctionDataValue}
use Rattle.run_merge.specs.declared.merging.MergeFault.TheVariants as fault
use Rattle.cov_answers.specs.declared.answers.End.TheVariants as answer
use Rattle.run_command.specs.Ran.{end_of, is_counted, past_paths, past_in, start_of, answer_in}

exits_with_its_status : end_of 7 (outcome.Exited 3) ≡ answer.Ran 3
exits_with_its_status = refl

tells_the_turns : end_of 7 outcome.OutOfTurns ≡ answer.OutOfTurns 7
tells_the_turns = refl

-- a function with so many paths
abbrev function : ℕ → FunctionValue
function paths = record {
  params = 0;
  cells = 0;
  depth = 1;
  gives = true;
  checksum = 4;
  counters = 0;
  paths = paths;
  passes = 0;
  ops = [];
  table = [];
}

-- data of a function with these path words
abbrev found : List ℕ → FunctionDataValue
found bits = record { checksum = 4; counters = []; bits = bits }

last_path_is_a_path : past_paths 0 (function 3 ∷ []) (found (7 ∷ []) ∷ []) ≡ None
last_path_is_a_path = refl

bit_of_no_path : past_paths 0 (function 3 ∷ function 3 ∷ []) (found (7 ∷ []) ∷ found (8 ∷ []) ∷ []) ≡ Some 1
bit_of_no_path = refl

whole_words_have_no_more_bits : past_paths 0 (function 64 ∷ []) (found ((2 ^ 64 - 1) ∷ []) ∷ []) ≡ None
whole_words_have_no_more_bits = refl

second_word_counts : past_paths 0 (function 65 ∷ []) (found (0 ∷ 2 ∷ []) ∷ []) ≡ Some 0
second_word_counts = refl

abbrev code : CodeValue
code = record { stamp = 9; covered = true; main = 0; globals = []; functions = function 3 ∷ [] }

first_run_begins_with_none : start_of code None
    ≡ record { stamp = 9; runs = 0; functions = found (0 ∷ []) ∷ [] }
first_run_begins_with_none = refl

no_data_go_past : past_in code None ≡ None
no_data_go_past = refl

stamp_of_the_code_comes_first : answer_in None (fault.OtherBuild 5 9) ≡ answer.OtherBuild 9 5
stamp_of_the_code_comes_first = refl

other_build_before_other_shape : answer_in (Some 0) (fault.OtherBuild 5 9) ≡ answer.OtherBuild 9 5
other_build_before_other_shape = refl

first_function_of_two : answer_in (Some 2) (fault.OtherShape 1) ≡ answer.OtherShape 1
first_function_of_two = refl

first_function_past_its_paths : answer_in (Some 1) (fault.OtherShape 2) ≡ answer.OtherShape 1
first_function_past_its_paths = refl

shape_before_runs : answer_in (Some 1) fault.RunsPassed ≡ answer.OtherShape 1
shape_before_runs = refl

-- ---- which runs are counted

abbrev ran : Outcome → Ran
ran ending = record { output = []; ending = ending; tally = record { counters = []; words = []; marks = [] } }

exited_run_is_counted : is_counted code (ran (outcome.Exited 1)) ≡ true
exited_run_is_counted = refl

trapped_run_is_not : is_counted code (ran (outcome.Trapped trap.Overflow 1)) ≡ false
trapped_run_is_not = refl

plain_code_counts_nothing : is_counted (record code { covered = false }) (ran (outcome.Returned 0)) ≡ false
plain_code_counts_nothing = refl
