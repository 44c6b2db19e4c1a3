-- The texts of worked runs.
use Rattle.std.proofs.Common.{◌≡◌, refl, ℕ, List, [], ◌∷◌, Some, None, true, false}
use Rattle.std.specs.Prelude.{codes}
use Rattle.std.specs.Fmt.{digits}
use Rattle.stack_ops.specs.declared.endings.Outcome.{Outcome}
use Rattle.stack_ops.specs.declared.endings.Outcome.TheVariants as outcome
use Rattle.stack_ops.specs.declared.endings.Trap.TheVariants as trap
use Rattle.stack_ops.specs.Code.{FunctionValue, CodeValue}
use Rattle.code_runs.specs.CodeRun.{Ran}
use Rattle.run_merge.specs.declared.merging.MergeFault.TheVariants as fault
use Rattle.run_counts.specs.Texts.{run_text, is_closed, ending_text, trap_text, trap_words}
use Rattle.run_counts.specs.Counts.{data_of, no_counts}
use Rattle.run_counts.specs.Runs.{told_by, run_fault}

returned_without_output : run_text (codes "in/a") (outcome.Returned 7) [] ≡ codes "run in/a: returned 7, 0 bytes\n"
unfolding run_text ending_text digits
returned_without_output = refl

exited_with_output : run_text (codes "b") (outcome.Exited 255) (codes "hi\n")
    ≡ codes "run b: exited 255, 3 bytes\nhi\n\n"
unfolding run_text ending_text digits
exited_with_output = refl

trapped_with_output : run_text (codes "a") (outcome.Trapped trap.DivideByZero 3) (codes "a")
    ≡ codes "run a: trapped divide by zero at line 3, 1 bytes\na\n"
unfolding run_text ending_text trap_text trap_words digits
trapped_with_output = refl

out_of_turns : run_text (codes "-") outcome.OutOfTurns [] ≡ codes "run -: out of turns, 0 bytes\n"
unfolding run_text ending_text digits
out_of_turns = refl

trapped_is_not_closed : is_closed (outcome.Trapped trap.Overflow 1) ≡ false
trapped_is_not_closed = refl

-- ---- a code with two functions, the second with 65 paths

abbrev function : ℕ → ℕ → ℕ → FunctionValue
function checksum counters paths = record {
  params = 0;
  cells = 0;
  depth = 1;
  gives = true;
  checksum = checksum;
  counters = counters;
  paths = paths;
  passes = 0;
  ops = [];
  table = [];
}

abbrev code : CodeValue
code = record {
  stamp = 9;
  covered = true;
  main = 0;
  globals = [];
  functions = function 4 1 0 ∷ function 5 2 65 ∷ [];
}

no_run : no_counts code ≡ record {
  stamp = 9;
  runs = 0;
  functions =
      record { checksum = 4; counters = 0 ∷ []; bits = [] }
      ∷ record { checksum = 5; counters = 0 ∷ 0 ∷ []; bits = 0 ∷ 0 ∷ [] } ∷ [];
}
no_run = refl

one_run : data_of code ((3 ∷ []) ∷ (1 ∷ 2 ∷ []) ∷ []) ([] ∷ (29 ∷ 1 ∷ []) ∷ []) ≡ record {
  stamp = 9;
  runs = 1;
  functions =
      record { checksum = 4; counters = 3 ∷ []; bits = [] }
      ∷ record { checksum = 5; counters = 1 ∷ 2 ∷ []; bits = 29 ∷ 1 ∷ [] } ∷ [];
}
one_run = refl

-- ---- what its runs leave

abbrev ran : Outcome → List ℕ → Ran
ran ending output = record {
  output = output;
  ending = ending;
  tally = record {
    counters = (3 ∷ []) ∷ (1 ∷ 2 ∷ []) ∷ [];
    words = [] ∷ (29 ∷ 1 ∷ []) ∷ [];
    marks = [];
  };
}

closed_run_is_added : (told_by code (codes "a") (ran (outcome.Exited 0) []) (record {
  counts = data_of code ((3 ∷ []) ∷ (1 ∷ 2 ∷ []) ∷ []) ([] ∷ (2 ∷ 1 ∷ []) ∷ []);
  text = [];
})).counts ≡ record {
  stamp = 9;
  runs = 2;
  functions =
      record { checksum = 4; counters = 6 ∷ []; bits = [] }
      ∷ record { checksum = 5; counters = 2 ∷ 4 ∷ []; bits = 31 ∷ 1 ∷ [] } ∷ [];
}
closed_run_is_added = refl

trapped_run_leaves_counts : (told_by code (codes "a") (ran (outcome.Trapped trap.Overflow 2) []) (record {
  counts = no_counts code;
  text = codes "x";
})) ≡ record {
  counts = no_counts code;
  text = codes "xrun a: trapped overflow at line 2, 0 bytes\n";
}
unfolding run_text ending_text trap_text trap_words digits
trapped_run_leaves_counts = refl

first_run_is_never_refused : run_fault code (ran (outcome.Returned 1) []) (no_counts code) ≡ None
first_run_is_never_refused = refl

run_of_another_build_is_refused :
    run_fault code (ran (outcome.Returned 1) []) (record (no_counts code) { stamp = 8 }) ≡ Some (fault.OtherBuild 8 9)
run_of_another_build_is_refused = refl
