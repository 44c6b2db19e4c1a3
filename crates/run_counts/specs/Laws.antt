-- Laws of the data of runs.
use Rattle.std.specs.Prelude.{◌≡◌, ℕ, ◌≤◌, List, None}
use Rattle.std.specs.List.{All}
use Rattle.stack_ops.specs.Code.{CodeValue}
use Rattle.code_runs.specs.CodeChecks.{code_fault}
use Rattle.code_runs.specs.CodeRun.{Ran, CodeRun}
use Rattle.gcda_format.specs.Data.{DataValue, IsData, count_limit}
use Rattle.run_merge.specs.Merging.{HasFew, added, merge_fault}
use Rattle.run_counts.specs.Counts.{counts_of, no_counts}

-- Data that can stand in a file have few functions and counters: their numbers are of 32 bits.
abbrev pub FilesHaveFew : Type 0
FilesHaveFew = (d : DataValue) → IsData d → HasFew d

-- After any run of a code that breaks no rule its data have as few.
abbrev pub RunsHaveFew : Type 0
RunsHaveFew =
    (c : CodeValue) → code_fault c ≡ None → (input : List ℕ) (turns : ℕ) (ran : Ran) → CodeRun c input turns ran
    → HasFew (counts_of c ran.tally)

-- Merged into the counts of no run, the counts of a run are themselves, where none is above the limit.
abbrev pub FirstIsItself : Type 0
FirstIsItself =
    (c : CodeValue) (input : List ℕ) (turns : ℕ) (ran : Ran) → CodeRun c input turns ran
    → All (All (λ n. n ≤ count_limit)) ran.tally.counters
    → (merge_fault (no_counts c) (counts_of c ran.tally) ≡ None)
    × (added (no_counts c) (counts_of c ran.tally) ≡ counts_of c ran.tally)
