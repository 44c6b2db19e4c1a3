-- What a run of a program leaves in its data.
use Rattle.std.specs.Prelude.{◌≡◌, ◌⊎◌, ℕ, ◌+◌, ◌&&◌, nat_lt, Bool, if◌then◌else◌, List, [], ◌∷◌}
use Rattle.std.specs.Prelude.{Option, Some, None, Result, Ok, Err}
use Rattle.cov_outside.specs.Outside.{Files}
use Rattle.stack_ops.specs.Code.{CodeValue, FunctionValue}
use Rattle.stack_ops.specs.declared.endings.Outcome.{Outcome}
use Rattle.stack_ops.specs.declared.endings.Outcome.TheVariants as outcome
use Rattle.code_runs.specs.CodeRun.{Ran}
use Rattle.gcda_format.specs.Data.{DataValue, FunctionDataValue}
use Rattle.gcda_format.specs.Spelling.{data_bytes}
use Rattle.function_tallies.specs.Tallies.{ends_below}
use Rattle.run_counts.specs.Counts.{counts_of, no_counts}
use Rattle.run_counts.specs.Texts.{is_closed}
use Rattle.run_merge.specs.Merging.{added, merge_fault}
use Rattle.run_merge.specs.declared.merging.MergeFault.{MergeFault}
use Rattle.run_merge.specs.declared.merging.MergeFault.TheVariants as fault
use Rattle.cov_answers.specs.declared.answers.End.{End}
use Rattle.cov_answers.specs.declared.answers.End.TheVariants as answer
use Rattle.command_steps.specs.Steps.{Then, Makes}
use Rattle.file_commands.specs.Report.{FindsData}

-- the answer to how a run of so many turns ended
abbrev pub end_of : ℕ → Outcome → End
end_of turns (outcome.Returned status) = answer.Ran status
end_of turns (outcome.Exited status) = answer.Ran status
end_of turns (outcome.Trapped trap line) = answer.Trapped trap line
end_of turns outcome.OutOfTurns = answer.OutOfTurns turns

-- the run is counted: its code counts, and it returned or exited
abbrev pub is_counted : CodeValue → Ran → Bool
is_counted code ran = code.covered && is_closed ran.ending

-- of these functions, the first of which has number k, the number of the first whose bits go past its paths
abbrev pub past_paths : ℕ → List FunctionValue → List FunctionDataValue → Option ℕ
past_paths k [] counts = None
past_paths k (f ∷ fs) [] = None
past_paths k (f ∷ fs) (d ∷ ds) = if ends_below f.paths d.bits then past_paths (k + 1) fs ds else Some k

-- the lesser of two numbers
abbrev pub lesser : ℕ → ℕ → ℕ
lesser a b = if nat_lt b a then b else a

-- The answer to why the counts of a run can't be added to those of a file, where this function is the first of the
-- file whose bits go past its paths: the stamp of the code comes first, and such bits are another shape.
abbrev pub answer_in : Option ℕ → MergeFault → End
answer_in None (fault.OtherBuild old new) = answer.OtherBuild new old
answer_in None (fault.OtherShape function) = answer.OtherShape function
answer_in None fault.RunsPassed = answer.RunsPassed
answer_in None (fault.CountPassed function counter) = answer.CountPassed function counter
answer_in (Some k) (fault.OtherBuild old new) = answer.OtherBuild new old
answer_in (Some k) (fault.OtherShape function) = answer.OtherShape (lesser k function)
answer_in (Some k) fault.RunsPassed = answer.OtherShape k
answer_in (Some k) (fault.CountPassed function counter) = answer.OtherShape k

-- The counts of a run are added to others, or the answer tells why they can't be.
abbrev pub Joins : Option ℕ → DataValue → DataValue → Result DataValue End → Type 0
Joins past run old (Ok both) = (past ≡ None) × (merge_fault old run ≡ None) × (both ≡ added old run)
Joins past run old (Err end) = (end ≡ answer.NoMemory)
    ⊎ (((found : MergeFault) × (merge_fault old run ≡ Some found) × (end ≡ answer_in past found))
    ⊎ ((k : ℕ) × (past ≡ Some k) × (merge_fault old run ≡ None) × (end ≡ answer.OtherShape k)))

-- the others became those of both; or the answer tells why not
abbrev pub Joined : {T : Type 0} → Option ℕ → DataValue → DataValue → DataValue → Result T End → Type 0
Joined past run old new (Ok done) = Joins past run old (Ok new)
Joined past run old new (Err end) = Joins past run old (Err end)

-- the counts to which those of a run are added: those that were found, or none
abbrev pub start_of : CodeValue → Option DataValue → DataValue
start_of code None = no_counts code
start_of code (Some old) = old

-- of the counts that were found, the first function whose bits go past its paths
abbrev pub past_in : CodeValue → Option DataValue → Option ℕ
past_in code None = None
past_in code (Some old) = past_paths 0 code.functions old.functions

-- the steps from the data that were found to the bytes of those with a run
abbrev pub JoinSteps : CodeValue → Ran → Option DataValue → Result (List ℕ) End → Type 0
JoinSteps code ran found = Then (Joins (past_in code found) (counts_of code ran.tally) (start_of code found)) (λ both.
    Makes (data_bytes both))

-- the steps to the bytes of a program's data, once a run of its code is counted
abbrev pub DataSteps : Option Files → List ℕ → CodeValue → Ran → Result (List ℕ) End → Type 0
DataSteps files name code ran = Then (FindsData files name) (JoinSteps code ran)

-- the answer may come once a run is over: it blames neither standard input nor the output, nor the code's bytes, and no
-- file is missing
abbrev pub IsLate : End → Type 0
IsLate answer.ReadFault = ⊥
IsLate answer.WriteFault = ⊥
IsLate (answer.BadCode fault) = ⊥
IsLate (answer.Missing name) = ⊥
IsLate end = Unit {0}
