-- What becomes of counts and of a text by one more run.
use Rattle.std.specs.Prelude.{◌≡◌, ℕ, Bool, true, false, List, ◌++◌, Option, Some, None, Result, Ok, Err}
use Rattle.cov_base.specs.declared.refusal.Refusal.{Refusal}
use Rattle.cov_base.specs.declared.refusal.Refusal.TheVariants as refusal
use Rattle.stack_ops.specs.declared.endings.Outcome.{Outcome}
use Rattle.stack_ops.specs.Code.{CodeValue}
use Rattle.code_runs.specs.CodeRun.{Ran}
use Rattle.gcda_format.specs.Data.{DataValue}
use Rattle.run_merge.specs.declared.merging.MergeFault.{MergeFault}
use Rattle.run_merge.specs.Merging.{added, merge_fault}
use Rattle.run_counts.specs.Texts.{is_closed, run_text}
use Rattle.run_counts.specs.Counts.{counts_of}

-- counts of runs, and what the runs said
pub record Told : Type 0 where
  pub counts : DataValue
  pub text : List ℕ

-- why the data of a run can't be merged into old counts, where it is to be
abbrev pub fault_where : Bool → DataValue → DataValue → Option MergeFault
fault_where true old run = merge_fault old run
fault_where false old run = None

-- the counts with those of a run, where it is merged
abbrev pub added_where : Bool → DataValue → DataValue → DataValue
added_where true old run = added old run
added_where false old run = old

-- the data of a run was merged where it was to be; or it can't be, or memory ran out, and the old counts are left
abbrev pub MergesWhere :
    {T : Type 0} → Bool → DataValue → DataValue → DataValue → Result T (Refusal MergeFault) → Type 0
MergesWhere merged old run new (Ok x) = (fault_where merged old run ≡ None) × (new ≡ added_where merged old run)
MergesWhere merged old run new (Err (refusal.Refused fault)) = (fault_where merged old run ≡ Some fault) × (new ≡ old)
MergesWhere merged old run new (Err refusal.NoMemory) = new ≡ old

-- why the counts of a run can't be merged: one that isn't closed is never to be
abbrev pub run_fault : CodeValue → Ran → DataValue → Option MergeFault
run_fault c ran old = fault_where (is_closed ran.ending) old (counts_of c ran.tally)

-- what a run leaves: its counts are added where it is closed, and its text stands behind what was said before
abbrev pub told_by : CodeValue → List ℕ → Ran → Told → Told
told_by c name ran old = record {
  counts = added_where (is_closed ran.ending) old.counts (counts_of c ran.tally);
  text = old.text ++ run_text name ran.ending ran.output;
}

-- An answer tells the ending of a run that has left what it leaves; or why its counts can't be merged, or that memory
-- ran out, and nothing has changed.
abbrev pub Tells : CodeValue → List ℕ → Ran → Told → Told → Result Outcome (Refusal MergeFault) → Type 0
Tells c name ran old new (Ok ending) =
    (ending ≡ ran.ending) × (run_fault c ran old.counts ≡ None) × (new ≡ told_by c name ran old)
Tells c name ran old new (Err (refusal.Refused fault)) = (run_fault c ran old.counts ≡ Some fault) × (new ≡ old)
Tells c name ran old new (Err refusal.NoMemory) = new ≡ old
