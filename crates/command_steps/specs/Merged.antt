-- Data that are merged, and the answer where they can't be.
use Rattle.std.specs.Prelude.{◌≡◌, Some, None, Result, Ok, Err}
use Rattle.gcda_format.specs.Data.{DataValue}
use Rattle.run_merge.specs.Merging.{added, merge_fault}
use Rattle.run_merge.specs.declared.merging.MergeFault.{MergeFault}
use Rattle.run_merge.specs.declared.merging.MergeFault.TheVariants as fault
use Rattle.cov_answers.specs.declared.answers.End.{End}
use Rattle.cov_answers.specs.declared.answers.End.TheVariants as answer

-- the answer to why data can't be merged
abbrev pub answer_of : MergeFault → End
answer_of (fault.OtherBuild a b) = answer.OtherBuild a b
answer_of (fault.OtherShape function) = answer.OtherShape function
answer_of fault.RunsPassed = answer.RunsPassed
answer_of (fault.CountPassed function counter) = answer.CountPassed function counter

-- the data of both, or the answer to the first fault that stands
abbrev pub AreMerged : DataValue → DataValue → Result DataValue End → Type 0
AreMerged first second (Ok both) = (merge_fault first second ≡ None) × (both ≡ added first second)
AreMerged first second (Err end) = (found : MergeFault) × (merge_fault first second ≡ Some found) × (end ≡ answer_of found)

-- the first data became those of both; or they stand, and the answer is that to the first fault
abbrev pub Merged : {T : Type 0} → DataValue → DataValue → DataValue → Result T End → Type 0
Merged first second after (Ok done) = AreMerged first second (Ok after)
Merged first second after (Err end) = AreMerged first second (Err end) × (after ≡ first)
