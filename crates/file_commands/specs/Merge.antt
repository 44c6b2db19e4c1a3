-- What `merge A B OUT` does: it loads the data of A and those of B, adds them, and replaces those of OUT.
use Rattle.std.specs.Prelude.{ℕ, List, Option, Result}
use Rattle.cov_outside.specs.Outside.{Files}
use Rattle.gcda_format.specs.Data.{DataValue}
use Rattle.gcda_format.specs.Spelling.{data_bytes}
use Rattle.cov_answers.specs.declared.answers.End.{End}
use Rattle.command_steps.specs.Steps.{Then, Makes}
use Rattle.command_steps.specs.Files.{DataAt}
use Rattle.command_steps.specs.Merged.{AreMerged}

-- the steps from the data of both to the bytes of the merged data
abbrev pub AddSteps : DataValue → DataValue → Result (List ℕ) End → Type 0
AddSteps first second = Then (AreMerged first second) (λ both. Makes (data_bytes both))

-- the steps from the data of the first
abbrev pub SecondSteps : Option Files → List ℕ → DataValue → Result (List ℕ) End → Type 0
SecondSteps files b first = Then (DataAt files b) (AddSteps first)

-- the steps to the bytes of the merged data
abbrev pub MergeSteps : Option Files → List ℕ → List ℕ → Result (List ℕ) End → Type 0
MergeSteps files a b = Then (DataAt files a) (SecondSteps files b)
