-- What a report is written from.
use Rattle.std.specs.Prelude.{ℕ, List}
use Rattle.function_tallies.specs.Tally.{FunctionTallyValue}

-- the number of runs, and the tally of each function
pub record TallyValue : Type 0 where
  pub runs : ℕ
  pub functions : List FunctionTallyValue
