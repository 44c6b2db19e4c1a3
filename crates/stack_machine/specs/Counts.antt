-- What contracts see of the counts of a function.
use Rattle.std.specs.Prelude.{ℕ, List, length, replicate}
use Rattle.stack_ops.specs.Code.{FunctionValue}
use Rattle.code_runs.specs.Tables.{words_in}

-- the counters of a function, and its path words
pub record CountsValue : Type 0 where
  pub counters : List ℕ
  pub words : List ℕ

-- those of a function that was not run
abbrev pub zeros_of : FunctionValue → CountsValue
zeros_of f = record { counters = replicate f.counters 0; words = replicate (words_in f.paths) 0 }

-- as many, all 0
abbrev pub cleared : CountsValue → CountsValue
cleared v = record { counters = replicate (length v.counters) 0; words = replicate (length v.words) 0 }
