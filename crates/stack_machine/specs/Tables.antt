-- What the rows of a table are, so that a walk can take them.
use Rattle.std.specs.Prelude.{ℕ, ◌<◌, ◌≤◌, ◌≡◌, List, length, drop, All, Some, slice_get}
use Rattle.word_rules.specs.WordRules.{begin_row, pass_row}
use Rattle.stack_ops.specs.Code.{FunctionValue}
use Rattle.code_runs.specs.Tables.{row_length, front_row, begin_of, behind_row, passes_from, words_in}

-- the first row of a table is there whole, and its words are among so many
abbrev pub BeginFits : ℕ → List ℕ → Type 0
BeginFits words table = (0 < length table) × (row_length 3 table ≤ length table) × All (λ e. e.word < words) (begin_row (begin_of table))

-- the same of a row of an arc that stands first
abbrev pub PassFits : ℕ → List ℕ → Type 0
PassFits words table =
    (0 < length table) × (row_length 4 table ≤ length table) × All (λ e. e.word < words) (pass_row (front_row 4 table))

-- the same of all rows of a function that has paths
pub record TableFits (f : FunctionValue) : Type 0 where
  pub begin : 0 < f.paths → BeginFits (words_in f.paths) f.table
  pub passes :
      0 < f.paths → (w : ℕ) → w < f.passes → PassFits (words_in f.paths) (passes_from w (behind_row 3 f.table))

-- the rows of a function's arcs start in these places of its table
abbrev pub StartsAt : FunctionValue → List ℕ → Type 0
StartsAt f starts =
    0 < f.paths → (w : ℕ) → w < f.passes
    → (start : ℕ) × (slice_get starts w ≡ Some start) × (drop start f.table ≡ passes_from w (behind_row 3 f.table))
