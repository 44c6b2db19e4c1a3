-- What a machine has for its code.
use Rattle.std.specs.Prelude.{ℕ, ◌≡◌, ◌≤◌, ◌^◌, List, length, None}
use Rattle.cov_base.specs.Limits.{output_limit}
use Rattle.stack_ops.specs.Code.{CodeValue}
use Rattle.code_runs.specs.CodeChecks.{code_fault}
use Rattle.stack_machine.specs.declared.run.Run.{Run}
use Rattle.stack_machine.specs.Points.{counters_of, words_of}
use Rattle.stack_machine.specs.Held.{Sized, Roomy, RowsStart}

-- The code breaks no rule, the turns are few, the rows start where they are held to, and there is room for runs and for
-- so many bytes of output.
pub record Serves (c : CodeValue) (turns : ℕ) (rows : List (List ℕ)) (r : Run) (room : ℕ) : Type 0 where
  pub checked : code_fault c ≡ None
  pub few : turns ≤ 2 ^ 40
  pub rows_start : RowsStart c rows
  pub roomy : Roomy c r
  pub globals : length r.globals ≡ length c.globals
  pub sized : Sized c (counters_of r.counts.items) (words_of r.counts.items)
  pub output : output_limit ≤ room
