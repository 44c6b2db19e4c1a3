-- What contracts see of a machine.
use Rattle.std.specs.Prelude.{ℕ, ◌≡◌, List, [], map, replicate}
use Rattle.stack_ops.specs.declared.endings.Outcome.{Outcome}
use Rattle.stack_ops.specs.Code.{CodeValue}
use Rattle.code_runs.specs.CodeRun.{Ran}
use Rattle.code_runs.specs.Tables.{words_in}

-- the code of a machine, the turns of each run, and the output, the counters and the path words of the last run, by
-- function
pub record MachineValue : Type 0 where
  pub code : CodeValue
  pub turns : ℕ
  pub output : List ℕ
  pub counters : List (List ℕ)
  pub words : List (List ℕ)

-- a machine that has not run
abbrev pub at_rest : CodeValue → ℕ → MachineValue
at_rest c turns = record {
  code = c;
  turns = turns;
  output = [];
  counters = map (λ f. replicate f.counters 0) c.functions;
  words = map (λ f. replicate (words_in f.paths) 0) c.functions;
}

-- an answer and a machine show what a run comes to
pub record Shows (ran : Ran) (answer : Outcome) (m : MachineValue) : Type 0 where
  pub ending : answer ≡ ran.ending
  pub output : m.output ≡ ran.output
  pub counters : m.counters ≡ ran.tally.counters
  pub words : m.words ≡ ran.tally.words
