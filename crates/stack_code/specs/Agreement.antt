-- What comes of a code beside what comes of the unit that it is a code of.
use Rattle.std.specs.Prelude.{◌≡◌, ℕ, List, [], ◌∷◌, ◌++◌, map}
use Rattle.cov_base.specs.Walks.{Walk}
use Rattle.stack_ops.specs.declared.operation.Op.{Op}
use Rattle.code_runs.specs.CodeRun.{Marked, Ran}
use Rattle.flow_graph.specs.WalkRun.{Walked, IsClosed}

-- the marks on the arcs from a block along a walk that goes on so
abbrev pub along_from : (ℕ → ℕ → List Op) → ℕ → List ℕ → List Op
along_from marks a [] = []
along_from marks a (b ∷ bs) = marks a b ++ along_from marks b bs

-- the marks on the arcs of a walk, in order
abbrev pub along : (ℕ → ℕ → List Op) → List ℕ → List Op
along marks [] = []
along marks (a ∷ bs) = along_from marks a bs

-- what the call of a walk marks, with the function that it is of
abbrev pub marks_of : (ℕ → ℕ → ℕ → List Op) → Walk → Marked
marks_of marks w = record { function = w.function; ops = along (marks w.function) w.blocks }

-- What comes of the code is what comes of the unit: its output, its ending, and in a closed run the marks of each call.
pub record Agrees (marks : ℕ → ℕ → ℕ → List Op) (walked : Walked) (ran : Ran) : Type 0 where
  pub output : ran.output ≡ walked.output
  pub ending : ran.ending ≡ walked.ending
  pub told : IsClosed walked.ending → ran.tally.marks ≡ map (marks_of marks) walked.walks
