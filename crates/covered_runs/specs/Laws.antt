-- What the laws of covered runs say.
use Rattle.std.specs.Prelude.{◌≡◌, ◌≤◌, ℕ, true, List, Some, slice_get}
use Rattle.std.specs.List.{All}
use Rattle.cov_base.specs.Limits.{unit_limit}
use Rattle.cov_base.specs.Walks.{Walk, GoesAlong}
use Rattle.stack_ops.specs.Code.{FunctionValue, CodeValue}
use Rattle.code_runs.specs.CodeRun.{Ran, CodeRun}
use Rattle.code_runs.specs.Limits.{number_limit}
use Rattle.code_runs.specs.Sound.{Sound}
use Rattle.flow_graph.specs.Graph.{Graph, GraphUnit}
use Rattle.flow_graph.specs.Nets.{net_of, size_of}
use Rattle.flow_graph.specs.WalkRun.{Walked, WalkRun, IsClosed}
use Rattle.stack_code.specs.Laws.{AreWellMade}
use Rattle.stack_code.specs.Modes.{ShapeValue}
use Rattle.stack_code.specs.Orderly.{IsOrderlyUnit}
use Rattle.stack_code.specs.UnitCode.{table_limit, tables_size, total, unit_code}
use Rattle.covered_runs.specs.CallWords.{words_by, IsWhole}
use Rattle.covered_runs.specs.CoveredWalks.{IsCounted, HasShapes, ListsPrimes}

-- After any run of a sound code the path words of each function are what the word rules make of what its calls marked,
-- call by call, though calls run within others.
abbrev pub WordsAreMarks : Type 0
WordsAreMarks =
    (c : CodeValue) → Sound c → (input : List ℕ) (turns : ℕ) (ran : Ran) → CodeRun c input turns ran
    → (i : ℕ) (f : FunctionValue) → slice_get c.functions i ≡ Some f
    → slice_get ran.tally.words i ≡ Some (words_by f i ran.tally.marks)

-- After any run of a sound code there are counters and path words for each function.
abbrev pub TalliesAreWhole : Type 0
TalliesAreWhole =
    (c : CodeValue) → Sound c → (input : List ℕ) (turns : ℕ) (ran : Ran) → CodeRun c input turns ran
    → IsWhole c ran.tally

-- the walk goes along arcs of the net of its function
abbrev pub GoesInItsNet : GraphUnit → Walk → Type 0
GoesInItsNet u w = (g : Graph) → slice_get u.graphs w.function ≡ Some g → GoesAlong (net_of g).arcs w.blocks

-- So do all walks of a run of a unit, however it ends.
abbrev pub WalksGoAlongArcs : Type 0
WalksGoAlongArcs =
    (u : GraphUnit) → AreWellMade u → (input : List ℕ) (turns : ℕ) (walked : Walked) → WalkRun u input turns walked
    → All (GoesInItsNet u) walked.walks

-- Where the run of a unit is closed, the run of its covered code has counted what its walks passed: each counter is the
-- number of passages of its arc, and the path words of a function with rows of its prime paths have the bits of just
-- those that some walk of it contains.
abbrev pub ClosedRunsAreCounted : Type 0
ClosedRunsAreCounted =
    (u : GraphUnit) (shapes : List ShapeValue) (stamp : ℕ) → IsOrderlyUnit u → HasShapes u shapes
    → (input : List ℕ) (turns : ℕ) (walked : Walked) (ran : Ran) → WalkRun u input turns walked
    → IsClosed walked.ending → CodeRun (unit_code true u shapes stamp) input turns ran
    → (i : ℕ) (s : ShapeValue) (g : Graph) → slice_get u.graphs i ≡ Some g → slice_get shapes i ≡ Some s
    → IsCounted s i walked.walks ran.tally

-- Where the unit is within its limit and the tables of its shapes within theirs, so are the counters and path words of
-- its code: each path word has an entry in some row.
abbrev pub NumbersAreFew : Type 0
NumbersAreFew =
    (u : GraphUnit) (shapes : List ShapeValue) (stamp : ℕ) → HasShapes u shapes
    → ((i : ℕ) (s : ShapeValue) → slice_get shapes i ≡ Some s → ListsPrimes s s.rows) → size_of u ≤ unit_limit
    → tables_size shapes ≤ table_limit → total (unit_code true u shapes stamp).functions ≤ number_limit
