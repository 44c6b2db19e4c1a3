-- What the layers above cite of the code of a unit: it runs as the unit does, and its instructions keep the rules.
use Rattle.std.specs.Prelude.{◌≡◌, ◌≤◌, ℕ, Bool, true, false, length, List, [], Some, None, slice_get}
use Rattle.stack_ops.specs.Code.{FunctionValue, CodeValue}
use Rattle.stack_ops.specs.declared.operation.Op.{Op}
use Rattle.code_runs.specs.Checks.{broken}
use Rattle.code_runs.specs.CodeChecks.{code_fault}
use Rattle.code_runs.specs.CodeRun.{Ran, CodeRun}
use Rattle.code_runs.specs.Counts.{sizes}
use Rattle.code_runs.specs.Limits.{number_limit}
use Rattle.code_runs.specs.Sound.{Sound}
use Rattle.flow_graph.specs.Graph.{Graph, GraphUnit}
use Rattle.flow_graph.specs.Nets.{size_of}
use Rattle.flow_graph.specs.WalkRun.{Walked, WalkRun}
use Rattle.fake_arcs.specs.Tidy.{IsWellMade}
use Rattle.operand_depths.specs.Depths.{depth_limit}
use Rattle.stack_code.specs.Agreement.{Agrees}
use Rattle.stack_code.specs.Checked.{IsUnitCode, Marks}
use Rattle.stack_code.specs.Deepest.{graph_depth}
use Rattle.stack_code.specs.Emits.{LaidOut, AreMarks, Emits}
use Rattle.stack_code.specs.Fitting.{FitsCode}
use Rattle.stack_code.specs.Laying.{starts, graph_code}
use Rattle.stack_code.specs.Modes.{ShapeValue, IsShape, covered_marks, shape_of, unit_marks}
use Rattle.stack_code.specs.Orderly.{IsOrderly, IsDeepEnough, IsOrderlyUnit}
use Rattle.stack_code.specs.UnitCode.{passes_in, total, unit_code}

-- each graph of a unit is well made
abbrev pub AreWellMade : GraphUnit → Type 0
AreWellMade u = (i : ℕ) (g : Graph) → slice_get u.graphs i ≡ Some g → IsWellMade g

-- The run of the code comes to what the walk run came to.
pub record Follows (marks : ℕ → ℕ → ℕ → List Op) (c : CodeValue) (input : List ℕ) (turns : ℕ) (walked : Walked) :
    Type 0 where
  pub ran : Ran
  pub comes : CodeRun c input turns ran
  pub agrees : Agrees marks walked ran

-- So it is for every code of a unit, whatever marks stand on its arcs, on every input and with every number of turns.
abbrev pub EmittedCodeFollows : Type 0
EmittedCodeFollows = (marks : ℕ → ℕ → ℕ → List Op) (u : GraphUnit) (c : CodeValue) → Emits marks u c → AreWellMade u
    → (input : List ℕ) (turns : ℕ) (walked : Walked) → WalkRun u input turns walked
    → Follows marks c input turns walked

-- The layout lays every graph out, whatever marks stand on its arcs.
abbrev pub EachGraphIsLaidOut : Type 0
EachGraphIsLaidOut =
    (marks : ℕ → ℕ → List Op) (g : Graph) → LaidOut (starts marks g) marks g (graph_code marks g)

-- at most three marks stand on an arc
abbrev pub AreShort : (ℕ → ℕ → List Op) → Type 0
AreShort marks = (a b : ℕ) → length (marks a b) ≤ 3

-- Marks on the arcs of each function are nothing but marks, few on each, and none on the arcs into the exit.
pub record AreArcMarks (marks : ℕ → ℕ → ℕ → List Op) : Type 0 where
  pub are_marks : (i a b : ℕ) → AreMarks (marks i a b)
  pub exit : (i a : ℕ) → marks i a 1 ≡ []
  pub short : (i : ℕ) → AreShort (marks i)

-- So the code by the layout is a code of its unit.
abbrev pub LaidCodeIsEmitted : Type 0
LaidCodeIsEmitted = (marks : ℕ → ℕ → ℕ → List Op) (u : GraphUnit) (c : CodeValue) → IsUnitCode marks u c
    → AreArcMarks marks → Emits marks u c

-- The instructions of a function of that code break no rule, where its graph is orderly, its marks name counters and
-- rows that are there, and its depth is enough.
abbrev pub LaidCodePasses : Type 0
LaidCodePasses = (marks : ℕ → ℕ → ℕ → List Op) (u : GraphUnit) (c : CodeValue) → IsUnitCode marks u c
    → (i : ℕ) (g : Graph) (f : FunctionValue) → slice_get u.graphs i ≡ Some g → slice_get c.functions i ≡ Some f
    → (orderly : IsOrderly u g) → ((a b : ℕ) → Marks f (marks i a b)) → IsDeepEnough u g orderly.steady f.depth
    → broken c f ≡ None

-- The code has no more instructions than the unit's size.
abbrev pub LaidCodeIsShort : Type 0
LaidCodeIsShort = (marks : ℕ → ℕ → ℕ → List Op) (u : GraphUnit) (c : CodeValue) → IsUnitCode marks u c
    → AreArcMarks marks → sizes c.functions ≤ size_of u

-- each shape by which a code counts is one of its net; a code that counts nothing has none
abbrev pub AreShapesOf : Bool → List ShapeValue → Type 0
AreShapesOf covered shapes = (i : ℕ) (s : ShapeValue) → shape_of covered shapes i ≡ Some s → IsShape s

-- What stands on arcs in the two modes is such marks.
abbrev pub ModesOnlyMark : Type 0
ModesOnlyMark =
    (covered : Bool) (shapes : List ShapeValue) → AreShapesOf covered shapes → AreArcMarks (unit_marks covered shapes)

-- a function has the counters, the paths and the rows of a shape
pub record CountsBy (shape : ShapeValue) (f : FunctionValue) : Type 0 where
  pub counters : f.counters ≡ length shape.plan
  pub paths : f.paths ≡ shape.paths
  pub passes : f.passes ≡ passes_in shape.rows

-- Where a function has the counters and rows of its shape, its marks name counters and rows that are there.
abbrev pub MarksAreThere : Type 0
MarksAreThere = (shape : ShapeValue) (f : FunctionValue) → IsShape shape → CountsBy shape f → (a b : ℕ)
    → Marks f (covered_marks shape a b)

-- the counted depth of an orderly graph is enough for it, and within the limit
pub record IsCounted (u : GraphUnit) (g : Graph) (orderly : IsOrderly u g) : Type 0 where
  pub enough : IsDeepEnough u g orderly.steady (graph_depth u.graphs g)
  pub low : graph_depth u.graphs g ≤ depth_limit

-- So it is for every orderly graph.
abbrev pub CountedDepthIsEnough : Type 0
CountedDepthIsEnough = (u : GraphUnit) (g : Graph) (orderly : IsOrderly u g) → IsCounted u g orderly

-- the functions of a code have the counters and rows that their marks name, and the depth that is counted in their
-- graphs
pub record SuitsUnit (marks : ℕ → ℕ → ℕ → List Op) (u : GraphUnit) (c : CodeValue) : Type 0 where
  pub marked : (i : ℕ) (f : FunctionValue) → slice_get c.functions i ≡ Some f → (a b : ℕ) → Marks f (marks i a b)
  pub depth : (i : ℕ) (g : Graph) (f : FunctionValue) → slice_get u.graphs i ≡ Some g
      → slice_get c.functions i ≡ Some f → f.depth ≡ graph_depth u.graphs g

-- The code of an orderly unit by the layout is sound: so it is never stuck, and each of its runs ends.
abbrev pub LaidCodeIsSound : Type 0
LaidCodeIsSound = (marks : ℕ → ℕ → ℕ → List Op) (u : GraphUnit) (c : CodeValue) → IsUnitCode marks u c
    → IsOrderlyUnit u → SuitsUnit marks u c → Sound c

-- So the code of an orderly unit within the limits breaks no rule, where it counts nothing.
abbrev pub PlainCodePasses : Type 0
PlainCodePasses = (u : GraphUnit) (shapes : List ShapeValue) (stamp : ℕ) → IsOrderlyUnit u → FitsCode u
    → code_fault (unit_code false u shapes stamp) ≡ None

-- And where it counts by shapes of the nets, and the counters and path words of its functions are within their limit.
abbrev pub CoveredCodePasses : Type 0
CoveredCodePasses = (u : GraphUnit) (shapes : List ShapeValue) (stamp : ℕ) → IsOrderlyUnit u → FitsCode u
    → AreShapesOf true shapes → total (unit_code true u shapes stamp).functions ≤ number_limit
    → code_fault (unit_code true u shapes stamp) ≡ None
