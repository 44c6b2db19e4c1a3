-- What stands on the arcs of functions: nothing; or a counter on each arc off the spanning tree and, where the function
-- has rows, behind it what begins its paths or goes on with them.
use Rattle.std.specs.Prelude.{◌≡◌, ℕ, ◌<◌, ◌≤◌, ◌==◌, ◌&&◌, Bool, true, false, cond, List, [], ◌∷◌, ◌++◌, length, Option}
use Rattle.std.specs.Prelude.{Some, None, slice_get}
use Rattle.std.specs.List.{position}
use Rattle.cov_base.specs.Net.{NetValue, IsNet, joins}
use Rattle.stack_ops.specs.declared.operation.Op.{Op}
use Rattle.stack_ops.specs.declared.operation.Op.TheVariants as op
use Rattle.span_tree.specs.Tree.{off}
use Rattle.arc_counters.specs.Plan.{counter_from}
use Rattle.code_runs.specs.Limits.{path_limit}
use Rattle.path_masks.specs.Tables.{RowsValue, AreRows, number_at}

-- the net of a function, the arcs of it that have counters, the rows of its listed paths if it has any, how many paths
-- are listed, and the checksum of the net
pub record ShapeValue : Type 0 where
  pub net : NetValue
  pub plan : List ℕ
  pub rows : Option RowsValue
  pub paths : ℕ
  pub checksum : ℕ

-- the rows are those of the net's arcs and of so many paths, of which there are some
pub record AreRowsOf (net : NetValue) (count : ℕ) (rows : RowsValue) : Type 0 where
  pub paths : List (List ℕ)
  pub rows_are : AreRows net.arcs paths rows
  pub count_is : count ≡ length paths
  pub some : 0 < count
  pub few : count ≤ path_limit

-- no paths are listed where there are no rows; otherwise the rows are those of so many paths
abbrev pub HasRows : NetValue → ℕ → Option RowsValue → Type 0
HasRows net count None = count ≡ 0
HasRows net count (Some rows) = AreRowsOf net count rows

-- the counters of a net are those of the arcs off its tree, and its rows those of its listed paths
pub record IsShape (shape : ShapeValue) : Type 0 where
  pub net : IsNet shape.net
  pub plan : shape.plan ≡ off shape.net
  pub rows : HasRows shape.net shape.paths shape.rows

-- the counter of an arc, where there is such an arc and it has one
abbrev pub counter_of : List ℕ → Option ℕ → Option ℕ
counter_of plan None = None
counter_of plan (Some arc) = counter_from 0 plan arc

-- a counter's operation, where there is one
abbrev pub counting : Option ℕ → List Op
counting None = []
counting (Some n) = op.Count n ∷ []

-- the number of the row of an arc, where there is such an arc and it has one
abbrev pub row_of : List (Option (List ℕ)) → Option ℕ → Option ℕ
row_of passes None = None
row_of passes (Some arc) = number_at passes arc

-- a row's operation, where there is one
abbrev pub passing : Option ℕ → List Op
passing None = []
passing (Some n) = op.PathPass n ∷ []

-- what becomes of paths on an arc, where a function has rows: on the one from the entry to block 2 they begin, and on
-- one that has a row they go on by it
abbrev pub tracing : Option RowsValue → Option ℕ → ℕ → ℕ → List Op
tracing None arc a b = []
tracing (Some rows) arc a b = cond ((a == 0) && (b == 2)) (op.PathBegin ∷ []) (passing (row_of rows.passes arc))

-- what stands on the arc from one block to another where arcs off the tree are counted and paths marked
abbrev pub covered_marks : ShapeValue → ℕ → ℕ → List Op
covered_marks shape a b = let arc : Option ℕ = position (joins a b) shape.net.arcs in
    counting (counter_of shape.plan arc) ++ tracing shape.rows arc a b

-- what stands on it where nothing is counted
abbrev pub plain_marks : ℕ → ℕ → List Op
plain_marks a b = []

-- the marks of a function with this shape, if it has one
abbrev pub shape_marks : Option ShapeValue → ℕ → ℕ → List Op
shape_marks None = plain_marks
shape_marks (Some shape) = covered_marks shape

-- the shape by which a function of a code is made: none where the code counts nothing
abbrev pub shape_of : Bool → List ShapeValue → ℕ → Option ShapeValue
shape_of false shapes i = None
shape_of true shapes i = slice_get shapes i

-- what stands on the arcs of each function of a unit with these shapes, where it counts or doesn't
abbrev pub unit_marks : Bool → List ShapeValue → ℕ → ℕ → ℕ → List Op
unit_marks covered shapes i = shape_marks (shape_of covered shapes i)
