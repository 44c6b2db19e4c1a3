-- The code of a unit of graphs, and when it is refused.
use Rattle.std.specs.Prelude.{◌≡◌, ℕ, suc, ◌+◌, nat_lt, Bool, true, false, cond, List, [], ◌∷◌, length}
use Rattle.std.specs.Prelude.{Option, Some, None, Result, Ok, Err}
use Rattle.cov_base.specs.declared.refusal.Refusal.{Refusal}
use Rattle.cov_base.specs.declared.refusal.Refusal.TheVariants as refusal
use Rattle.stack_ops.specs.Code.{FunctionValue, CodeValue}
use Rattle.code_runs.specs.CodeChecks.{numbers_in}
use Rattle.flow_graph.specs.Graph.{Graph, GraphUnit}
use Rattle.fake_arcs.specs.Size.{counted}
use Rattle.path_masks.specs.Tables.{RowsValue, rows_in, table_seen}
use Rattle.stack_code.specs.Deepest.{graph_depth}
use Rattle.stack_code.specs.Laying.{graph_code}
use Rattle.stack_code.specs.Modes.{ShapeValue, shape_marks, shape_of}
use Rattle.stack_code.specs.declared.shape.EmitFault.{EmitFault}
use Rattle.stack_code.specs.declared.shape.EmitFault.TheVariants as fault

-- how many rows `PathPass` may name
abbrev pub passes_in : Option RowsValue → ℕ
passes_in None = 0
passes_in (Some rows) = rows_in rows.passes

-- the rows one behind another
abbrev pub table_in : Option RowsValue → List ℕ
table_in None = []
table_in (Some rows) = table_seen rows

-- what a function counts
pub record Counts : Type 0 where
  pub checksum : ℕ
  pub counters : ℕ
  pub paths : ℕ
  pub passes : ℕ
  pub table : List ℕ

-- a function without a shape counts nothing; another has a counter for each arc that has one, and the rows of its paths
abbrev pub counts_by : Option ShapeValue → Counts
counts_by None = record { checksum = 0; counters = 0; paths = 0; passes = 0; table = [] }
counts_by (Some shape) = record {
  checksum = shape.checksum;
  counters = length shape.plan;
  paths = shape.paths;
  passes = passes_in shape.rows;
  table = table_in shape.rows;
}

-- the function of a graph among others, with the counters and paths of a shape, if it has one
abbrev pub function_code : List Graph → Graph → Option ShapeValue → FunctionValue
function_code graphs g shape = let counts : Counts = counts_by shape in record {
  params = g.params;
  cells = g.cells;
  depth = graph_depth graphs g;
  gives = g.gives;
  checksum = counts.checksum;
  counters = counts.counters;
  paths = counts.paths;
  passes = counts.passes;
  ops = graph_code (shape_marks shape) g;
  table = counts.table;
}

-- the functions of these graphs, the first of which has the number i
abbrev pub functions_from : Bool → List Graph → List ShapeValue → ℕ → List Graph → List FunctionValue
functions_from covered graphs shapes i [] = []
functions_from covered graphs shapes i (g ∷ gs) =
    function_code graphs g (shape_of covered shapes i) ∷ functions_from covered graphs shapes (suc i) gs

-- the code of a unit whose functions have these shapes, with a stamp, where it counts or doesn't
abbrev pub unit_code : Bool → GraphUnit → List ShapeValue → ℕ → CodeValue
unit_code covered u shapes stamp = record {
  stamp = stamp;
  covered = covered;
  main = u.main;
  globals = u.globals;
  functions = functions_from covered u.graphs shapes 0 u.graphs;
}

-- how many counters and path words functions have
abbrev pub total : List FunctionValue → ℕ
total [] = 0
total (f ∷ fs) = numbers_in f + total fs

-- ---- refusal

-- how many numbers the tables of shapes have, all together
abbrev pub tables_size : List ShapeValue → ℕ
tables_size [] = 0
tables_size (shape ∷ shapes) = length (table_in shape.rows) + tables_size shapes

-- the numbers of all tables of a code
abbrev pub table_limit : ℕ
table_limit = 2097152

-- the fault of so many numbers of tables, where they are more than the limit
abbrev pub size_fault : ℕ → Option EmitFault
size_fault n = cond (nat_lt table_limit n) (Some (fault.TablesTooLarge (counted n))) None

-- the fault of the shapes of a code that counts: their tables are too large
abbrev pub tables_fault : Bool → List ShapeValue → Option EmitFault
tables_fault false shapes = None
tables_fault true shapes = size_fault (tables_size shapes)

-- the code of the unit, where no fault stands, or else the fault; want of memory says nothing
abbrev pub MakesCode :
    Bool → GraphUnit → List ShapeValue → ℕ → Result CodeValue (Refusal EmitFault) → Type 0
MakesCode covered u shapes stamp (Ok code) =
    (code ≡ unit_code covered u shapes stamp) × (tables_fault covered shapes ≡ None)
MakesCode covered u shapes stamp (Err (refusal.Refused found)) = tables_fault covered shapes ≡ Some found
MakesCode covered u shapes stamp (Err refusal.NoMemory) = Unit {0}
