-- Codes that the layout gives, and what their marks have, so that they pass the checks.
use Rattle.std.specs.Prelude.{◌≡◌, ℕ, true, List, [], ◌∷◌, length, Some, slice_get}
use Rattle.stack_ops.specs.declared.operation.Op.{Op}
use Rattle.stack_ops.specs.Code.{FunctionValue, CodeValue}
use Rattle.code_runs.specs.Checks.{counter_there, row_there}
use Rattle.flow_graph.specs.Graph.{Graph, GraphUnit}
use Rattle.stack_code.specs.Emits.{IsMark}
use Rattle.stack_code.specs.Laying.{graph_code}

-- the function that a graph has, laid out with these marks on its arcs
pub record IsCodeOf (marks : ℕ → ℕ → List Op) (g : Graph) (f : FunctionValue) : Type 0 where
  pub params : f.params ≡ g.params
  pub cells : f.cells ≡ g.cells
  pub gives : f.gives ≡ g.gives
  pub ops : f.ops ≡ graph_code marks g

-- the code of a unit, laid out with these marks on the arcs of each function
pub record IsUnitCode (marks : ℕ → ℕ → ℕ → List Op) (u : GraphUnit) (c : CodeValue) : Type 0 where
  pub main : c.main ≡ u.main
  pub globals : c.globals ≡ u.globals
  pub count : length c.functions ≡ length u.graphs
  pub functions : (i : ℕ) (g : Graph) → slice_get u.graphs i ≡ Some g
      → (f : FunctionValue) × (slice_get c.functions i ≡ Some f) × IsCodeOf (marks i) g f

-- an operation only marks, and its counter or row is one of the function's
pub record Mark (f : FunctionValue) (o : Op) : Type 0 where
  pub mark : IsMark o
  pub counter : counter_there f o ≡ true
  pub row : row_there f o ≡ true

-- so are all of these
abbrev pub Marks : FunctionValue → List Op → Type 0
Marks f [] = Unit {0}
Marks f (o ∷ os) = Mark f o × Marks f os
