-- What a unit has, beside its order, so that its code is within the limits of codes.
use Rattle.std.specs.Prelude.{◌≡◌, ℕ, ◌≤◌, ℤ, List, [], length, Some, slice_get}
use Rattle.cov_base.specs.Limits.{parameter_limit, array_limit, unit_limit}
use Rattle.int_ops.specs.Ranges.{IsNumber}
use Rattle.c_tree.specs.Sound.{Each}
use Rattle.code_runs.specs.Limits.{cell_limit}
use Rattle.flow_graph.specs.Graph.{Ending, Block, Graph, GraphUnit}
use Rattle.flow_graph.specs.Nets.{size_of}

-- the cases of an ending
abbrev pub cases_of : Ending → List (ℤ × ℕ)
cases_of (Ending.Switch cases default) = cases
cases_of end = []

-- A graph has no more parameters and cells than a function may have, and the values of its cases are numbers.
pub record FitsFunction (g : Graph) : Type 0 where
  pub params : g.params ≤ parameter_limit
  pub cells : g.cells ≤ cell_limit
  pub cases : (k : ℕ) (b : Block) → slice_get g.blocks k ≡ Some b → Each (λ c. IsNumber c.0) (cases_of b.end)

-- A unit has no more globals than a code may have, each of them a number, its graphs are within the limits of
-- functions, and its size is within its own.
pub record FitsCode (u : GraphUnit) : Type 0 where
  pub globals : length u.globals ≤ array_limit
  pub numbers : Each IsNumber u.globals
  pub graphs : (i : ℕ) (g : Graph) → slice_get u.graphs i ≡ Some g → FitsFunction g
  pub size : size_of u ≤ unit_limit
