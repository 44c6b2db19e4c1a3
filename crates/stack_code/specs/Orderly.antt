-- What a unit's graphs have, so that their code passes the checks.
use Rattle.std.specs.Prelude.{◌≡◌, ℕ, ◌+◌, ◌-◌, ◌<◌, ◌≤◌, true, false, List, [], ◌∷◌, length, Some, slice_get}
use Rattle.stack_ops.specs.declared.operation.Op.{Op}
use Rattle.stack_ops.specs.Shapes.{takes, gives}
use Rattle.flow_graph.specs.Graph.{Ending, Block, Graph, GraphUnit}
use Rattle.flow_graph.specs.Nets.{targets, among}
use Rattle.fake_arcs.specs.Tidy.{IsWellMade}
use Rattle.lower_agrees.specs.Agreement.{is_back}
use Rattle.operand_depths.specs.Depths.{Steady}

-- An ending of the block at this place leads to blocks behind it, but an arc back to it or to one before it.
pub record GoesOn (place : ℕ) (end : Ending) : Type 0 where
  pub up : is_back end ≡ false → (t : ℕ) → among t (targets end) ≡ true → 2 + place < t
  pub back : is_back end ≡ true → (t : ℕ) → among t (targets end) ≡ true → t ≤ 2 + place

-- a block before the one at this place leads to it, and not by an arc back
pub record IsEntered (blocks : List Block) (place : ℕ) : Type 0 where
  pub from : ℕ
  pub lower : from < place
  pub block : Block
  pub there : slice_get blocks from ≡ Some block
  pub ahead : is_back block.end ≡ false
  pub leads : among (2 + place) (targets block.end) ≡ true

-- A graph is well made, its blocks begin with one number of operands each, its arcs go on, and each block but the first
-- is entered from one before it.
pub record IsOrderly (u : GraphUnit) (g : Graph) : Type 0 where
  pub made : IsWellMade g
  pub steady : Steady u g
  pub on : (k : ℕ) (b : Block) → slice_get g.blocks k ≡ Some b → GoesOn k b.end
  pub entered : (k : ℕ) → 0 < k → k < length g.blocks → IsEntered g.blocks k

-- from so many operands on, so many at most stand at once while these operations are done
abbrev pub FitWithin : ℕ → ℕ → List Op → Type 0
FitWithin most depth [] = depth ≤ most
FitWithin most depth (o ∷ ops) = (depth ≤ most) × FitWithin most (depth - takes o + gives o) ops

-- so many operands at most stand at once in a graph
abbrev pub IsDeepEnough : (u : GraphUnit) (g : Graph) → Steady u g → ℕ → Type 0
IsDeepEnough u g steady most =
    (k : ℕ) (b : Block) → slice_get g.blocks k ≡ Some b → FitWithin most (steady.depths (2 + k)) b.ops

-- Each graph of a unit is orderly and has cells for its parameters, and its main function has no parameters and gives
-- a number.
pub record IsOrderlyUnit (u : GraphUnit) : Type 0 where
  pub main : Graph
  pub there : slice_get u.graphs u.main ≡ Some main
  pub bare : main.params ≡ 0
  pub gives : main.gives ≡ true
  pub params : (i : ℕ) (g : Graph) → slice_get u.graphs i ≡ Some g → g.params ≤ g.cells
  pub each : (i : ℕ) (g : Graph) → slice_get u.graphs i ≡ Some g → IsOrderly u g
