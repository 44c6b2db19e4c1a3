-- What the layers above cite of a source's pruned graphs: their code passes the checks, and is within the limits.
use Rattle.std.specs.Prelude.{◌≡◌, ℕ, ◌+◌, ◌<◌, ◌≤◌, true, ℤ, length, Some, None, slice_get}
use Rattle.cov_base.specs.Limits.{parameter_limit, array_limit, block_limit, arc_limit}
use Rattle.c_tree.specs.Typed.{Typed}
use Rattle.c_tree.specs.Sound.{Sound, Each}
use Rattle.code_runs.specs.Limits.{cell_limit, instruction_limit}
use Rattle.code_runs.specs.CodeChecks.{is_number, number_there}
use Rattle.flow_graph.specs.Graph.{Ending, Block, Graph, GraphUnit}
use Rattle.flow_graph.specs.Nets.{among, reached, net_of, size_of, pruned}
use Rattle.fake_arcs.specs.Size.{size_fault}
use Rattle.c_lower.specs.Lowered.{unit_of}
use Rattle.c_lower.specs.Refusals.{lower_fault}
use Rattle.operand_depths.specs.Laws.{IsGraphOf}
use Rattle.stack_code.specs.Orderly.{GoesOn, IsEntered, IsOrderlyUnit}

-- the number of each case of a switch lies from -2^63 to 2^64 - 1
abbrev pub HasCaseNumbers : Ending → Type 0
HasCaseNumbers (Ending.Switch cases default) = Each (λ (c : ℤ × ℕ). is_number c.0 ≡ true) cases
HasCaseNumbers end = Unit {0}

-- A block is entered from one before it, not by an arc back, and block 2 reaches that one.
pub record IsReachedAhead (g : Graph) (place : ℕ) : Type 0 where
  pub entered : IsEntered g.blocks place
  pub is_reached : among (2 + entered.from) (reached g.blocks) ≡ true

-- Each arc of a graph goes to a block behind its own, but an arc back to its own or to one before it; cases are
-- numbers; and each block that block 2 reaches, but the first, is entered from one before it that it reaches too.
pub record GoesWell (g : Graph) : Type 0 where
  pub on : (k : ℕ) (b : Block) → slice_get g.blocks k ≡ Some b → GoesOn k b.end
  pub numbers : (k : ℕ) (b : Block) → slice_get g.blocks k ≡ Some b → HasCaseNumbers b.end
  pub entered : (k : ℕ) → 0 < k → among (2 + k) (reached g.blocks) ≡ true → IsReachedAhead g k

-- So it is in each graph of every sound source.
abbrev pub EachGraphGoesWell : Type 0
EachGraphGoesWell = (source : Typed) → Sound source → (g : Graph) → IsGraphOf (unit_of source) g → GoesWell g

-- The pruned graphs of every sound source are an orderly unit.
abbrev pub EachSourceIsOrderly : Type 0
EachSourceIsOrderly = (source : Typed) → Sound source → IsOrderlyUnit (pruned (unit_of source))

-- the operations of a block and the cases of its switch have numbers from -2^63 to 2^64 - 1
pub record HasNumbers (b : Block) : Type 0 where
  pub operations : Each (λ o. number_there o ≡ true) b.ops
  pub cases : HasCaseNumbers b.end

-- A graph is within the limits of a function's code and of its net.
pub record IsWithin (g : Graph) : Type 0 where
  pub params : g.params ≤ parameter_limit
  pub cells : g.cells ≤ cell_limit
  pub few : 2 + length g.blocks ≤ block_limit
  pub arcs : length ((net_of g).arcs) ≤ arc_limit
  pub numbers : (k : ℕ) (b : Block) → slice_get g.blocks k ≡ Some b → HasNumbers b

-- A unit is within the limits of a code: its globals, its size, which no code of it passes, and each of its graphs.
pub record LimitsHold (u : GraphUnit) : Type 0 where
  pub globals : length u.globals ≤ array_limit
  pub numbers : Each (λ n. is_number n ≡ true) u.globals
  pub size : size_of u ≤ instruction_limit
  pub each : (i : ℕ) (g : Graph) → slice_get u.graphs i ≡ Some g → IsWithin g

-- So are the pruned graphs of every sound source that lowering and pruning don't refuse.
abbrev pub EachSourceIsWithin : Type 0
EachSourceIsWithin = (source : Typed) → Sound source → lower_fault source ≡ None → size_fault (unit_of source) ≡ None
    → LimitsHold (pruned (unit_of source))
