-- When a code is laid out as a unit of graphs is, with marks on its arcs.
use Rattle.std.specs.Prelude.{◌≡◌, ℕ, suc, ◌+◌, ◌⊎◌, List, [], ◌∷◌, length, Some, slice_get}
use Rattle.stack_ops.specs.declared.operation.Op.{Op}
use Rattle.stack_ops.specs.declared.operation.Op.TheVariants as op
use Rattle.stack_ops.specs.Code.{FunctionValue, CodeValue}
use Rattle.flow_graph.specs.Graph.{Ending, Block, Graph, GraphUnit}

-- these stand in a list from a place on
abbrev pub Has : {A : Type 0} → List A → ℕ → List A → Type 0
Has xs at [] = Unit {0}
Has xs at (y ∷ ys) = (slice_get xs at ≡ Some y) × Has xs (suc at) ys

-- From a place on stand the marks of an arc, and behind them its block, or a jump to it.
pub record Lands (ops : List Op) (at : ℕ) (marks : List Op) (block : ℕ) : Type 0 where
  pub marked : Has ops at marks
  pub goes : (at + length marks ≡ block) ⊎ (slice_get ops (at + length marks) ≡ Some (op.Jump block))

-- the two ways of a test: to the place of the instruction if it goes there, and else behind it
pub record Splits (ops : List Op) (at : ℕ) (o : ℕ → Op) (near far : ℕ → Type 0) : Type 0 where
  pub way : ℕ
  pub test : slice_get ops at ≡ Some (o way)
  pub goes : far way
  pub on : near (suc at)

-- The ending of a block stands at a place; `start` gives where each block begins, `marks` what stands on the arc to
-- each.
abbrev pub Closes : List Op → (ℕ → ℕ) → (ℕ → List Op) → ℕ → Ending → Type 0
Closes ops start marks at (Ending.Jump t) = Lands ops at (marks t) (start t)
Closes ops start marks at (Ending.Back t) =
    Has ops at (marks t) × (slice_get ops (at + length (marks t)) ≡ Some (op.Back (start t)))
Closes ops start marks at (Ending.Branch t f) =
    Splits ops at op.IfZero (λ i. Lands ops i (marks t) (start t)) (λ i. Lands ops i (marks f) (start f))
    ⊎ Splits ops at op.IfNot (λ i. Lands ops i (marks f) (start f)) (λ i. Lands ops i (marks t) (start t))
Closes ops start marks at (Ending.Switch [] default) =
    (slice_get ops at ≡ Some op.Drop) × Lands ops (suc at) (marks default) (start default)
Closes ops start marks at (Ending.Switch (c ∷ cases) default) =
    Splits ops at (op.CaseJump c.0) (λ i. Closes ops start marks i (Ending.Switch cases default))
    (λ i. Lands ops i (marks c.1) (start c.1))
Closes ops start marks at (Ending.Call f line next) =
    (slice_get ops at ≡ Some (op.Call f line)) × Lands ops (suc at) (marks next) (start next)
Closes ops start marks at Ending.Return = slice_get ops at ≡ Some op.Return
Closes ops start marks at Ending.Exit = slice_get ops at ≡ Some op.Exit

-- A block stands where it begins: its operations, and behind them its ending.
pub record Stands (ops : List Op) (start : ℕ → ℕ) (marks : ℕ → List Op) (at : ℕ) (b : Block) : Type 0 where
  pub does : Has ops at b.ops
  pub ends : Closes ops start marks (at + length b.ops) b.end

-- the instructions of a graph, with marks on its arcs; `start` gives where each block begins
pub record LaidOut (start : ℕ → ℕ) (marks : ℕ → ℕ → List Op) (g : Graph) (ops : List Op) : Type 0 where
  pub first : Lands ops 0 (marks 0 2) (start 2)
  pub each : (k : ℕ) (b : Block) → slice_get g.blocks k ≡ Some b → Stands ops start (marks (2 + k)) (start (2 + k)) b

-- the function of the code that a graph has
pub record Carries (start : ℕ → ℕ) (marks : ℕ → ℕ → List Op) (g : Graph) (f : FunctionValue) : Type 0 where
  pub params : f.params ≡ g.params
  pub cells : f.cells ≡ g.cells
  pub gives : f.gives ≡ g.gives
  pub laid : LaidOut start marks g f.ops

-- operations that only mark
pub data IsMark : Op → Type 0 where
  count : (n : ℕ) → IsMark (op.Count n)
  begin : IsMark op.PathBegin
  pass : (w : ℕ) → IsMark (op.PathPass w)

-- each operation only marks
abbrev pub AreMarks : List Op → Type 0
AreMarks [] = Unit {0}
AreMarks (o ∷ os) = IsMark o × AreMarks os

-- A code of a unit. `marks` gives, for each function, what stands on its arcs; nothing stands on those into the exit.
pub record Emits (marks : ℕ → ℕ → ℕ → List Op) (u : GraphUnit) (c : CodeValue) : Type 0 where
  pub main : c.main ≡ u.main
  pub globals : c.globals ≡ u.globals
  pub start : ℕ → ℕ → ℕ
  pub functions : (i : ℕ) (g : Graph) → slice_get u.graphs i ≡ Some g
      → (f : FunctionValue) × (slice_get c.functions i ≡ Some f) × Carries (start i) (marks i) g f
  pub are_marks : (i a b : ℕ) → AreMarks (marks i a b)
  pub exit : (i a : ℕ) → marks i a 1 ≡ []
