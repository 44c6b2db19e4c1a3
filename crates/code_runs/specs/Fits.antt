-- Points of a run at which each call has just the operands that its function has at its instruction.
use Rattle.std.specs.Prelude.{◌≡◌, ℕ, ◌+◌, List, [], ◌∷◌, length, Some, slice_get}
use Rattle.stack_ops.specs.Code.{FunctionValue, CodeValue}
use Rattle.stack_ops.specs.Shapes.{given_by}
use Rattle.code_runs.specs.CodeRun.{Waiting, Point}
use Rattle.code_runs.specs.Sound.{Typed}

-- A call of the function f waits at an instruction that has the operands which it will have once the call above it, of
-- the function g, has ended.
pub record WaitsAt (c : CodeValue) (g : FunctionValue) (w : Waiting) (f : FunctionValue) : Type 0 where
  pub there : slice_get c.functions w.function ≡ Some f
  pub depths : List ℕ
  pub typed : Typed c f depths
  pub at : slice_get depths w.at ≡ Some (length w.operands + given_by g)
  pub cells : length w.cells ≡ f.cells

-- all calls that wait do so, the innermost for one of the function g
abbrev pub Waits : CodeValue → FunctionValue → List Waiting → Type 0
Waits c g [] = Unit {0}
Waits c g (w ∷ ws) = (f : FunctionValue) × WaitsAt c g w f × Waits c f ws

-- the innermost call, of the function f, is at an instruction that has just its operands
pub record FitsIn (c : CodeValue) (f : FunctionValue) (depths : List ℕ) (p : Point) : Type 0 where
  pub there : slice_get c.functions p.function ≡ Some f
  pub typed : Typed c f depths
  pub at : slice_get depths p.at ≡ Some (length p.operands)
  pub cells : length p.cells ≡ f.cells
  pub globals : length p.globals ≡ length c.globals
  pub waits : Waits c f p.callers

-- the innermost call is of some function, and at such an instruction
pub record Fits (c : CodeValue) (p : Point) : Type 0 where
  pub function : FunctionValue
  pub depths : List ℕ
  pub fits : FitsIn c function depths p
