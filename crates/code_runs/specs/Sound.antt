-- What the rules of a code come to: each instruction has one number of operands, and finds what it needs.
use Rattle.std.specs.Prelude.{◌≡◌, ℕ, suc, ◌<◌, ◌≤◌, true, List, length, Some, slice_get}
use Rattle.stack_ops.specs.declared.operation.Op.{Op}
use Rattle.stack_ops.specs.Code.{FunctionValue, CodeValue}
use Rattle.stack_ops.specs.Shapes.{takes_in}
use Rattle.code_runs.specs.Checks.{
  later,
  earlier,
  falls,
  left_by,
  behind,
  returns_well,
  cells_there,
  counter_there,
  row_there,
}

-- what holds of instruction i with d operands, in a function whose instructions have these depths
pub record Suits (c : CodeValue) (f : FunctionValue) (depths : List ℕ) (i : ℕ) (o : Op) (d : ℕ) : Type 0 where
  pub taken : takes_in c.functions f o ≤ d
  pub room : behind c.functions f o d ≤ f.depth
  pub on : falls o ≡ true → slice_get depths (suc i) ≡ Some (behind c.functions f o d)
  pub to : (w : ℕ) → later o ≡ Some w → (i < w) × (slice_get depths w ≡ Some (left_by o d))
  pub back : (w : ℕ) → earlier o ≡ Some w → (w ≤ i) × (slice_get depths w ≡ Some d)
  pub returned : returns_well f o d ≡ true
  pub cell : cells_there c f o ≡ true
  pub counter : counter_there f o ≡ true
  pub row : row_there f o ≡ true

-- depths of the instructions of a function, with which each of them keeps the rules
pub record Typed (c : CodeValue) (f : FunctionValue) (depths : List ℕ) : Type 0 where
  pub start : slice_get depths 0 ≡ Some 0
  pub size : length depths ≡ length f.ops
  pub within : (i : ℕ) (d : ℕ) → slice_get depths i ≡ Some d → d ≤ f.depth
  pub each :
      (i : ℕ) (o : Op) (d : ℕ) → slice_get f.ops i ≡ Some o → slice_get depths i ≡ Some d → Suits c f depths i o d

-- a function has cells for its parameters, and its instructions keep the rules
pub record Kept (c : CodeValue) (f : FunctionValue) : Type 0 where
  pub params : f.params ≤ f.cells
  pub depths : List ℕ
  pub typed : Typed c f depths

-- a code's functions keep the rules, and its main function has no parameters and gives a number
pub record Sound (c : CodeValue) : Type 0 where
  pub main : FunctionValue
  pub there : slice_get c.functions c.main ≡ Some main
  pub bare : main.params ≡ 0
  pub gives : main.gives ≡ true
  pub each : (i : ℕ) (f : FunctionValue) → slice_get c.functions i ≡ Some f → Kept c f
