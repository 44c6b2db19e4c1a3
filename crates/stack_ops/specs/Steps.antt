-- What one step says of the lists that it is lent.
use Rattle.std.specs.Prelude.{◌≡◌, ℕ, ◌+◌, ℤ, List, length, All, Result, Ok, Err}
use Rattle.int_ops.specs.Ranges.{IsNumber}
use Rattle.stack_ops.specs.declared.endings.Trap.{Trap}
use Rattle.stack_ops.specs.Stack.{StackValue, IoValue, operands, bytes_left}
use Rattle.stack_ops.specs.Effect.{State, Step, Goes, Traps}
use Rattle.stack_ops.specs.Shapes.{takes, gives}
use Rattle.stack_ops.specs.declared.operation.Op.{Op}

-- operands, cells, globals, input and output make a state
abbrev pub state : StackValue → List ℤ → List ℤ → IoValue → State
state stack cells globals io =
    record {
      operands = operands stack;
      cells = cells;
      globals = globals;
      input = bytes_left io;
      output = io.output;
      limit = io.limit;
    }

-- what an answer tells of an operation: the run goes on with a state, or it traps with this trap at this line
abbrev pub told : Result Unit (Trap × ℕ) → State → Step
told (Ok _) new = Goes new
told (Err why) new = Traps why.0 why.1

-- an operation takes as many operands as it takes by its shape, and gives as many
abbrev pub Counts : Op → StackValue → StackValue → Type 0
Counts op before after = length after.numbers + takes op ≡ length before.numbers + gives op

-- nothing has changed
pub record IsUnchanged (stack_old stack_new : StackValue) (cells_old cells_new globals_old globals_new : List ℤ)
    (io_old io_new : IoValue) : Type 0 where
  pub stack : stack_new ≡ stack_old
  pub cells : cells_new ≡ cells_old
  pub globals : globals_new ≡ globals_old
  pub io : io_new ≡ io_old

-- the room of the operands, the input and the limit of the output stay
pub record KeepsRoom (stack_old stack_new : StackValue) (io_old io_new : IoValue) : Type 0 where
  pub room : stack_new.room ≡ stack_old.room
  pub input : io_new.input ≡ io_old.input
  pub limit : io_new.limit ≡ io_old.limit

-- all numbers of operands, cells and globals lie from -2^63 to 2^64 - 1
pub record AreNumbers (stack : StackValue) (cells globals : List ℤ) : Type 0 where
  pub of_operands : All IsNumber stack.numbers
  pub of_cells : All IsNumber cells
  pub of_globals : All IsNumber globals
