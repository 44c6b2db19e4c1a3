-- The shapes of the operations: the operands that each takes and gives, and the cells that it needs.
use Rattle.std.specs.Prelude.{ℕ, ◌+◌, ◌<◌, ◌≤◌, Bool, true, false, cond, ℤ, List, length, Option, Some, None, slice_get}
use Rattle.int_ops.specs.Ranges.{IsNumber}
use Rattle.stack_ops.specs.declared.operation.Op.{Op}
use Rattle.stack_ops.specs.declared.operation.Op.TheVariants as op
use Rattle.stack_ops.specs.Code.{FunctionValue}

-- How many operands an operation takes, and how many it gives. CaseJump gives its operand back where it doesn't go to
-- its target. What
-- Call and Return take and give depends on the function that is called or that returns; it isn't counted here.
abbrev pub shape : Op → ℕ × ℕ
shape (op.Push n) = (0, 1)
shape op.Dup = (1, 2)
shape op.Drop = (1, 0)
shape op.Swap = (2, 2)
shape op.Over = (2, 3)
shape (op.Convert t) = (1, 1)
shape op.Not = (1, 1)
shape (op.LoadLocal w) = (0, 1)
shape (op.StoreLocal w) = (1, 1)
shape (op.LoadGlobal w) = (0, 1)
shape (op.StoreGlobal w) = (1, 1)
shape (op.CheckIndex size line) = (1, 1)
shape (op.LoadLocalAt base size) = (1, 1)
shape (op.StoreLocalAt base size) = (2, 1)
shape (op.LoadGlobalAt base size) = (1, 1)
shape (op.StoreGlobalAt base size) = (2, 1)
shape (op.Mul t line) = (2, 1)
shape (op.Div t line) = (2, 1)
shape (op.Rem t line) = (2, 1)
shape (op.Add t line) = (2, 1)
shape (op.Sub t line) = (2, 1)
shape (op.Shl t line) = (2, 1)
shape (op.Shr t line) = (2, 1)
shape (op.Less t line) = (2, 1)
shape (op.Greater t line) = (2, 1)
shape (op.LessEqual t line) = (2, 1)
shape (op.GreaterEqual t line) = (2, 1)
shape (op.Equal t line) = (2, 1)
shape (op.NotEqual t line) = (2, 1)
shape (op.And t line) = (2, 1)
shape (op.Xor t line) = (2, 1)
shape (op.Or t line) = (2, 1)
shape (op.Minus t line) = (1, 1)
shape (op.Complement t line) = (1, 1)
shape op.GetChar = (0, 1)
shape (op.PutChar line) = (1, 1)
shape (op.Jump to) = (0, 0)
shape (op.Back to) = (0, 0)
shape (op.IfZero to) = (1, 0)
shape (op.IfNot to) = (1, 0)
shape (op.CaseJump n to) = (1, 1)
shape (op.Call function line) = (0, 0)
shape op.Return = (0, 0)
shape op.Exit = (1, 0)
shape (op.Count counter) = (0, 0)
shape op.PathBegin = (0, 0)
shape (op.PathPass row) = (0, 0)

-- how many operands an operation takes
abbrev pub takes : Op → ℕ
takes o = (shape o).0

-- how many operands an operation gives
abbrev pub gives : Op → ℕ
gives o = (shape o).1

-- one operand where a function gives a number, and otherwise none
abbrev pub given_by : FunctionValue → ℕ
given_by function = cond function.gives 1 0

-- a call takes as many operands as the function has parameters
abbrev pub called_takes : Option FunctionValue → ℕ
called_takes (Some function) = function.params
called_takes None = 0

-- a call gives the number of the function, where it gives one
abbrev pub called_gives : Option FunctionValue → ℕ
called_gives (Some function) = given_by function
called_gives None = 0

-- how many operands an operation takes in a function of a program: Call takes the arguments, Return the number that the
-- function gives
abbrev pub takes_in : List FunctionValue → FunctionValue → Op → ℕ
takes_in functions function (op.Call called line) = called_takes (slice_get functions called)
takes_in functions function op.Return = given_by function
takes_in functions function o = takes o

-- how many operands an operation gives there: Call gives the number of the function that is called, Return none
abbrev pub gives_in : List FunctionValue → Op → ℕ
gives_in functions (op.Call called line) = called_gives (slice_get functions called)
gives_in functions o = gives o

-- an operation acts on the lists alone: it neither jumps, calls, ends nor counts, and marks no path
abbrev pub is_step : Op → Bool
is_step (op.Jump to) = false
is_step (op.Back to) = false
is_step (op.IfZero to) = false
is_step (op.IfNot to) = false
is_step (op.CaseJump n to) = false
is_step (op.Call function line) = false
is_step op.Return = false
is_step op.Exit = false
is_step (op.Count counter) = false
is_step op.PathBegin = false
is_step (op.PathPass row) = false
is_step o = true

-- the cells and globals that an operation names are there
abbrev pub HasCells : Op → List ℤ → List ℤ → Type 0
HasCells (op.LoadLocal w) cells globals = w < length cells
HasCells (op.StoreLocal w) cells globals = w < length cells
HasCells (op.LoadGlobal w) cells globals = w < length globals
HasCells (op.StoreGlobal w) cells globals = w < length globals
HasCells (op.LoadLocalAt base size) cells globals = base + size ≤ length cells
HasCells (op.StoreLocalAt base size) cells globals = base + size ≤ length cells
HasCells (op.LoadGlobalAt base size) cells globals = base + size ≤ length globals
HasCells (op.StoreGlobalAt base size) cells globals = base + size ≤ length globals
HasCells o cells globals = Unit {0}

-- the number that an operation gives lies from -2^63 to 2^64 - 1
abbrev pub HasNumber : Op → Type 0
HasNumber (op.Push n) = IsNumber n
HasNumber o = Unit {0}
