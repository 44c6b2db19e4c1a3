-- The groups of the operations that one step does.
use Rattle.std.specs.Prelude.{Bool, true, false}
use Rattle.stack_ops.specs.declared.operation.Op.{Op}
use Rattle.stack_ops.specs.declared.operation.Op.TheVariants as op

-- an operation gives a number, or acts on the order and number of the operands
abbrev pub is_operand_step : Op → Bool
is_operand_step (op.Push n) = true
is_operand_step op.Dup = true
is_operand_step op.Drop = true
is_operand_step op.Swap = true
is_operand_step op.Over = true
is_operand_step o = false

-- an operation makes one number of the one at the top
abbrev pub is_unary_step : Op → Bool
is_unary_step (op.Convert t) = true
is_unary_step op.Not = true
is_unary_step (op.Minus t line) = true
is_unary_step (op.Complement t line) = true
is_unary_step o = false

-- an operation loads or stores one cell
abbrev pub is_cell_step : Op → Bool
is_cell_step (op.LoadLocal w) = true
is_cell_step (op.StoreLocal w) = true
is_cell_step (op.LoadGlobal w) = true
is_cell_step (op.StoreGlobal w) = true
is_cell_step o = false

-- an operation tests an index, or loads or stores an element of an array
abbrev pub is_element_step : Op → Bool
is_element_step (op.CheckIndex size line) = true
is_element_step (op.LoadLocalAt base size) = true
is_element_step (op.StoreLocalAt base size) = true
is_element_step (op.LoadGlobalAt base size) = true
is_element_step (op.StoreGlobalAt base size) = true
is_element_step o = false

-- an operation makes one number of the two at the top
abbrev pub is_binary_step : Op → Bool
is_binary_step (op.Mul t line) = true
is_binary_step (op.Div t line) = true
is_binary_step (op.Rem t line) = true
is_binary_step (op.Add t line) = true
is_binary_step (op.Sub t line) = true
is_binary_step (op.Shl t line) = true
is_binary_step (op.Shr t line) = true
is_binary_step (op.Less t line) = true
is_binary_step (op.Greater t line) = true
is_binary_step (op.LessEqual t line) = true
is_binary_step (op.GreaterEqual t line) = true
is_binary_step (op.Equal t line) = true
is_binary_step (op.NotEqual t line) = true
is_binary_step (op.And t line) = true
is_binary_step (op.Xor t line) = true
is_binary_step (op.Or t line) = true
is_binary_step o = false

-- an operation reads or puts a byte
abbrev pub is_stream_step : Op → Bool
is_stream_step op.GetChar = true
is_stream_step (op.PutChar line) = true
is_stream_step o = false
