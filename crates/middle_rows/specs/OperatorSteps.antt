-- Operators by way of the stack machine.
use Rattle.std.specs.Prelude.{ℤ, Result, Ok, Err}
use Rattle.int_ops.specs.declared.types.IntType.{IntType}
use Rattle.int_ops.specs.declared.operators.BinOp.{BinOp}
use Rattle.int_ops.specs.declared.operators.BinOp.TheVariants as bin_op
use Rattle.int_ops.specs.Apply.{Answer}
use Rattle.stack_ops.specs.declared.endings.Trap.{Trap}
use Rattle.stack_ops.specs.declared.operation.Op.{Op}
use Rattle.stack_ops.specs.declared.operation.Op.TheVariants as op
use Rattle.stack_ops.specs.Effect.{trap_of}

-- the operation of an operator at a type, whose trap has line 0
abbrev pub operation : BinOp → IntType → Op
operation bin_op.Mul t = op.Mul t 0
operation bin_op.Div t = op.Div t 0
operation bin_op.Rem t = op.Rem t 0
operation bin_op.Add t = op.Add t 0
operation bin_op.Sub t = op.Sub t 0
operation bin_op.Shl t = op.Shl t 0
operation bin_op.Shr t = op.Shr t 0
operation bin_op.Less t = op.Less t 0
operation bin_op.Greater t = op.Greater t 0
operation bin_op.LessEqual t = op.LessEqual t 0
operation bin_op.GreaterEqual t = op.GreaterEqual t 0
operation bin_op.Equal t = op.Equal t 0
operation bin_op.NotEqual t = op.NotEqual t 0
operation bin_op.And t = op.And t 0
operation bin_op.Xor t = op.Xor t 0
operation bin_op.Or t = op.Or t 0

-- the number of an operator, or the machine's trap of the same name
abbrev pub with_its_trap : Answer → Result ℤ Trap
with_its_trap (Ok n) = Ok n
with_its_trap (Err why) = Err (trap_of why)
