-- How an operation stands in a file: its code, and then its fields.
use Rattle.std.specs.Prelude.{
  ℕ,
  ◌-◌,
  ◌^◌,
  nat_lt,
  cond,
  Bool,
  true,
  ℤ,
  pos,
  negsuc,
  List,
  [],
  ◌∷◌,
  ◌++◌,
}
use Rattle.int_ops.specs.Codes.{type_code}
use Rattle.stack_ops.specs.declared.operation.Op.{Op}
use Rattle.stack_ops.specs.declared.operation.Op.TheVariants as op
use Rattle.code_runs.specs.CodeChecks.{is_number}
use Rattle.gcov_items.specs.Items.{word_bytes, long_bytes}
use Rattle.code_file.specs.declared.op_items.Fields.{Fields}
use Rattle.code_file.specs.declared.op_items.Fields.TheVariants as fields

-- the code of an operation: its number among the operations, from 0
abbrev pub op_code : Op → ℕ
op_code (op.Push n) = 0
op_code op.Dup = 1
op_code op.Drop = 2
op_code op.Swap = 3
op_code op.Over = 4
op_code (op.Convert t) = 5
op_code op.Not = 6
op_code (op.LoadLocal w) = 7
op_code (op.StoreLocal w) = 8
op_code (op.LoadGlobal w) = 9
op_code (op.StoreGlobal w) = 10
op_code (op.CheckIndex w v) = 11
op_code (op.LoadLocalAt w v) = 12
op_code (op.StoreLocalAt w v) = 13
op_code (op.LoadGlobalAt w v) = 14
op_code (op.StoreGlobalAt w v) = 15
op_code (op.Mul t line) = 16
op_code (op.Div t line) = 17
op_code (op.Rem t line) = 18
op_code (op.Add t line) = 19
op_code (op.Sub t line) = 20
op_code (op.Shl t line) = 21
op_code (op.Shr t line) = 22
op_code (op.Less t line) = 23
op_code (op.Greater t line) = 24
op_code (op.LessEqual t line) = 25
op_code (op.GreaterEqual t line) = 26
op_code (op.Equal t line) = 27
op_code (op.NotEqual t line) = 28
op_code (op.And t line) = 29
op_code (op.Xor t line) = 30
op_code (op.Or t line) = 31
op_code (op.Minus t line) = 32
op_code (op.Complement t line) = 33
op_code op.GetChar = 34
op_code (op.PutChar w) = 35
op_code (op.Jump w) = 36
op_code (op.Back w) = 37
op_code (op.IfZero w) = 38
op_code (op.IfNot w) = 39
op_code (op.CaseJump n w) = 40
op_code (op.Call w v) = 41
op_code op.Return = 42
op_code op.Exit = 43
op_code (op.Count w) = 44
op_code op.PathBegin = 45
op_code (op.PathPass w) = 46

-- the fields of an operation, in their order
abbrev pub fields_of : Op → Fields
fields_of (op.Push n) = fields.Number n
fields_of op.Dup = fields.None
fields_of op.Drop = fields.None
fields_of op.Swap = fields.None
fields_of op.Over = fields.None
fields_of (op.Convert t) = fields.Type t
fields_of op.Not = fields.None
fields_of (op.LoadLocal w) = fields.Word w
fields_of (op.StoreLocal w) = fields.Word w
fields_of (op.LoadGlobal w) = fields.Word w
fields_of (op.StoreGlobal w) = fields.Word w
fields_of (op.CheckIndex w v) = fields.Words w v
fields_of (op.LoadLocalAt w v) = fields.Words w v
fields_of (op.StoreLocalAt w v) = fields.Words w v
fields_of (op.LoadGlobalAt w v) = fields.Words w v
fields_of (op.StoreGlobalAt w v) = fields.Words w v
fields_of (op.Mul t line) = fields.At t line
fields_of (op.Div t line) = fields.At t line
fields_of (op.Rem t line) = fields.At t line
fields_of (op.Add t line) = fields.At t line
fields_of (op.Sub t line) = fields.At t line
fields_of (op.Shl t line) = fields.At t line
fields_of (op.Shr t line) = fields.At t line
fields_of (op.Less t line) = fields.At t line
fields_of (op.Greater t line) = fields.At t line
fields_of (op.LessEqual t line) = fields.At t line
fields_of (op.GreaterEqual t line) = fields.At t line
fields_of (op.Equal t line) = fields.At t line
fields_of (op.NotEqual t line) = fields.At t line
fields_of (op.And t line) = fields.At t line
fields_of (op.Xor t line) = fields.At t line
fields_of (op.Or t line) = fields.At t line
fields_of (op.Minus t line) = fields.At t line
fields_of (op.Complement t line) = fields.At t line
fields_of op.GetChar = fields.None
fields_of (op.PutChar w) = fields.Word w
fields_of (op.Jump w) = fields.Word w
fields_of (op.Back w) = fields.Word w
fields_of (op.IfZero w) = fields.Word w
fields_of (op.IfNot w) = fields.Word w
fields_of (op.CaseJump n w) = fields.Case n w
fields_of (op.Call w v) = fields.Words w v
fields_of op.Return = fields.None
fields_of op.Exit = fields.None
fields_of (op.Count w) = fields.Word w
fields_of op.PathBegin = fields.None
fields_of (op.PathPass w) = fields.Word w

-- A number takes nine bytes: 0 and the number in two's complement, below 2^63, or 1 and the number, from 2^63 on.
abbrev pub number_bytes : ℤ → List ℕ
number_bytes (pos n) = cond (nat_lt n (2 ^ 63)) 0 1 ∷ long_bytes n
number_bytes (negsuc n) = 0 ∷ long_bytes (2 ^ 64 - 1 - n)

-- a number among fields is one that can be written
abbrev pub field_there : Fields → Bool
field_there (fields.Number n) = is_number n
field_there (fields.Case n w) = is_number n
field_there f = true

-- the fields: a type is its code, a line is a word
abbrev pub field_bytes : Fields → List ℕ
field_bytes fields.None = []
field_bytes (fields.Number n) = number_bytes n
field_bytes (fields.Type t) = type_code t ∷ []
field_bytes (fields.At t line) = type_code t ∷ word_bytes line
field_bytes (fields.Word w) = word_bytes w
field_bytes (fields.Words w v) = word_bytes w ++ word_bytes v
field_bytes (fields.Case n w) = number_bytes n ++ word_bytes w

-- an operation
abbrev pub op_bytes : Op → List ℕ
op_bytes o = op_code o ∷ field_bytes (fields_of o)
