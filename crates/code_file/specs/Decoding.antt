-- How an operation is made of the fields that stand in a file, by an operation with any fields.
use Rattle.std.specs.Prelude.{ℕ}
use Rattle.int_ops.specs.declared.types.IntType.{IntType}
use Rattle.stack_ops.specs.declared.operation.Op.{Op}
use Rattle.stack_ops.specs.declared.operation.Op.TheVariants as op
use Rattle.code_file.specs.declared.op_items.Fields.{Fields}
use Rattle.code_file.specs.declared.op_items.Fields.TheVariants as fields
use Rattle.code_file.specs.OpItems.{fields_of}
use Rattle.code_file.specs.Reading.{Made}

-- the operation with this word in place of its own
abbrev pub of_word : Op → ℕ → Op
of_word (op.LoadLocal _) w = op.LoadLocal w
of_word (op.StoreLocal _) w = op.StoreLocal w
of_word (op.LoadGlobal _) w = op.LoadGlobal w
of_word (op.StoreGlobal _) w = op.StoreGlobal w
of_word (op.PutChar _) w = op.PutChar w
of_word (op.Jump _) w = op.Jump w
of_word (op.Back _) w = op.Back w
of_word (op.IfZero _) w = op.IfZero w
of_word (op.IfNot _) w = op.IfNot w
of_word (op.Count _) w = op.Count w
of_word (op.PathPass _) w = op.PathPass w
of_word o w = o

-- the operation with these words in place of its own
abbrev pub of_words : Op → ℕ → ℕ → Op
of_words (op.CheckIndex _ _) w v = op.CheckIndex w v
of_words (op.LoadLocalAt _ _) w v = op.LoadLocalAt w v
of_words (op.StoreLocalAt _ _) w v = op.StoreLocalAt w v
of_words (op.LoadGlobalAt _ _) w v = op.LoadGlobalAt w v
of_words (op.StoreGlobalAt _ _) w v = op.StoreGlobalAt w v
of_words (op.Call _ _) w v = op.Call w v
of_words o w v = o

-- the operation with this type and line in place of its own
abbrev pub at_line : Op → IntType → ℕ → Op
at_line (op.Mul _ _) t line = op.Mul t line
at_line (op.Div _ _) t line = op.Div t line
at_line (op.Rem _ _) t line = op.Rem t line
at_line (op.Add _ _) t line = op.Add t line
at_line (op.Sub _ _) t line = op.Sub t line
at_line (op.Shl _ _) t line = op.Shl t line
at_line (op.Shr _ _) t line = op.Shr t line
at_line (op.Less _ _) t line = op.Less t line
at_line (op.Greater _ _) t line = op.Greater t line
at_line (op.LessEqual _ _) t line = op.LessEqual t line
at_line (op.GreaterEqual _ _) t line = op.GreaterEqual t line
at_line (op.Equal _ _) t line = op.Equal t line
at_line (op.NotEqual _ _) t line = op.NotEqual t line
at_line (op.And _ _) t line = op.And t line
at_line (op.Xor _ _) t line = op.Xor t line
at_line (op.Or _ _) t line = op.Or t line
at_line (op.Minus _ _) t line = op.Minus t line
at_line (op.Complement _ _) t line = op.Complement t line
at_line o t line = o

-- how an operation with such fields is made of those that stand in a file
abbrev pub made_by : Fields → Op → Made
made_by fields.None o = Made.Alone o
made_by (fields.Number n) o = Made.OfNumber (λ n. op.Push n)
made_by (fields.Type t) o = Made.OfType (λ t. op.Convert t)
made_by (fields.At t line) o = Made.OfTypeAt (λ t line. at_line o t line)
made_by (fields.Word w) o = Made.OfWord (λ w. of_word o w)
made_by (fields.Words w v) o = Made.OfWords (λ w v. of_words o w v)
made_by (fields.Case n w) o = Made.OfCase (λ n w. op.CaseJump n w)

-- how an operation is made of its fields
abbrev pub made_of : Op → Made
made_of o = made_by (fields_of o) o
