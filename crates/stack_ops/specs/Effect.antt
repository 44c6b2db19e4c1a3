-- What each operation does to numbers and bytes.
use Rattle.std.specs.Prelude.{
  ℕ,
  ◌+◌,
  ◌-◌,
  ◌%◌,
  Bool,
  true,
  false,
  cond,
  nat_lt,
  ℤ,
  pos,
  negsuc,
  List,
  [],
  ◌∷◌,
  ◌++◌,
  length,
  Option,
  Some,
  None,
  slice_get,
  slice_set,
  Ok,
  Err,
}
use Rattle.std.specs.Ordering.{int_eq}
use Rattle.int_ops.specs.Apply.{Answer, binary, unary, truth}
use Rattle.int_ops.specs.Conversion.{convert}
use Rattle.int_ops.specs.declared.operators.BinOp.TheVariants as bin_op
use Rattle.int_ops.specs.declared.operators.UnOp.TheVariants as un_op
use Rattle.int_ops.specs.declared.operators.ArithTrap.{ArithTrap}
use Rattle.int_ops.specs.declared.operators.ArithTrap.TheVariants as arithmetic
use Rattle.stack_ops.specs.declared.endings.Trap.{Trap}
use Rattle.stack_ops.specs.declared.endings.Trap.TheVariants as trap
use Rattle.stack_ops.specs.declared.operation.Op.{Op}
use Rattle.stack_ops.specs.declared.operation.Op.TheVariants as op

-- what an operation acts on: the operands, the top first, the cells of the frame, the globals, the bytes of the input
-- that are left, the
-- bytes that were put, and how many may be
pub record State : Type 0 where
  pub operands : List ℤ
  pub cells : List ℤ
  pub globals : List ℤ
  pub input : List ℕ
  pub output : List ℕ
  pub limit : ℕ

-- what comes of an operation: the run goes on with a state, or traps at a line, or something that the operation needs
-- isn't there
pub data Step : Type 0 where
  Goes : State → Step
  Traps : Trap → ℕ → Step
  Stuck : Step

-- the run goes on with these operands, and nothing else has changed
abbrev pub leaves : List ℤ → State → Step
leaves operands s = Goes (record s { operands = operands })

-- the number of a cell is given, where the cell is there
abbrev pub loads : Option ℤ → List ℤ → State → Step
loads (Some n) rest s = leaves (n ∷ rest) s
loads None rest s = Stuck

-- cells become others when one of them, which is there, is set to a number
abbrev pub stored : List ℤ → ℕ → ℤ → Option (List ℤ)
stored cells w a = cond (nat_lt w (length cells)) (Some (slice_set cells w a)) None

-- the run goes on with other operands and other cells of the frame, where these are there
abbrev pub sets_cells : Option (List ℤ) → List ℤ → State → Step
sets_cells (Some cells) operands s = Goes (record s { operands = operands; cells = cells })
sets_cells None operands s = Stuck

-- the run goes on with other operands and other globals, where these are there
abbrev pub sets_globals : Option (List ℤ) → List ℤ → State → Step
sets_globals (Some globals) operands s = Goes (record s { operands = operands; globals = globals })
sets_globals None operands s = Stuck

-- An array has a first cell and so many elements; its element at an index from 0 to below their number is in the cell
-- that lies so far on.
abbrev pub element : ℕ → ℕ → ℤ → Option ℕ
element base size (pos i) = cond (nat_lt i size) (Some (base + i)) None
element base size (negsuc i) = None

-- an index outside its array traps at the line, and an element inside is dealt with
abbrev pub within : Option ℕ → ℕ → (ℕ → Step) → Step
within (Some w) line then = then w
within None line then = Traps trap.BadIndex line

-- a trap of an operator is the trap of the same name
abbrev pub trap_of : ArithTrap → Trap
trap_of arithmetic.Overflow = trap.Overflow
trap_of arithmetic.DivideByZero = trap.DivideByZero
trap_of arithmetic.ShiftRange = trap.ShiftRange

-- an operator's number is given, or its trap stands at the line
abbrev pub answers : Answer → ℕ → List ℤ → State → Step
answers (Ok n) line rest s = leaves (n ∷ rest) s
answers (Err why) line rest s = Traps (trap_of why) line

-- an operator takes the two operands at the top, the left one below the right one
abbrev pub on_two : (ℤ → ℤ → Answer) → ℕ → List ℤ → State → Step
on_two operator line (b ∷ a ∷ rest) s = answers (operator a b) line rest s
on_two operator line operands s = Stuck

-- an operator takes the operand at the top
abbrev pub on_one : (ℤ → Answer) → ℕ → List ℤ → State → Step
on_one operator line (a ∷ rest) s = answers (operator a) line rest s
on_one operator line operands s = Stuck

-- the next byte of the input is read and given; at its end -1 is given
abbrev pub reads : List ℕ → List ℤ → State → Step
reads (byte ∷ bytes) rest s = Goes (record s { operands = pos byte ∷ rest; input = bytes })
reads [] rest s = leaves (negsuc 0 ∷ rest) s

-- a number is put as the byte that it is modulo 256 (C17 7.21.7.3 paragraph 2)
abbrev pub byte_of : ℤ → ℕ
byte_of (pos n) = n % 256
byte_of (negsuc n) = 255 - n % 256

-- a byte is put and given where the output has room below its limit; otherwise nothing is taken and the run traps
abbrev pub puts : Bool → ℕ → ℕ → List ℤ → State → Step
puts true byte line rest s = Goes (record s { operands = pos byte ∷ rest; output = s.output ++ byte ∷ [] })
puts false byte line rest s = Traps trap.OutputLimit line

-- The table of the operations, in the order of their codes: what each makes of the operands, the top first, and of the
-- rest of a state.
-- An operator's left operand stands below its right one.
abbrev pub row : Op → List ℤ → State → Step
row (op.Push n) rest s = leaves (n ∷ rest) s
row op.Dup (a ∷ rest) s = leaves (a ∷ a ∷ rest) s
row op.Drop (a ∷ rest) s = leaves rest s
row op.Swap (b ∷ a ∷ rest) s = leaves (a ∷ b ∷ rest) s
row op.Over (b ∷ a ∷ rest) s = leaves (a ∷ b ∷ a ∷ rest) s
row (op.Convert t) (a ∷ rest) s = leaves (convert t a ∷ rest) s
row op.Not (a ∷ rest) s = leaves (truth (int_eq a (pos 0)) ∷ rest) s
row (op.LoadLocal w) rest s = loads (slice_get s.cells w) rest s
row (op.StoreLocal w) (a ∷ rest) s = sets_cells (stored s.cells w a) (a ∷ rest) s
row (op.LoadGlobal w) rest s = loads (slice_get s.globals w) rest s
row (op.StoreGlobal w) (a ∷ rest) s = sets_globals (stored s.globals w a) (a ∷ rest) s
row (op.CheckIndex size line) (a ∷ rest) s = within (element 0 size a) line (λ w. leaves (a ∷ rest) s)
row (op.LoadLocalAt base size) (i ∷ rest) s = within (element base size i) 0 (λ w. loads (slice_get s.cells w) rest s)
row (op.StoreLocalAt base size) (a ∷ i ∷ rest) s =
    within (element base size i) 0 (λ w. sets_cells (stored s.cells w a) (a ∷ rest) s)
row (op.LoadGlobalAt base size) (i ∷ rest) s =
    within (element base size i) 0 (λ w. loads (slice_get s.globals w) rest s)
row (op.StoreGlobalAt base size) (a ∷ i ∷ rest) s =
    within (element base size i) 0 (λ w. sets_globals (stored s.globals w a) (a ∷ rest) s)
row (op.Mul t line) operands s = on_two (binary bin_op.Mul t) line operands s
row (op.Div t line) operands s = on_two (binary bin_op.Div t) line operands s
row (op.Rem t line) operands s = on_two (binary bin_op.Rem t) line operands s
row (op.Add t line) operands s = on_two (binary bin_op.Add t) line operands s
row (op.Sub t line) operands s = on_two (binary bin_op.Sub t) line operands s
row (op.Shl t line) operands s = on_two (binary bin_op.Shl t) line operands s
row (op.Shr t line) operands s = on_two (binary bin_op.Shr t) line operands s
row (op.Less t line) operands s = on_two (binary bin_op.Less t) line operands s
row (op.Greater t line) operands s = on_two (binary bin_op.Greater t) line operands s
row (op.LessEqual t line) operands s = on_two (binary bin_op.LessEqual t) line operands s
row (op.GreaterEqual t line) operands s = on_two (binary bin_op.GreaterEqual t) line operands s
row (op.Equal t line) operands s = on_two (binary bin_op.Equal t) line operands s
row (op.NotEqual t line) operands s = on_two (binary bin_op.NotEqual t) line operands s
row (op.And t line) operands s = on_two (binary bin_op.And t) line operands s
row (op.Xor t line) operands s = on_two (binary bin_op.Xor t) line operands s
row (op.Or t line) operands s = on_two (binary bin_op.Or t) line operands s
row (op.Minus t line) operands s = on_one (unary un_op.Minus t) line operands s
row (op.Complement t line) operands s = on_one (unary un_op.Complement t) line operands s
row op.GetChar rest s = reads s.input rest s
row (op.PutChar line) (a ∷ rest) s = puts (nat_lt (length s.output) s.limit) (byte_of a) line rest s
row o operands s = Stuck

-- what an operation does to a state
abbrev pub effect : Op → State → Step
effect o s = row o s.operands s
