-- What bytes are: the file of a code, or bytes with a first fault at a place. Items are taken one after another, each
-- tested as soon as it stands whole; what instructions and tables are among others is tested when all items are there
-- and no byte is left.
use Rattle.std.specs.Prelude.{
  ℕ,
  zero,
  suc,
  ◌+◌,
  ◌-◌,
  ◌*◌,
  ◌^◌,
  ◌==◌,
  ◌&&◌,
  ◌||◌,
  nat_lt,
  nat_le,
  Bool,
  true,
  false,
  cond,
  ℤ,
  pos,
  negsuc,
  List,
  [],
  ◌∷◌,
  ◌++◌,
  length,
  map,
  Option,
  Some,
  None,
  slice_get,
  slice_index_or,
}
use Rattle.std.specs.Option.{option_or}
use Rattle.std.specs.Int.{from_le_bytes, w32, w64}
use Rattle.cov_base.specs.Limits.{parameter_limit, array_limit, arc_limit}
use Rattle.int_ops.specs.declared.types.IntType.{IntType}
use Rattle.int_ops.specs.declared.types.IntType.TheVariants as type
use Rattle.stack_ops.specs.declared.operation.Op.{Op}
use Rattle.stack_ops.specs.declared.operation.Op.TheVariants as op
use Rattle.stack_ops.specs.Code.{FunctionValue, CodeValue}
use Rattle.code_runs.specs.Limits.{cell_limit, depth_limit, path_limit, number_limit, instruction_limit}
use Rattle.code_runs.specs.Tables.{words_in, table_word}
use Rattle.code_runs.specs.Checks.{Rule, broken}
use Rattle.code_runs.specs.CodeChecks.{main_kept, numbers_in}
use Rattle.code_file.specs.declared.fault.CodeFault.{CodeFault}
use Rattle.code_file.specs.declared.fault.CodeFault.TheVariants as fault
use Rattle.code_file.specs.Spelling.{magic, version}

-- what bytes are: the file of a code, or bytes with a fault
pub data Told : Type 0 where
  File : CodeValue → Told
  Fault : CodeFault → Told

-- ---- items

-- the next byte and what comes behind it; where the bytes end before it, the place is their end
abbrev pub with_byte : List ℕ → ℕ → (ℕ → List ℕ → ℕ → Told) → Told
with_byte (b ∷ rest) at then = then b rest (at + 1)
with_byte [] at then = Fault (fault.Short at)

-- the next word, and what comes behind it
abbrev pub with_word : List ℕ → ℕ → (ℕ → List ℕ → ℕ → Told) → Told
with_word (a ∷ b ∷ c ∷ d ∷ rest) at then = then (from_le_bytes w32 (a ∷ b ∷ c ∷ d ∷ [])) rest (at + 4)
with_word rest at then = Fault (fault.Short (at + length rest))

-- the next long, and what comes behind it
abbrev pub with_long : List ℕ → ℕ → (ℕ → List ℕ → ℕ → Told) → Told
with_long (a ∷ b ∷ c ∷ d ∷ e ∷ f ∷ g ∷ h ∷ rest) at then =
    then (from_le_bytes w64 (a ∷ b ∷ c ∷ d ∷ e ∷ f ∷ g ∷ h ∷ [])) rest (at + 8)
with_long rest at then = Fault (fault.Short (at + length rest))

-- what comes where a test holds; else the fault
abbrev pub wanted : Bool → CodeFault → Told → Told
wanted true f then = then
wanted false f then = Fault f

-- a word that must pass a test
abbrev pub with_field : (ℕ → Bool) → List ℕ → ℕ → (ℕ → List ℕ → ℕ → Told) → Told
with_field test bytes at then =
    with_word bytes at (λ n rest next. wanted (test n) (fault.Field at) (then n rest next))

-- the number of a number field: 0 and a number in two's complement, or 1 and one from 2^63 on
abbrev pub number_of : ℕ → ℕ → Option ℤ
number_of mark n =
    cond (mark == 0) (Some (cond (nat_lt n (2 ^ 63)) (pos n) (negsuc (2 ^ 64 - 1 - n))))
    (cond (mark == 1 && nat_le (2 ^ 63) n) (Some (pos n)) None)

-- what comes behind a number; else the fault
abbrev pub if_number : Option ℤ → CodeFault → (ℤ → Told) → Told
if_number (Some n) f then = then n
if_number None f then = Fault f

-- a number field, whose nine bytes stand whole before it is tested
abbrev pub with_number : CodeFault → List ℕ → ℕ → (ℤ → List ℕ → ℕ → Told) → Told
with_number f (mark ∷ a ∷ b ∷ c ∷ d ∷ e ∷ g ∷ h ∷ i ∷ rest) at then =
    if_number (number_of mark (from_le_bytes w64 (a ∷ b ∷ c ∷ d ∷ e ∷ g ∷ h ∷ i ∷ []))) f
    (λ n. then n rest (at + 9))
with_number f rest at then = Fault (fault.Short (at + length rest))

-- the types in the order of their codes
abbrev pub types : List IntType
types =
    type.Bool ∷ type.Char ∷ type.SignedChar ∷ type.UnsignedChar ∷ type.Short ∷ type.UnsignedShort ∷ type.Int
    ∷ type.UnsignedInt ∷ type.Long ∷ type.UnsignedLong ∷ []

-- what comes behind a type; else the fault
abbrev pub if_type : Option IntType → CodeFault → (IntType → Told) → Told
if_type (Some t) f then = then t
if_type None f then = Fault f

-- the byte of a type
abbrev pub with_type : CodeFault → List ℕ → ℕ → (IntType → List ℕ → ℕ → Told) → Told
with_type f bytes at then =
    with_byte bytes at (λ b rest next. if_type (slice_get types b) f (λ t. then t rest next))

-- ---- operations

-- how an operation is made of its fields
pub data Made : Type 0 where
  Alone : Op → Made
  OfNumber : (ℤ → Op) → Made
  OfType : (IntType → Op) → Made
  OfTypeAt : (IntType → ℕ → Op) → Made
  OfWord : (ℕ → Op) → Made
  OfWords : (ℕ → ℕ → Op) → Made
  OfCase : (ℤ → ℕ → Op) → Made

-- the operations in the order of their codes
abbrev pub operations : List Made
operations =
    Made.OfNumber (λ n. op.Push n)
    ∷ Made.Alone op.Dup
    ∷ Made.Alone op.Drop
    ∷ Made.Alone op.Swap
    ∷ Made.Alone op.Over
    ∷ Made.OfType (λ t. op.Convert t)
    ∷ Made.Alone op.Not
    ∷ Made.OfWord (λ w. op.LoadLocal w)
    ∷ Made.OfWord (λ w. op.StoreLocal w)
    ∷ Made.OfWord (λ w. op.LoadGlobal w)
    ∷ Made.OfWord (λ w. op.StoreGlobal w)
    ∷ Made.OfWords (λ w v. op.CheckIndex w v)
    ∷ Made.OfWords (λ w v. op.LoadLocalAt w v)
    ∷ Made.OfWords (λ w v. op.StoreLocalAt w v)
    ∷ Made.OfWords (λ w v. op.LoadGlobalAt w v)
    ∷ Made.OfWords (λ w v. op.StoreGlobalAt w v)
    ∷ Made.OfTypeAt (λ t line. op.Mul t line)
    ∷ Made.OfTypeAt (λ t line. op.Div t line)
    ∷ Made.OfTypeAt (λ t line. op.Rem t line)
    ∷ Made.OfTypeAt (λ t line. op.Add t line)
    ∷ Made.OfTypeAt (λ t line. op.Sub t line)
    ∷ Made.OfTypeAt (λ t line. op.Shl t line)
    ∷ Made.OfTypeAt (λ t line. op.Shr t line)
    ∷ Made.OfTypeAt (λ t line. op.Less t line)
    ∷ Made.OfTypeAt (λ t line. op.Greater t line)
    ∷ Made.OfTypeAt (λ t line. op.LessEqual t line)
    ∷ Made.OfTypeAt (λ t line. op.GreaterEqual t line)
    ∷ Made.OfTypeAt (λ t line. op.Equal t line)
    ∷ Made.OfTypeAt (λ t line. op.NotEqual t line)
    ∷ Made.OfTypeAt (λ t line. op.And t line)
    ∷ Made.OfTypeAt (λ t line. op.Xor t line)
    ∷ Made.OfTypeAt (λ t line. op.Or t line)
    ∷ Made.OfTypeAt (λ t line. op.Minus t line)
    ∷ Made.OfTypeAt (λ t line. op.Complement t line)
    ∷ Made.Alone op.GetChar
    ∷ Made.OfWord (λ w. op.PutChar w)
    ∷ Made.OfWord (λ w. op.Jump w)
    ∷ Made.OfWord (λ w. op.Back w)
    ∷ Made.OfWord (λ w. op.IfZero w)
    ∷ Made.OfWord (λ w. op.IfNot w)
    ∷ Made.OfCase (λ n w. op.CaseJump n w)
    ∷ Made.OfWords (λ w v. op.Call w v)
    ∷ Made.Alone op.Return
    ∷ Made.Alone op.Exit
    ∷ Made.OfWord (λ w. op.Count w)
    ∷ Made.Alone op.PathBegin
    ∷ Made.OfWord (λ w. op.PathPass w)
    ∷ []

-- the fields of an operation; a field that is none is a fault of the operation
abbrev pub with_fields : CodeFault → Option Made → List ℕ → ℕ → (Op → List ℕ → ℕ → Told) → Told
with_fields f None bytes at then = Fault f
with_fields f (Some (Made.Alone o)) bytes at then = then o bytes at
with_fields f (Some (Made.OfNumber o)) bytes at then = with_number f bytes at (λ n. then (o n))
with_fields f (Some (Made.OfType o)) bytes at then = with_type f bytes at (λ t. then (o t))
with_fields f (Some (Made.OfTypeAt o)) bytes at then =
    with_type f bytes at (λ t rest next. with_word rest next (λ line. then (o t line)))
with_fields f (Some (Made.OfWord o)) bytes at then = with_word bytes at (λ w. then (o w))
with_fields f (Some (Made.OfWords o)) bytes at then =
    with_word bytes at (λ w rest next. with_word rest next (λ v. then (o w v)))
with_fields f (Some (Made.OfCase o)) bytes at then =
    with_number f bytes at (λ n rest next. with_word rest next (λ w. then (o n w)))

-- the next operation; its faults stand at its first byte
abbrev pub with_op : List ℕ → ℕ → (Op → List ℕ → ℕ → Told) → Told
with_op bytes at then =
    with_byte bytes at (λ code rest next. with_fields (fault.Opcode at) (slice_get operations code) rest next then)

-- so many operations more, and the places at which they begin
abbrev pub with_ops : ℕ → List Op → List ℕ → List ℕ → ℕ → (List Op → List ℕ → List ℕ → ℕ → Told) → Told
with_ops zero ops places bytes at then = then ops places bytes at
with_ops (suc n) ops places bytes at then =
    with_op bytes at (λ o rest next. with_ops n (ops ++ o ∷ []) (places ++ at ∷ []) rest next then)

-- ---- tables

-- so many longs more
abbrev pub with_longs : ℕ → List ℕ → List ℕ → ℕ → (List ℕ → List ℕ → ℕ → Told) → Told
with_longs zero table bytes at then = then table bytes at
with_longs (suc n) table bytes at then =
    with_long bytes at (λ x rest next. with_longs n (table ++ x ∷ []) rest next then)

-- a row with at most so many entries, each of so many longs
abbrev pub with_row : ℕ → ℕ → List ℕ → List ℕ → ℕ → (List ℕ → List ℕ → ℕ → Told) → Told
with_row size words table bytes at then =
    with_long bytes at (λ m rest next. wanted (nat_le m words) (fault.Field at)
    (with_longs (size * m) (table ++ m ∷ []) rest next then))

-- so many rows more, whose entries have four longs
abbrev pub with_rows : ℕ → ℕ → List ℕ → List ℕ → ℕ → (List ℕ → List ℕ → ℕ → Told) → Told
with_rows zero words table bytes at then = then table bytes at
with_rows (suc n) words table bytes at then =
    with_row 4 words table bytes at (λ table rest next. with_rows n words table rest next then)

-- the table of a function with so many paths and rows
abbrev pub with_table : ℕ → ℕ → List ℕ → ℕ → (List ℕ → List ℕ → ℕ → Told) → Told
with_table zero passes bytes at then = then [] bytes at
with_table (suc paths) passes bytes at then =
    with_row 3 (words_in (suc paths)) [] bytes at
    (λ table rest next. with_rows passes (words_in (suc paths)) table rest next then)

-- ---- functions

-- a function, the places of its instructions and of its table
pub record Placed : Type 0 where
  pub function : FunctionValue
  pub places : List ℕ
  pub table : ℕ

-- a number that is 0 in a code that doesn't count
abbrev pub counted_only : Bool → ℕ → Bool
counted_only covered n = covered || n == 0

-- the next function, of a code that counts or not, where those before it have so many numbers and instructions
abbrev pub with_function : Bool → ℕ → ℕ → List ℕ → ℕ → (Placed → List ℕ → ℕ → Told) → Told
with_function covered numbers start bytes at then =
    with_field (λ n. nat_le n parameter_limit) bytes at (λ params bytes at.
    with_field (λ n. nat_le params n && nat_le n cell_limit) bytes at (λ cells bytes at.
    with_field (λ n. nat_le n depth_limit) bytes at (λ depth bytes at.
    with_field (λ n. nat_le n 1) bytes at (λ gives bytes at.
    with_field (counted_only covered) bytes at (λ checksum bytes at.
    with_field (λ n. counted_only covered n && nat_le n arc_limit) bytes at (λ counters bytes at.
    with_field (λ n. counted_only covered n && nat_le n path_limit
    && nat_le (numbers + (counters + words_in n)) number_limit) bytes at (λ paths bytes at.
    with_field (λ n. nat_le n arc_limit && (nat_lt 0 paths || n == 0)) bytes at (λ passes bytes at.
    with_field (λ n. nat_lt 0 n && nat_le (start + n) instruction_limit) bytes at (λ size bytes at.
    with_ops size [] [] bytes at (λ ops places bytes here.
    with_table paths passes bytes here (λ table bytes at.
    then (record {
      function = record {
        params = params;
        cells = cells;
        depth = depth;
        gives = gives == 1;
        checksum = checksum;
        counters = counters;
        paths = paths;
        passes = passes;
        ops = ops;
        table = table;
      };
      places = places;
      table = here;
    }) bytes at)))))))))))

-- so many functions more
abbrev pub with_functions :
    ℕ → Bool → ℕ → ℕ → List Placed → List ℕ → ℕ → (List Placed → List ℕ → ℕ → Told) → Told
with_functions zero covered numbers start functions bytes at then = then functions bytes at
with_functions (suc n) covered numbers start functions bytes at then =
    with_function covered numbers start bytes at (λ f rest next.
    with_functions n covered (numbers + numbers_in f.function) (start + length f.function.ops) (functions ++ f ∷ [])
    rest next then)

-- so many globals more
abbrev pub with_globals : ℕ → List ℤ → List ℕ → ℕ → (List ℤ → List ℕ → ℕ → Told) → Told
with_globals zero globals bytes at then = then globals bytes at
with_globals (suc n) globals bytes at then =
    with_number (fault.Field at) bytes at (λ x rest next. with_globals n (globals ++ x ∷ []) rest next then)

-- ---- what is tested of whole items

-- the fault of a rule at a place
abbrev pub fault_of : Rule → ℕ → CodeFault
fault_of Rule.Field at = fault.Field at
fault_of Rule.Opcode at = fault.Opcode at
fault_of Rule.Jump at = fault.Jump at
fault_of Rule.BackJump at = fault.BackJump at
fault_of Rule.Depth at = fault.Depth at
fault_of Rule.Cell at = fault.Cell at
fault_of Rule.Counter at = fault.Counter at
fault_of Rule.Row at = fault.Row at

-- the rule that an instruction breaks, at the instruction's first byte
abbrev pub at_byte : List ℕ → Option (ℕ × Rule) → Option CodeFault
at_byte places None = None
at_byte places (Some b) = Some (fault_of b.1 (slice_index_or places b.0 0))

-- the entry of a table whose word doesn't ascend or isn't there, at its first byte
abbrev pub at_entry : ℕ → Option ℕ → Option CodeFault
at_entry table None = None
at_entry table (Some i) = Some (fault.Row (table + 8 * i))

-- what is wrong with the instructions of these functions, or with the words of their tables
abbrev pub placed_fault : CodeValue → List Placed → Option CodeFault
placed_fault c [] = None
placed_fault c (f ∷ fs) =
    option_or (at_byte f.places (broken c f.function))
    (option_or (at_entry f.table (table_word f.function.paths f.function.passes f.function.table)) (placed_fault c fs))

-- the code, unless it has a fault
abbrev pub unless_fault : Option CodeFault → CodeValue → Told
unless_fault None c = File c
unless_fault (Some f) c = Fault f

-- all items are there: no byte is left, the main function is one, and no instruction breaks a rule
abbrev pub checked : List ℕ → ℕ → ℕ → CodeValue → List Placed → Told
checked (b ∷ rest) at main c functions = Fault (fault.Extra at)
checked [] at main c functions =
    wanted (main_kept (slice_get c.functions c.main)) (fault.Field main) (unless_fault (placed_fault c functions) c)

-- what bytes are
abbrev pub told : List ℕ → Told
told bytes =
    with_word bytes 0 (λ m bytes at. wanted (m == magic) (fault.Magic 0)
    (with_word bytes at (λ v bytes next. wanted (v == version) (fault.Version at)
    (with_word bytes next (λ stamp bytes at.
    with_field (λ n. nat_le n 1) bytes at (λ covered bytes main_at.
    with_word bytes main_at (λ main bytes at.
    with_field (λ n. nat_le n array_limit) bytes at (λ count bytes at.
    with_globals count [] bytes at (λ globals bytes at.
    with_word bytes at (λ count bytes at.
    with_functions count (covered == 1) 0 0 [] bytes at (λ functions bytes at.
    checked bytes at main_at (record {
      stamp = stamp;
      covered = covered == 1;
      main = main;
      globals = globals;
      functions = map (λ f. f.function) functions;
    }) functions)))))))))))
