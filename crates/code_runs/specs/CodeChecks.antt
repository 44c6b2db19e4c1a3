-- The rules of a whole code, and the first that is broken, with its place: the number of an instruction, counted
-- through all functions; for Field the number of a function, or 0 for the code's own numbers; in a table the place in
-- it.
use Rattle.std.specs.Prelude.{
  ℕ,
  suc,
  ◌+◌,
  ◌==◌,
  ◌&&◌,
  ◌||◌,
  nat_lt,
  nat_le,
  Bool,
  true,
  false,
  ℤ,
  int_le,
  List,
  [],
  ◌∷◌,
  length,
  Option,
  Some,
  None,
  slice_get,
}
use Rattle.std.specs.Option.{option_or}
use Rattle.cov_base.specs.Limits.{parameter_limit, array_limit, arc_limit}
use Rattle.int_ops.specs.Ranges.{least, greatest}
use Rattle.int_ops.specs.declared.types.IntType.TheVariants as type
use Rattle.stack_ops.specs.declared.operation.Op.{Op}
use Rattle.stack_ops.specs.declared.operation.Op.TheVariants as op
use Rattle.stack_ops.specs.Code.{FunctionValue, CodeValue}
use Rattle.code_runs.specs.Limits.{cell_limit, depth_limit, path_limit, number_limit, instruction_limit}
use Rattle.code_runs.specs.Tables.{TableFault, words_in, layout_fault, table_word}
use Rattle.code_runs.specs.Checks.{Rule, broken}

-- a number lies from -2^63 to 2^64 - 1
abbrev pub is_number : ℤ → Bool
is_number n = int_le (least type.Long) n && int_le n (greatest type.UnsignedLong)

-- the number of an instruction is one
abbrev pub number_there : Op → Bool
number_there (op.Push n) = is_number n
number_there (op.CaseJump n w) = is_number n
number_there o = true

-- a rule is broken at a place, unless a test holds
abbrev pub unless_at : Bool → ℕ → Rule → Option (ℕ × Rule)
unless_at true at r = None
unless_at false at r = Some (at, r)

-- a global that is no number
abbrev pub globals_fault : List ℤ → Option (ℕ × Rule)
globals_fault [] = None
globals_fault (n ∷ ns) = option_or (unless_at (is_number n) 0 Rule.Field) (globals_fault ns)

-- the first of these instructions whose number is none; the first of them is number `at`
abbrev pub numbers_fault : ℕ → List Op → Option (ℕ × Rule)
numbers_fault at [] = None
numbers_fault at (o ∷ os) = option_or (unless_at (number_there o) at Rule.Opcode) (numbers_fault (suc at) os)

-- The numbers of a function are within their limits: it has cells for its parameters, an instruction, and rows only
-- with paths.
abbrev pub limits_kept : FunctionValue → Bool
limits_kept f =
    nat_le f.params f.cells
    && (nat_lt 0 (length f.ops)
    && (nat_le f.params parameter_limit
    && (nat_le f.cells cell_limit
    && (nat_le f.depth depth_limit
    && (nat_le f.counters arc_limit
    && (nat_le f.paths path_limit && (nat_le f.passes arc_limit && (nat_lt 0 f.paths || f.passes == 0))))))))

-- a function of a code that doesn't count has no counters, no paths and no checksum
abbrev pub counts_nothing : FunctionValue → Bool
counts_nothing f = f.counters == 0 && (f.paths == 0 && f.checksum == 0)

-- how many counters and path words a function has
abbrev pub numbers_in : FunctionValue → ℕ
numbers_in f = f.counters + words_in f.paths

-- The numbers of a function keep the rules, where the functions before it have so many counters and path words, and so
-- many instructions.
abbrev pub fields_kept : CodeValue → ℕ → ℕ → FunctionValue → Bool
fields_kept c numbers start f =
    limits_kept f
    && ((c.covered || counts_nothing f)
    && (nat_le (numbers + numbers_in f) number_limit && nat_le (start + length f.ops) instruction_limit))

-- a fault of a table as a rule at its place
abbrev pub of_table : Option TableFault → Option (ℕ × Rule)
of_table (Some (TableFault.TooMany at)) = Some (at, Rule.Field)
of_table (Some (TableFault.OtherLength at)) = Some (at, Rule.Row)
of_table None = None

-- what is wrong with the items of function k: its numbers, those of its instructions, or the layout of its table
abbrev pub function_items : CodeValue → ℕ → ℕ → ℕ → FunctionValue → Option (ℕ × Rule)
function_items c k numbers start f =
    option_or (unless_at (fields_kept c numbers start f) k Rule.Field)
    (option_or (numbers_fault start f.ops) (of_table (layout_fault f.paths f.passes f.table)))

-- the same of these functions, the first of which is number k
abbrev pub functions_items : CodeValue → ℕ → ℕ → ℕ → List FunctionValue → Option (ℕ × Rule)
functions_items c k numbers start [] = None
functions_items c k numbers start (f ∷ fs) =
    option_or (function_items c k numbers start f)
    (functions_items c (suc k) (numbers + numbers_in f) (start + length f.ops) fs)

-- what is wrong with the items of a code
abbrev pub items_fault : CodeValue → Option (ℕ × Rule)
items_fault c =
    option_or (unless_at (nat_le (length c.globals) array_limit) 0 Rule.Field)
    (option_or (globals_fault c.globals) (functions_items c 0 0 0 c.functions))

-- the main function is there, has no parameters and gives a number
abbrev pub main_kept : Option FunctionValue → Bool
main_kept None = false
main_kept (Some f) = f.params == 0 && f.gives

-- the instruction that breaks a rule, counted from the first of all functions
abbrev pub counted_from : ℕ → Option (ℕ × Rule) → Option (ℕ × Rule)
counted_from start None = None
counted_from start (Some broken) = Some (start + broken.0, broken.1)

-- a word of a table that doesn't ascend or isn't there
abbrev pub row_fault : Option ℕ → Option (ℕ × Rule)
row_fault None = None
row_fault (Some at) = Some (at, Rule.Row)

-- what is wrong with the instructions of a function, or with the words of its table
abbrev pub function_values : CodeValue → ℕ → FunctionValue → Option (ℕ × Rule)
function_values c start f =
    option_or (counted_from start (broken c f)) (row_fault (table_word f.paths f.passes f.table))

-- the same of these functions
abbrev pub functions_values : CodeValue → ℕ → List FunctionValue → Option (ℕ × Rule)
functions_values c start [] = None
functions_values c start (f ∷ fs) =
    option_or (function_values c start f) (functions_values c (start + length f.ops) fs)

-- what is wrong with a code whose items are right
abbrev pub values_fault : CodeValue → Option (ℕ × Rule)
values_fault c =
    option_or (unless_at (main_kept (slice_get c.functions c.main)) 0 Rule.Field) (functions_values c 0 c.functions)

-- the first rule that a code breaks, with its place: the items go before the main function, and this before what
-- instructions and tables are among others
abbrev pub code_fault : CodeValue → Option (ℕ × Rule)
code_fault c = option_or (items_fault c) (values_fault c)
