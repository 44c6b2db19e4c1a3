-- The file of a code, as bytes.
use Rattle.std.specs.Prelude.{◌≡◌, ℕ, ◌≤◌, Bool, true, cond, ℤ, List, [], ◌∷◌, ◌++◌, length}
use Rattle.std.specs.List.{All, flat_map}
use Rattle.stack_ops.specs.declared.operation.Op.{Op}
use Rattle.stack_ops.specs.Code.{FunctionValue, CodeValue}
use Rattle.gcov_items.specs.Items.{word_bytes, long_bytes}
use Rattle.code_runs.specs.Limits.{instruction_limit}
use Rattle.code_runs.specs.CodeChecks.{number_there}
use Rattle.code_file.specs.OpItems.{number_bytes, op_bytes}

-- the word with which a code file begins
abbrev pub magic : ℕ
magic = 1885564772

-- the word of the version behind it
abbrev pub version : ℕ
version = 1345466482

-- words one after another
unfoldable pub words_bytes : List ℕ → List ℕ
words_bytes words = flat_map word_bytes words

-- numbers one after another
unfoldable pub numbers_bytes : List ℤ → List ℕ
numbers_bytes numbers = flat_map number_bytes numbers

-- operations one after another
unfoldable pub ops_bytes : List Op → List ℕ
ops_bytes ops = flat_map op_bytes ops

-- the numbers of a table, as longs
unfoldable pub table_bytes : List ℕ → List ℕ
table_bytes table = flat_map long_bytes table

-- a flag is 1 or 0
abbrev pub flag : Bool → ℕ
flag b = cond b 1 0

-- the numbers of a function, and how many instructions it has
abbrev pub function_words : FunctionValue → List ℕ
function_words f =
    f.params ∷ f.cells ∷ f.depth ∷ flag f.gives ∷ f.checksum ∷ f.counters ∷ f.paths ∷ f.passes ∷ length f.ops ∷ []

-- a function: its numbers, its instructions, its table
abbrev pub function_bytes : FunctionValue → List ℕ
function_bytes f = words_bytes (function_words f) ++ (ops_bytes f.ops ++ table_bytes f.table)

-- functions one after another
unfoldable pub functions_bytes : List FunctionValue → List ℕ
functions_bytes functions = flat_map function_bytes functions

-- magic word, version, stamp, whether the code counts, the main function, how many globals there are
abbrev pub code_words : CodeValue → List ℕ
code_words c = magic ∷ version ∷ c.stamp ∷ flag c.covered ∷ c.main ∷ length c.globals ∷ []

-- a code: its own numbers, its globals, how many functions there are, these
abbrev pub code_bytes : CodeValue → List ℕ
code_bytes c =
    words_bytes (code_words c)
    ++ (numbers_bytes c.globals ++ (words_bytes (length c.functions ∷ []) ++ functions_bytes c.functions))

-- the number of instructions of a function, and their numbers, are such as can be written
pub record IsWritable (f : FunctionValue) : Type 0 where
  pub few : length f.ops ≤ instruction_limit
  pub numbers : All (λ o. number_there o ≡ true) f.ops
