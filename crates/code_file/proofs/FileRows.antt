-- The file of a worked code.
use Rattle.std.proofs.Common.{◌≡◌, refl, pos, negsuc, [], ◌∷◌, ◌++◌, length, true, false}
use Rattle.std.specs.Prelude.{◌-◌, ◌^◌}
use Rattle.std.specs.List.{flat_map}
use Rattle.int_ops.specs.declared.types.IntType.TheVariants as type
use Rattle.stack_ops.specs.declared.operation.Op.TheVariants as op
use Rattle.stack_ops.specs.Code.{CodeValue}
use Rattle.gcov_items.specs.Items.{word_bytes}
use Rattle.code_file.specs.OpItems.{number_bytes, op_bytes}
use Rattle.code_file.specs.Spelling.{words_bytes, numbers_bytes, ops_bytes, table_bytes, functions_bytes, code_bytes}

-- a plain code with one function: Push 0, Return
abbrev pub gives_0 : CodeValue
gives_0 = record {
  stamp = 0;
  covered = false;
  main = 0;
  globals = [];
  functions = record {
    params = 0;
    cells = 0;
    depth = 1;
    gives = true;
    checksum = 0;
    counters = 0;
    paths = 0;
    passes = 0;
    ops = op.Push (pos 0) ∷ op.Return ∷ [];
    table = [];
  } ∷ [];
}

-- its words up to the instructions, of which the first begins at byte 64, and the second at byte 74
words_then_instructions : code_bytes gives_0
    ≡ (100 ∷ 111 ∷ 99 ∷ 112 ∷ 114 ∷ 48 ∷ 50 ∷ 80 ∷ [])
    ++ (flat_map word_bytes (0 ∷ 0 ∷ 0 ∷ 0 ∷ 1 ∷ 0 ∷ 0 ∷ 1 ∷ 1 ∷ 0 ∷ 0 ∷ 0 ∷ 0 ∷ 2 ∷ [])
    ++ (0 ∷ 0 ∷ 0 ∷ 0 ∷ 0 ∷ 0 ∷ 0 ∷ 0 ∷ 0 ∷ 0 ∷ 42 ∷ []))
unfolding words_bytes numbers_bytes functions_bytes ops_bytes table_bytes
words_then_instructions = refl

seventy_five_bytes : length (code_bytes gives_0) ≡ 75
unfolding words_bytes numbers_bytes functions_bytes ops_bytes table_bytes
seventy_five_bytes = refl

-- numbers on both sides of 0 and of 2^63
minus_one : number_bytes (negsuc 0) ≡ 0 ∷ 255 ∷ 255 ∷ 255 ∷ 255 ∷ 255 ∷ 255 ∷ 255 ∷ 255 ∷ []
minus_one = refl

least_number : number_bytes (negsuc (2 ^ 63 - 1)) ≡ 0 ∷ 0 ∷ 0 ∷ 0 ∷ 0 ∷ 0 ∷ 0 ∷ 0 ∷ 128 ∷ []
least_number = refl

greatest_signed : number_bytes (pos (2 ^ 63 - 1)) ≡ 0 ∷ 255 ∷ 255 ∷ 255 ∷ 255 ∷ 255 ∷ 255 ∷ 255 ∷ 127 ∷ []
greatest_signed = refl

one_above : number_bytes (pos (2 ^ 63)) ≡ 1 ∷ 0 ∷ 0 ∷ 0 ∷ 0 ∷ 0 ∷ 0 ∷ 0 ∷ 128 ∷ []
one_above = refl

-- fields of operations
division : op_bytes (op.Div type.UnsignedInt 258) ≡ 17 ∷ 7 ∷ 2 ∷ 1 ∷ 0 ∷ 0 ∷ []
division = refl

case : op_bytes (op.CaseJump (pos 3) 5) ≡ 40 ∷ 0 ∷ 3 ∷ 0 ∷ 0 ∷ 0 ∷ 0 ∷ 0 ∷ 0 ∷ 0 ∷ 5 ∷ 0 ∷ 0 ∷ 0 ∷ []
case = refl

element : op_bytes (op.StoreGlobalAt 1 2) ≡ 15 ∷ 1 ∷ 0 ∷ 0 ∷ 0 ∷ 2 ∷ 0 ∷ 0 ∷ 0 ∷ []
element = refl
