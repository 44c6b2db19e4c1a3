-- Worked codes, checked: each rule broken once, both sides of small bounds.
use Rattle.std.proofs.Common.{◌≡◌, refl, ℕ, pos, negsuc, List, [], ◌∷◌, Bool, true, false, Option, Some, None}
use Rattle.std.specs.Prelude.{◌-◌, ◌^◌}
use Rattle.int_ops.specs.declared.types.IntType.TheVariants as type
use Rattle.stack_ops.specs.declared.operation.Op.{Op}
use Rattle.stack_ops.specs.declared.operation.Op.TheVariants as op
use Rattle.stack_ops.specs.Code.{CodeValue}
use Rattle.code_runs.specs.Checks.{Rule}
use Rattle.code_runs.specs.CodeChecks.{code_fault}
use Rattle.code_runs.proofs.RunRows.{function, with_globals, plain, counts, gives_0, deep, marks_paths}

abbrev breaks : List Op → Option (ℕ × Rule)
breaks ops = code_fault (with_globals (pos 7 ∷ []) (function 0 1 2 true ops ∷ []))

good : breaks (op.Push (pos 0) ∷ op.Return ∷ []) ≡ None
good = refl

worked_codes_break_nothing :
    (code_fault gives_0 ≡ None) × (code_fault counts ≡ None) × (code_fault deep ≡ None)
    × (code_fault marks_paths ≡ None)
worked_codes_break_nothing = (refl, refl, refl, refl)

-- ---- instructions

return_without_its_number : breaks (op.Push (pos 0) ∷ op.Drop ∷ op.Return ∷ []) ≡ Some (2, Rule.Depth)
return_without_its_number = refl

return_with_two : breaks (op.Push (pos 0) ∷ op.Dup ∷ op.Return ∷ []) ≡ Some (2, Rule.Depth)
return_with_two = refl

last_leads_on : breaks (op.Push (pos 0) ∷ op.Dup ∷ []) ≡ Some (1, Rule.Jump)
last_leads_on = refl

last_is_a_jump : breaks (op.Push (pos 0) ∷ op.Jump 2 ∷ []) ≡ Some (1, Rule.Jump)
last_is_a_jump = refl

jump_to_itself : breaks (op.Push (pos 0) ∷ op.Jump 1 ∷ op.Return ∷ []) ≡ Some (1, Rule.Jump)
jump_to_itself = refl

jump_to_the_next : breaks (op.Push (pos 0) ∷ op.Jump 2 ∷ op.Return ∷ []) ≡ None
jump_to_the_next = refl

test_past_the_end : breaks (op.GetChar ∷ op.IfZero 4 ∷ op.GetChar ∷ op.Return ∷ []) ≡ Some (1, Rule.Jump)
test_past_the_end = refl

back_to_itself : breaks (op.Back 0 ∷ []) ≡ None
back_to_itself = refl

back_to_a_later_one : breaks (op.Back 1 ∷ op.Return ∷ []) ≡ Some (0, Rule.BackJump)
back_to_a_later_one = refl

back_with_more_operands : breaks (op.GetChar ∷ op.Back 0 ∷ []) ≡ Some (1, Rule.Depth)
back_with_more_operands = refl

two_depths : breaks (op.GetChar ∷ op.IfZero 3 ∷ op.Push (pos 1) ∷ op.Push (pos 2) ∷ op.Return ∷ [])
    ≡ Some (3, Rule.Depth)
two_depths = refl

only_back_leads_there : breaks (op.Back 0 ∷ op.Push (pos 1) ∷ op.Return ∷ []) ≡ Some (1, Rule.Depth)
only_back_leads_there = refl

third_operand : breaks (op.Push (pos 0) ∷ op.Dup ∷ op.Dup ∷ op.Exit ∷ []) ≡ Some (2, Rule.Depth)
third_operand = refl

exit_may_leave_operands : breaks (op.Push (pos 0) ∷ op.Dup ∷ op.Exit ∷ []) ≡ None
exit_may_leave_operands = refl

missing_operand : breaks (op.Push (pos 0) ∷ op.Add type.Int 1 ∷ op.Return ∷ []) ≡ Some (1, Rule.Depth)
missing_operand = refl

no_cell : breaks (op.LoadLocal 1 ∷ op.Return ∷ []) ≡ Some (0, Rule.Cell)
no_cell = refl

last_cell : breaks (op.LoadLocal 0 ∷ op.Return ∷ []) ≡ None
last_cell = refl

no_global : breaks (op.LoadGlobal 1 ∷ op.Return ∷ []) ≡ Some (0, Rule.Cell)
no_global = refl

elements_past_the_cells : breaks (op.Push (pos 0) ∷ op.LoadLocalAt 1 1 ∷ op.Return ∷ []) ≡ Some (1, Rule.Cell)
elements_past_the_cells = refl

last_element : breaks (op.Push (pos 0) ∷ op.LoadLocalAt 0 1 ∷ op.Return ∷ []) ≡ None
last_element = refl

no_function : breaks (op.Call 1 5 ∷ op.Push (pos 1) ∷ op.Return ∷ []) ≡ Some (0, Rule.Cell)
no_function = refl

no_counter : breaks (op.Count 0 ∷ op.Push (pos 1) ∷ op.Return ∷ []) ≡ Some (0, Rule.Counter)
no_counter = refl

no_paths : breaks (op.PathBegin ∷ op.Push (pos 1) ∷ op.Return ∷ []) ≡ Some (0, Rule.Row)
no_paths = refl

-- ---- numbers

greatest_number : breaks (op.Push (pos (2 ^ 64 - 1)) ∷ op.Return ∷ []) ≡ None
greatest_number = refl

number_too_great : breaks (op.Push (pos (2 ^ 64)) ∷ op.Return ∷ []) ≡ Some (0, Rule.Opcode)
number_too_great = refl

least_number : breaks (op.Push (negsuc (2 ^ 63 - 1)) ∷ op.Return ∷ []) ≡ None
least_number = refl

case_too_small : breaks (op.GetChar ∷ op.CaseJump (negsuc (2 ^ 63)) 2 ∷ op.Return ∷ []) ≡ Some (1, Rule.Opcode)
case_too_small = refl

global_too_great : code_fault (with_globals (pos 0 ∷ pos (2 ^ 64) ∷ []) (gives_0.functions)) ≡ Some (0, Rule.Field)
global_too_great = refl

-- ---- functions

abbrev returns_0 : List Op
returns_0 = op.Push (pos 0) ∷ op.Return ∷ []

-- what a second function with these parameters, cells and depth breaks
abbrev second : ℕ → ℕ → ℕ → Option (ℕ × Rule)
second params cells depth =
    code_fault (plain (function 0 0 1 true returns_0 ∷ function params cells depth true returns_0 ∷ []))

parameters_at_the_limit : second 64 64 1 ≡ None
parameters_at_the_limit = refl

parameters_past_the_limit : second 65 65 1 ≡ Some (1, Rule.Field)
parameters_past_the_limit = refl

fewer_cells_than_parameters : second 2 1 1 ≡ Some (1, Rule.Field)
fewer_cells_than_parameters = refl

cells_at_the_limit : second 0 4096 1 ≡ None
cells_at_the_limit = refl

cells_past_the_limit : second 0 4097 1 ≡ Some (1, Rule.Field)
cells_past_the_limit = refl

depth_at_the_limit : second 0 0 16384 ≡ None
depth_at_the_limit = refl

depth_past_the_limit : second 0 0 16385 ≡ Some (1, Rule.Field)
depth_past_the_limit = refl

depth_passed_in_the_second_function : second 0 0 0 ≡ Some (2, Rule.Depth)
depth_passed_in_the_second_function = refl

no_instruction : code_fault (plain (function 0 0 1 true returns_0 ∷ function 0 0 0 false [] ∷ []))
    ≡ Some (1, Rule.Field)
no_instruction = refl

-- ---- the main function

main_is_not_there : code_fault (plain []) ≡ Some (0, Rule.Field)
main_is_not_there = refl

main_has_a_parameter : code_fault (plain (function 1 1 1 true returns_0 ∷ [])) ≡ Some (0, Rule.Field)
main_has_a_parameter = refl

main_gives_nothing : code_fault (plain (function 0 0 1 false (op.Return ∷ []) ∷ [])) ≡ Some (0, Rule.Field)
main_gives_nothing = refl

-- ---- counting

-- a code of one function that counts, with so many counters, paths and rows, and this table
abbrev counting : Bool → ℕ → ℕ → ℕ → List ℕ → List Op → CodeValue
counting covered counters paths passes table ops = record {
  stamp = 0;
  covered = covered;
  main = 0;
  globals = [];
  functions = record {
    params = 0;
    cells = 0;
    depth = 1;
    gives = true;
    checksum = 0;
    counters = counters;
    paths = paths;
    passes = passes;
    ops = ops;
    table = table;
  } ∷ [];
}

abbrev table_breaks : ℕ → ℕ → List ℕ → Option (ℕ × Rule)
table_breaks paths passes table = code_fault (counting true 0 paths passes table returns_0)

plain_code_has_no_counters : code_fault (counting false 1 0 0 [] returns_0) ≡ Some (0, Rule.Field)
plain_code_has_no_counters = refl

counters_at_the_limit : code_fault (counting true 4096 0 0 [] returns_0) ≡ None
counters_at_the_limit = refl

counters_past_the_limit : code_fault (counting true 4097 0 0 [] returns_0) ≡ Some (0, Rule.Field)
counters_past_the_limit = refl

paths_at_the_limit : table_breaks 65536 0 (0 ∷ []) ≡ None
paths_at_the_limit = refl

paths_past_the_limit : table_breaks 65537 0 (0 ∷ []) ≡ Some (0, Rule.Field)
paths_past_the_limit = refl

rows_without_paths : table_breaks 0 1 [] ≡ Some (0, Rule.Field)
rows_without_paths = refl

last_counter : code_fault (counting true 1 0 0 [] (op.Count 0 ∷ returns_0)) ≡ None
last_counter = refl

last_row : code_fault (counting true 0 1 1 (0 ∷ 0 ∷ []) (op.PathBegin ∷ op.PathPass 0 ∷ returns_0)) ≡ None
last_row = refl

row_past_the_last : code_fault (counting true 0 1 1 (0 ∷ 0 ∷ []) (op.PathBegin ∷ op.PathPass 1 ∷ returns_0))
    ≡ Some (1, Rule.Row)
row_past_the_last = refl

-- ---- tables

table_without_paths : table_breaks 0 0 (0 ∷ []) ≡ Some (1, Rule.Row)
table_without_paths = refl

table_without_its_row : table_breaks 1 1 (0 ∷ []) ≡ Some (1, Rule.Row)
table_without_its_row = refl

table_ends_within_a_row : table_breaks 1 0 (1 ∷ 0 ∷ 0 ∷ []) ≡ Some (3, Rule.Row)
table_ends_within_a_row = refl

table_has_more : table_breaks 1 1 (0 ∷ 0 ∷ 5 ∷ []) ≡ Some (3, Rule.Row)
table_has_more = refl

more_entries_than_words : table_breaks 64 1 (0 ∷ 2 ∷ []) ≡ Some (1, Rule.Field)
more_entries_than_words = refl

two_words_for_65_paths : table_breaks 65 0 (2 ∷ 0 ∷ 0 ∷ 0 ∷ 1 ∷ 0 ∷ 0 ∷ []) ≡ None
two_words_for_65_paths = refl

words_that_do_not_ascend : table_breaks 65 0 (2 ∷ 0 ∷ 0 ∷ 0 ∷ 0 ∷ 0 ∷ 0 ∷ []) ≡ Some (4, Rule.Row)
words_that_do_not_ascend = refl

word_past_the_last : table_breaks 64 1 (0 ∷ 1 ∷ 1 ∷ 0 ∷ 0 ∷ 0 ∷ []) ≡ Some (2, Rule.Row)
word_past_the_last = refl
