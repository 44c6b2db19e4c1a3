-- Worked codes, run: each operation once, in codes that are as they would be written by hand.
use Rattle.std.proofs.Common.{◌≡◌, refl, ℕ, ℤ, pos, List, [], ◌∷◌, Bool, true, false, Option, Some}
use Rattle.std.specs.Prelude.{option_map}
use Rattle.int_ops.specs.declared.types.IntType.TheVariants as type
use Rattle.stack_ops.specs.declared.operation.Op.{Op}
use Rattle.stack_ops.specs.declared.operation.Op.TheVariants as op
use Rattle.stack_ops.specs.declared.endings.Outcome.{Outcome}
use Rattle.stack_ops.specs.declared.endings.Outcome.TheVariants as outcome
use Rattle.stack_ops.specs.declared.endings.Trap.TheVariants as trap
use Rattle.stack_ops.specs.Code.{FunctionValue, CodeValue}
use Rattle.code_runs.specs.CodeRun.{goes, first}

-- a function that counts nothing
abbrev pub function : ℕ → ℕ → ℕ → Bool → List Op → FunctionValue
function params cells depth gives ops = record {
  params = params;
  cells = cells;
  depth = depth;
  gives = gives;
  checksum = 0;
  counters = 0;
  paths = 0;
  passes = 0;
  ops = ops;
  table = [];
}

-- a code that counts nothing and has these globals
abbrev pub with_globals : List ℤ → List FunctionValue → CodeValue
with_globals globals functions =
    record { stamp = 0; covered = false; main = 0; globals = globals; functions = functions }

abbrev pub plain : List FunctionValue → CodeValue
plain functions = with_globals [] functions

-- what is made and how it ends
abbrev run : CodeValue → List ℕ → ℕ → Option (List ℕ × Outcome)
run c input n = option_map (λ r. (r.output, r.ending)) (goes 200 c (first c input n))

-- what comes of the operations of one function with three cells, and two globals 7 and 8
abbrev ends : List Op → Option (List ℕ × Outcome)
ends ops = run (with_globals (pos 7 ∷ pos 8 ∷ []) (function 0 3 5 true ops ∷ [])) (65 ∷ []) 1

-- Push 0, Return
abbrev pub gives_0 : CodeValue
gives_0 = plain (function 0 0 1 true (op.Push (pos 0) ∷ op.Return ∷ []) ∷ [])

zero_is_returned : run gives_0 [] 0 ≡ Some ([], outcome.Returned 0)
zero_is_returned = refl

-- while (getchar() == 'a') n++; return n;
abbrev pub counts : CodeValue
counts = plain (function 0 1 2 true (
    op.GetChar ∷ op.Push (pos 97) ∷ op.Equal type.Int 1 ∷ op.IfZero 10
    ∷ op.LoadLocal 0 ∷ op.Push (pos 1) ∷ op.Add type.Int 2 ∷ op.StoreLocal 0 ∷ op.Drop ∷ op.Back 0
    ∷ op.LoadLocal 0 ∷ op.Return ∷ []) ∷ [])

two_turns_read_two_bytes : run counts (97 ∷ 97 ∷ []) 2 ≡ Some ([], outcome.Returned 2)
two_turns_read_two_bytes = refl

one_turn_is_too_few : run counts (97 ∷ 97 ∷ []) 1 ≡ Some ([], outcome.OutOfTurns)
one_turn_is_too_few = refl

-- f(n) = n ? f(n - 1) + 1 : 0, from 3
abbrev pub deep : CodeValue
deep = plain (
    function 0 0 1 true (op.Push (pos 3) ∷ op.Call 1 7 ∷ op.Return ∷ [])
    ∷ function 1 1 2 true (
    op.LoadLocal 0 ∷ op.IfZero 8
    ∷ op.LoadLocal 0 ∷ op.Push (pos 1) ∷ op.Sub type.Int 3 ∷ op.Call 1 3 ∷ op.Push (pos 1) ∷ op.Jump 10
    ∷ op.Push (pos 0) ∷ op.Return ∷ op.Add type.Int 3 ∷ op.Return ∷ []) ∷ [])

each_call_takes_a_turn : run deep [] 4 ≡ Some ([], outcome.Returned 3)
each_call_takes_a_turn = refl

a_call_without_a_turn_is_over : run deep [] 3 ≡ Some ([], outcome.OutOfTurns)
a_call_without_a_turn_is_over = refl

-- int f(int a, int b) { int c; return a - b + c; }, from 9 and 2
arguments_come_in_order : run (plain (
    function 0 0 2 true (op.Push (pos 9) ∷ op.Push (pos 2) ∷ op.Call 1 1 ∷ op.Return ∷ [])
    ∷ function 2 3 2 true (
    op.LoadLocal 0 ∷ op.LoadLocal 1 ∷ op.Sub type.Int 2 ∷ op.LoadLocal 2 ∷ op.Add type.Int 2 ∷ op.Return ∷ [])
    ∷ [])) [] 1 ≡ Some ([], outcome.Returned 7)
arguments_come_in_order = refl

-- a call of a function that gives nothing leaves nothing
nothing_is_given : run (plain (
    function 0 0 1 true (op.Call 1 1 ∷ op.Push (pos 5) ∷ op.Return ∷ [])
    ∷ function 0 0 0 false (op.Return ∷ []) ∷ [])) [] 1 ≡ Some ([], outcome.Returned 5)
nothing_is_given = refl

-- exit ends the run from any call, with its number modulo 256
exit_ends_all_calls : run (plain (
    function 0 0 1 true (op.Call 1 1 ∷ op.Push (pos 5) ∷ op.Return ∷ [])
    ∷ function 0 0 1 false (op.Push (pos 258) ∷ op.Exit ∷ []) ∷ [])) [] 1 ≡ Some ([], outcome.Exited 2)
exit_ends_all_calls = refl

dup_and_swap_and_over : ends (
    op.Push (pos 6) ∷ op.Dup ∷ op.Push (pos 2) ∷ op.Swap ∷ op.Over ∷ op.Sub type.Int 1 ∷ op.Sub type.Int 1
    ∷ op.Add type.Int 1 ∷ op.Return ∷ []) ≡ Some ([], outcome.Returned 4)
dup_and_swap_and_over = refl

drop_and_not : ends (op.Push (pos 0) ∷ op.Push (pos 4) ∷ op.Drop ∷ op.Not ∷ op.Return ∷ [])
    ≡ Some ([], outcome.Returned 1)
drop_and_not = refl

convert_to_a_byte : ends (op.Push (pos 300) ∷ op.Convert type.UnsignedChar ∷ op.Return ∷ [])
    ≡ Some ([], outcome.Returned 44)
convert_to_a_byte = refl

locals_are_kept : ends (op.Push (pos 9) ∷ op.StoreLocal 2 ∷ op.LoadLocal 2 ∷ op.Add type.Int 1 ∷ op.Return ∷ [])
    ≡ Some ([], outcome.Returned 18)
locals_are_kept = refl

globals_are_kept : ends (op.Push (pos 9) ∷ op.StoreGlobal 1 ∷ op.LoadGlobal 0 ∷ op.Sub type.Int 1 ∷ op.Return ∷ [])
    ≡ Some ([], outcome.Returned 2)
globals_are_kept = refl

local_elements : ends (
    op.Push (pos 1) ∷ op.CheckIndex 2 5 ∷ op.Push (pos 9) ∷ op.StoreLocalAt 1 2 ∷ op.Push (pos 1) ∷ op.LoadLocalAt 1 2
    ∷ op.Add type.Int 1 ∷ op.LoadLocal 2 ∷ op.Add type.Int 1 ∷ op.Return ∷ []) ≡ Some ([], outcome.Returned 27)
local_elements = refl

global_elements : ends (
    op.Push (pos 1) ∷ op.Push (pos 9) ∷ op.StoreGlobalAt 0 2 ∷ op.Push (pos 0) ∷ op.LoadGlobalAt 1 1
    ∷ op.Add type.Int 1 ∷ op.Return ∷ []) ≡ Some ([], outcome.Returned 18)
global_elements = refl

an_index_past_its_array_traps : ends (op.Push (pos 2) ∷ op.CheckIndex 2 5 ∷ op.Return ∷ [])
    ≡ Some ([], outcome.Trapped trap.BadIndex 5)
an_index_past_its_array_traps = refl

products : ends (
    op.Push (pos 17) ∷ op.Push (pos 5) ∷ op.Mul type.Int 1 ∷ op.Push (pos 6) ∷ op.Div type.Int 1 ∷ op.Push (pos 8)
    ∷ op.Rem type.Int 1 ∷ op.Return ∷ []) ≡ Some ([], outcome.Returned 6)
products = refl

a_division_by_0_traps : ends (op.Push (pos 1) ∷ op.Push (pos 0) ∷ op.Div type.Int 4 ∷ op.Return ∷ [])
    ≡ Some ([], outcome.Trapped trap.DivideByZero 4)
a_division_by_0_traps = refl

shifts : ends (
    op.Push (pos 5) ∷ op.Push (pos 4) ∷ op.Shl type.Int 1 ∷ op.Push (pos 3) ∷ op.Shr type.Int 1 ∷ op.Return ∷ [])
    ≡ Some ([], outcome.Returned 10)
shifts = refl

comparisons : ends (
    op.Push (pos 1) ∷ op.Push (pos 2) ∷ op.Less type.Int 1 ∷ op.Push (pos 1) ∷ op.Push (pos 2) ∷ op.Greater type.Int 1
    ∷ op.Push (pos 2) ∷ op.LessEqual type.Int 1 ∷ op.Push (pos 1) ∷ op.GreaterEqual type.Int 1
    ∷ op.NotEqual type.Int 1 ∷ op.Return ∷ []) ≡ Some ([], outcome.Returned 0)
comparisons = refl

bits : ends (
    op.Push (pos 12) ∷ op.Push (pos 10) ∷ op.And type.Int 1 ∷ op.Push (pos 3) ∷ op.Xor type.Int 1 ∷ op.Push (pos 16)
    ∷ op.Or type.Int 1 ∷ op.Return ∷ []) ≡ Some ([], outcome.Returned 27)
bits = refl

minus_and_complement : ends (op.Push (pos 5) ∷ op.Minus type.Int 1 ∷ op.Complement type.Int 1 ∷ op.Return ∷ [])
    ≡ Some ([], outcome.Returned 4)
minus_and_complement = refl

bytes_are_read_and_put : ends (
    op.GetChar ∷ op.PutChar 1 ∷ op.GetChar ∷ op.Add type.Int 1 ∷ op.PutChar 1 ∷ op.Return ∷ [])
    ≡ Some (65 ∷ 64 ∷ [], outcome.Returned 64)
bytes_are_read_and_put = refl

-- a test goes where it holds
if_not_goes : ends (op.Push (pos 1) ∷ op.IfNot 4 ∷ op.Push (pos 3) ∷ op.Return ∷ op.Push (pos 2) ∷ op.Return ∷ [])
    ≡ Some ([], outcome.Returned 2)
if_not_goes = refl

-- a case takes its operand only where it goes
a_case_goes : ends (
    op.Push (pos 4) ∷ op.CaseJump (pos 3) 4 ∷ op.CaseJump (pos 4) 4 ∷ op.Return ∷ op.Push (pos 9) ∷ op.Return ∷ [])
    ≡ Some ([], outcome.Returned 9)
a_case_goes = refl

other_cases_leave_their_operand : ends (
    op.Push (pos 5) ∷ op.CaseJump (pos 3) 4 ∷ op.CaseJump (pos 4) 4 ∷ op.Return ∷ op.Push (pos 9) ∷ op.Return ∷ [])
    ≡ Some ([], outcome.Returned 5)
other_cases_leave_their_operand = refl

-- the table of one path, whose begin row sets bit 0, and whose one pass keeps bit 0 and finishes it
abbrev pub marks_paths : CodeValue
marks_paths = record {
  stamp = 0;
  covered = true;
  main = 0;
  globals = [];
  functions = record {
    params = 0;
    cells = 0;
    depth = 1;
    gives = true;
    checksum = 5;
    counters = 1;
    paths = 1;
    passes = 1;
    ops = op.Count 0 ∷ op.PathBegin ∷ op.Push (pos 4) ∷ op.PathPass 0 ∷ op.Return ∷ [];
    table = 1 ∷ 0 ∷ 1 ∷ 0 ∷ 1 ∷ 0 ∷ 1 ∷ 1 ∷ 0 ∷ [];
  } ∷ [];
}

marks_are_told : goes 9 marks_paths (first marks_paths [] 0) ≡ Some (record {
  output = [];
  ending = outcome.Returned 4;
  tally = record {
    counters = (1 ∷ []) ∷ [];
    words = (1 ∷ []) ∷ [];
    marks = record { function = 0; ops = op.Count 0 ∷ op.PathBegin ∷ op.PathPass 0 ∷ [] } ∷ [];
  };
})
marks_are_told = refl
