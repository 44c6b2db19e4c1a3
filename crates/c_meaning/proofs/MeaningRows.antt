-- The meaning of worked sources, computed.
use Rattle.std.proofs.Common.{◌≡◌, refl, ℕ, List, [], ◌∷◌}
use Rattle.std.specs.Prelude.{codes}
use Rattle.stack_ops.specs.declared.endings.Outcome.{Outcome}
use Rattle.stack_ops.specs.declared.endings.Outcome.TheVariants as outcome
use Rattle.stack_ops.specs.declared.endings.Trap.TheVariants as trap
use Rattle.c_tree.specs.Typed.{Typed}
use Rattle.c_meaning.specs.Meaning.{meaning}
use Rattle.c_meaning.proofs.Sources.{
  counts,
  to_ten,
  sum_of_three,
  one_or_two,
  for_ever,
  exits_deep,
  calls_itself,
  overflows,
  wraps,
  bad_index,
  near_else,
  do_continues,
  for_without_test,
  falls_through,
  chooses_in_an_argument,
  steps_an_index,
  comma_with_void,
  exits_in_an_argument,
  unreached,
  steps_a_char,
  steps_a_bool,
  shifts_a_char,
  compares_unsigned,
  array_in_a_loop,
  signs,
  too_deep,
}

-- a source on an input with so many turns has this output and ending
abbrev pub Means : Typed → List ℕ → ℕ → List ℕ → Outcome → Type 0
Means source input turns output ending = meaning source input turns ≡ record { output = output; ending = ending }

two_as : Means counts (codes "aa") 10 [] (outcome.Returned 2)
two_as = refl

two_turns_are_enough : Means counts (codes "aa") 2 [] (outcome.Returned 2)
two_turns_are_enough = refl

one_turn_is_not : Means counts (codes "aa") 1 [] outcome.OutOfTurns
one_turn_is_not = refl

ten : Means to_ten [] 10 [] (outcome.Returned 10)
ten = refl

three : Means sum_of_three [] 5 [] (outcome.Returned 3)
three = refl

one : Means one_or_two (codes "x") 0 [] (outcome.Returned 1)
one = refl

two : Means one_or_two [] 0 [] (outcome.Returned 2)
two = refl

never : Means for_ever [] 3 [] outcome.OutOfTurns
never = refl

exit_from_two_calls_down : Means exits_deep [] 2 [] (outcome.Exited 5)
exit_from_two_calls_down = refl

recursion : Means calls_itself [] 2 [] (outcome.Returned 1)
recursion = refl

recursion_out_of_turns : Means calls_itself [] 1 [] outcome.OutOfTurns
recursion_out_of_turns = refl

sum_too_large : Means overflows [] 0 [] (outcome.Trapped trap.Overflow 3)
sum_too_large = refl

unsigned_sum : Means wraps [] 0 [] (outcome.Returned 0)
unsigned_sum = refl

index_before_value : Means bad_index [] 0 [] (outcome.Trapped trap.BadIndex 4)
index_before_value = refl

else_of_the_near_if : Means near_else [] 0 [] (outcome.Returned 2)
else_of_the_near_if = refl

continue_in_a_do : Means do_continues [] 5 [] (outcome.Returned 4)
continue_in_a_do = refl

break_from_a_for : Means for_without_test [] 2 [] (outcome.Returned 2)
break_from_a_for = refl

from_a : Means falls_through (codes "a") 0 (codes "123") (outcome.Returned 0)
from_a = refl

from_c : Means falls_through (codes "c") 0 (codes "4") (outcome.Returned 0)
from_c = refl

from_the_default : Means falls_through [] 0 (codes "23") (outcome.Returned 0)
from_the_default = refl

choice : Means chooses_in_an_argument (codes "ac") 1 (1 ∷ []) (outcome.Returned 1)
choice = refl

no_choice : Means chooses_in_an_argument (codes "b") 1 (0 ∷ []) (outcome.Returned 0)
no_choice = refl

-- 3 + (10 + 1) is 14, and i is 1
index_steps_once : Means steps_an_index (10 ∷ []) 0 [] (outcome.Returned 141)
index_steps_once = refl

void_side : Means comma_with_void [] 1 (codes "f") (outcome.Returned 7)
void_side = refl

exit_in_an_argument : Means exits_in_an_argument [] 3 (codes "f") (outcome.Exited 4)
exit_in_an_argument = refl

behind_a_return : Means unreached [] 0 [] (outcome.Returned 1)
behind_a_return = refl

-- 128 becomes -128, and the status is 128
char_wraps : Means steps_a_char [] 0 [] (outcome.Returned 128)
char_wraps = refl

bool_turns_over : Means steps_a_bool [] 0 [] (outcome.Returned 1)
bool_turns_over = refl

-- 1020 becomes 252
shift_at_int : Means shifts_a_char [] 0 [] (outcome.Returned 252)
shift_at_int = refl

-- -1 becomes 4294967295; added to 1 that is 0
sum_without_sign : Means compares_unsigned [] 0 [] (outcome.Returned 0)
sum_without_sign = refl

-- 3 and 4: 34, since a[1] is 0 again
zeros_again : Means array_in_a_loop (3 ∷ 4 ∷ []) 2 [] (outcome.Returned 34)
zeros_again = refl

-- a[0] is -3, whose complement is 2, and i is 1
signs_and_logic : Means signs [] 0 [] (outcome.Returned 1)
signs_and_logic = refl

frames_run_out : Means too_deep [] 3000 [] (outcome.Trapped trap.CallDepth 1)
frames_run_out = refl

turns_run_out_before : Means too_deep [] 1999 [] outcome.OutOfTurns
turns_run_out_before = refl
