-- The runs of worked sources over their pruned graphs, computed: outputs, endings, walks and passages.
use Rattle.std.proofs.Common.{◌≡◌, refl, ℕ, List, [], ◌∷◌, map, Option, Some}
use Rattle.std.specs.Prelude.{codes, option_map}
use Rattle.cov_base.specs.Walks.{Walk, passages, line_passages}
use Rattle.c_tree.specs.Typed.{Typed}
use Rattle.stack_ops.specs.declared.endings.Outcome.{Outcome}
use Rattle.stack_ops.specs.declared.endings.Outcome.TheVariants as outcome
use Rattle.stack_ops.specs.declared.endings.Trap.TheVariants as trap
use Rattle.c_meaning.specs.Meaning.{meaning}
use Rattle.c_lower.specs.Lowered.{unit_of}
use Rattle.flow_graph.specs.Nets.{pruned, net_of, real}
use Rattle.flow_graph.specs.WalkRun.{Walked, goes, first}
use Rattle.c_meaning.proofs.Sources.{
  counts,
  to_ten,
  sum_of_three,
  one_or_two,
  for_ever,
  exits_deep,
  calls_itself,
  overflows,
  wraps,
  bad_index,
  near_else,
  do_continues,
  for_without_test,
  falls_through,
  chooses_in_an_argument,
  steps_an_index,
  comma_with_void,
  exits_in_an_argument,
  unreached,
  steps_a_char,
  steps_a_bool,
  shifts_a_char,
  compares_unsigned,
  array_in_a_loop,
  signs,
}

-- The walk run of a source's pruned graphs, of at most 300 blocks, has the output and the ending of the meaning.
abbrev pub Agrees : Typed → List ℕ → ℕ → Type 0
Agrees source input turns =
    option_map (λ w. record { output = w.output; ending = w.ending })
    (goes 300 (pruned (unit_of source)) (first (pruned (unit_of source)) input turns)) ≡ Some
    (meaning source input turns)

-- a run of at most 60 blocks
abbrev walked : Typed → List ℕ → ℕ → Option Walked
walked t input n = goes 60 (pruned (unit_of t)) (first (pruned (unit_of t)) input n)

abbrev run : Typed → List ℕ → ℕ → Option (List ℕ × Outcome)
run t input n = option_map (λ w. (w.output, w.ending)) (walked t input n)

abbrev came : List ℕ → Outcome → Option (List ℕ × Outcome)
came output ending = Some (output, ending)

two_as : run counts (codes "aa") 10 ≡ came [] (outcome.Returned 2)
two_as = refl

two_turns_are_enough : run counts (codes "aa") 2 ≡ came [] (outcome.Returned 2)
two_turns_are_enough = refl

one_turn_is_not : run counts (codes "aa") 1 ≡ came [] outcome.OutOfTurns
one_turn_is_not = refl

ten : run to_ten [] 10 ≡ came [] (outcome.Returned 10)
ten = refl

three : run sum_of_three [] 5 ≡ came [] (outcome.Returned 3)
three = refl

one : run one_or_two (codes "x") 0 ≡ came [] (outcome.Returned 1)
one = refl

two : run one_or_two [] 0 ≡ came [] (outcome.Returned 2)
two = refl

never : run for_ever [] 3 ≡ came [] outcome.OutOfTurns
never = refl

exit_from_two_calls_down : run exits_deep [] 2 ≡ came [] (outcome.Exited 5)
exit_from_two_calls_down = refl

recursion : run calls_itself [] 2 ≡ came [] (outcome.Returned 1)
recursion = refl

recursion_out_of_turns : run calls_itself [] 1 ≡ came [] outcome.OutOfTurns
recursion_out_of_turns = refl

sum_too_large : run overflows [] 0 ≡ came [] (outcome.Trapped trap.Overflow 3)
sum_too_large = refl

unsigned_sum : run wraps [] 0 ≡ came [] (outcome.Returned 0)
unsigned_sum = refl

index_before_value : run bad_index [] 0 ≡ came [] (outcome.Trapped trap.BadIndex 4)
index_before_value = refl

else_of_the_near_if : run near_else [] 0 ≡ came [] (outcome.Returned 2)
else_of_the_near_if = refl

continue_in_a_do : run do_continues [] 5 ≡ came [] (outcome.Returned 4)
continue_in_a_do = refl

break_from_a_for : run for_without_test [] 2 ≡ came [] (outcome.Returned 2)
break_from_a_for = refl

from_a : run falls_through (codes "a") 0 ≡ came (codes "123") (outcome.Returned 0)
from_a = refl

from_c : run falls_through (codes "c") 0 ≡ came (codes "4") (outcome.Returned 0)
from_c = refl

from_the_default : run falls_through [] 0 ≡ came (codes "23") (outcome.Returned 0)
from_the_default = refl

choice : run chooses_in_an_argument (codes "ac") 1 ≡ came (1 ∷ []) (outcome.Returned 1)
choice = refl

no_choice : run chooses_in_an_argument (codes "b") 1 ≡ came (0 ∷ []) (outcome.Returned 0)
no_choice = refl

index_steps_once : run steps_an_index (10 ∷ []) 0 ≡ came [] (outcome.Returned 141)
index_steps_once = refl

void_side : run comma_with_void [] 1 ≡ came (codes "f") (outcome.Returned 7)
void_side = refl

exit_in_an_argument : run exits_in_an_argument [] 3 ≡ came (codes "f") (outcome.Exited 4)
exit_in_an_argument = refl

behind_a_return : run unreached [] 0 ≡ came [] (outcome.Returned 1)
behind_a_return = refl

-- ---- walks

abbrev walk : ℕ → List ℕ → Walk
walk f blocks = record { function = f; blocks = blocks }

abbrev walks : Typed → List ℕ → ℕ → Option (List Walk)
walks t input n = option_map (λ w. w.walks) (walked t input n)

-- f is function 0 and main is function 1
walks_of_recursion : walks calls_itself [] 2 ≡ Some
    (walk 1 (0 ∷ 2 ∷ 3 ∷ 1 ∷ []) ∷ walk 0 (0 ∷ 2 ∷ 3 ∷ 4 ∷ 5 ∷ 6 ∷ 1 ∷ []) ∷ walk 0 (0 ∷ 2 ∷ 5 ∷ 7 ∷ 1 ∷ []) ∷ [])
walks_of_recursion = refl

-- an exit closes every open walk
walks_of_an_exit : walks exits_deep [] 2 ≡ Some (walk 2 (0 ∷ 2 ∷ 1 ∷ []) ∷ walk 1 (0 ∷ 2 ∷ 1 ∷ []) ∷ walk 0
    (0 ∷ 2 ∷ 1 ∷ []) ∷ [])
walks_of_an_exit = refl

walks_of_two_as : walks counts (codes "aa") 10 ≡ Some (walk 0 (0 ∷ 2 ∷ 3 ∷ 4 ∷ 3 ∷ 4 ∷ 3 ∷ 5 ∷ 1 ∷ []) ∷ [])
walks_of_two_as = refl

-- the passages of the arcs 0-2, 2-3, 3-4, 3-5, 4-3 and 5-1
passages_of_two_as : option_map (λ ws. map (λ arc. passages ws 0 arc)
    (real 0 2 ∷ real 2 3 ∷ real 3 4 ∷ real 3 5 ∷ real 4 3 ∷ real 5 1 ∷ [])) (walks counts (codes "aa") 10)
    ≡ Some (1 ∷ 1 ∷ 2 ∷ 1 ∷ 2 ∷ 1 ∷ [])
passages_of_two_as = refl

-- the passages of the lines 1 to 5
lines_of_two_as : option_map (λ ws. map (λ line. line_passages (map net_of ((pruned (unit_of counts)).graphs)) ws line)
    (1 ∷ 2 ∷ 3 ∷ 4 ∷ 5 ∷ [])) (walks counts (codes "aa") 10)
    ≡ Some (1 ∷ 1 ∷ 3 ∷ 2 ∷ 1 ∷ [])
lines_of_two_as = refl

-- a loop within one line passes it once, and its way back ten times
back_ten_times : option_map (λ ws. passages ws 0 (real 4 3)) (walks to_ten [] 10) ≡ Some 10
back_ten_times = refl

line_once : option_map (λ ws. line_passages (map net_of ((pruned (unit_of to_ten)).graphs)) ws 3) (walks to_ten [] 10)
    ≡ Some 1
line_once = refl

-- ---- other types than int

char_wraps : run steps_a_char [] 0 ≡ came [] (outcome.Returned 128)
char_wraps = refl

bool_turns_over : run steps_a_bool [] 0 ≡ came [] (outcome.Returned 1)
bool_turns_over = refl

shift_at_int : run shifts_a_char [] 0 ≡ came [] (outcome.Returned 252)
shift_at_int = refl

sum_without_sign : run compares_unsigned [] 0 ≡ came [] (outcome.Returned 0)
sum_without_sign = refl

zeros_again : run array_in_a_loop (3 ∷ 4 ∷ []) 2 ≡ came [] (outcome.Returned 34)
zeros_again = refl

signs_and_logic : run signs [] 0 ≡ came [] (outcome.Returned 1)
signs_and_logic = refl
