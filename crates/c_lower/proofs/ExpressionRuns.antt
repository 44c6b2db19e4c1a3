-- The walk runs of the pruned graphs of expressions have the output and the ending of the meaning, computed.
use Rattle.std.proofs.Common.{refl, [], ◌∷◌}
use Rattle.std.specs.Prelude.{codes}
use Rattle.c_lower.proofs.WalkRows.{Agrees}
use Rattle.c_meaning.proofs.ExpressionSources.{
  puts_bytes,
  without_return,
  copies,
  adds_to_itself,
  adds_to_an_element,
  takes_from_a_global,
  assigns_an_element,
  all_steps,
  steps_in_a_sum,
  all_operators,
  below_zero,
  all_comparisons,
  all_changes,
  all_signs,
  steps_globals,
  steps_elements,
  takes_bytes,
  two_arguments,
  call_in_a_call,
  own_cells,
  fresh_cells,
  main_again,
  logic,
  leaves_out_sides,
  chooses,
  void_sides,
  gives_minus_one,
  gives_minus_256,
  gives_511,
  exits_below_zero,
  exits_with_300,
  exits_in_a_test,
  exits_in_a_list,
  list_reads_itself,
  exits_as_an_argument,
}

put_gives_the_byte_put : Agrees puts_bytes [] 0
put_gives_the_byte_put = refl

end_of_a_function_gives_zero : Agrees without_return [] 1
end_of_a_function_gives_zero = refl

copies_up_to_the_end : Agrees copies (codes "ab") 2
copies_up_to_the_end = refl

byte_255_is_not_the_end : Agrees copies (255 ∷ 0 ∷ []) 2
byte_255_is_not_the_end = refl

nothing_to_copy : Agrees copies [] 0
nothing_to_copy = refl

old_value_before_the_right_side : Agrees adds_to_itself [] 0
old_value_before_the_right_side = refl

old_element_before_the_right_side : Agrees adds_to_an_element [] 1
old_element_before_the_right_side = refl

old_global_before_the_right_side : Agrees takes_from_a_global [] 1
old_global_before_the_right_side = refl

element_before_the_right_side : Agrees assigns_an_element [] 0
element_before_the_right_side = refl

values_of_steps : Agrees all_steps [] 0
values_of_steps = refl

steps_from_left_to_right : Agrees steps_in_a_sum [] 0
steps_from_left_to_right = refl

operators_of_numbers : Agrees all_operators [] 0
operators_of_numbers = refl

operators_below_zero : Agrees below_zero [] 0
operators_below_zero = refl

comparisons : Agrees all_comparisons [] 0
comparisons = refl

operators_that_assign : Agrees all_changes [] 0
operators_that_assign = refl

signs_of_a_number : Agrees all_signs [] 0
signs_of_a_number = refl

steps_of_globals : Agrees steps_globals [] 0
steps_of_globals = refl

steps_of_elements : Agrees steps_elements [] 0
steps_of_elements = refl

left_side_before_the_right : Agrees takes_bytes (200 ∷ []) 0
left_side_before_the_right = refl

arguments_from_left_to_right : Agrees two_arguments (3 ∷ 4 ∷ []) 1
arguments_from_left_to_right = refl

call_takes_a_turn : Agrees call_in_a_call [] 0
call_takes_a_turn = refl

arguments_before_the_turn : Agrees call_in_a_call [] 1
arguments_before_the_turn = refl

two_calls_two_turns : Agrees call_in_a_call [] 2
two_calls_two_turns = refl

caller_keeps_its_cells : Agrees own_cells [] 2
caller_keeps_its_cells = refl

cells_begin_at_zero : Agrees fresh_cells [] 2
cells_begin_at_zero = refl

main_calls_itself : Agrees main_again [] 2
main_calls_itself = refl

main_has_one_turn : Agrees main_again [] 1
main_has_one_turn = refl

both_zero : Agrees logic (0 ∷ 0 ∷ []) 0
both_zero = refl

right_is_not_zero : Agrees logic (0 ∷ 1 ∷ []) 0
right_is_not_zero = refl

left_is_not_zero : Agrees logic (1 ∷ 0 ∷ []) 0
left_is_not_zero = refl

neither_is_zero : Agrees logic (2 ∷ 3 ∷ []) 0
neither_is_zero = refl

sides_left_out : Agrees leaves_out_sides [] 0
sides_left_out = refl

choice_in_a_choice : Agrees chooses [] 0
choice_in_a_choice = refl

void_choices_and_casts : Agrees void_sides [] 4
void_choices_and_casts = refl

status_of_minus_one : Agrees gives_minus_one [] 0
status_of_minus_one = refl

status_of_minus_256 : Agrees gives_minus_256 [] 0
status_of_minus_256 = refl

status_of_511 : Agrees gives_511 [] 0
status_of_511 = refl

exit_of_minus_one : Agrees exits_below_zero [] 0
exit_of_minus_one = refl

exit_of_300 : Agrees exits_with_300 [] 0
exit_of_300 = refl

exit_in_a_test : Agrees exits_in_a_test [] 0
exit_in_a_test = refl

exit_in_a_list : Agrees exits_in_a_list [] 0
exit_in_a_list = refl

list_from_the_first_on : Agrees list_reads_itself [] 0
list_from_the_first_on = refl

exit_as_an_argument : Agrees exits_as_an_argument [] 1
exit_as_an_argument = refl
