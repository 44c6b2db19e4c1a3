-- The output and the ending of expressions by the meaning, computed.
use Rattle.std.proofs.Common.{refl, [], ◌∷◌}
use Rattle.std.specs.Prelude.{codes}
use Rattle.stack_ops.specs.declared.endings.Outcome.TheVariants as outcome
use Rattle.c_meaning.proofs.MeaningRows.{Means}
use Rattle.c_meaning.proofs.ExpressionSources.{
  puts_bytes,
  without_return,
  copies,
  adds_to_itself,
  adds_to_an_element,
  takes_from_a_global,
  assigns_an_element,
  all_steps,
  steps_in_a_sum,
  all_operators,
  below_zero,
  all_comparisons,
  all_changes,
  all_signs,
  steps_globals,
  steps_elements,
  takes_bytes,
  two_arguments,
  call_in_a_call,
  own_cells,
  fresh_cells,
  main_again,
  logic,
  leaves_out_sides,
  chooses,
  void_sides,
  gives_minus_one,
  gives_minus_256,
  gives_511,
  exits_below_zero,
  exits_with_300,
  exits_in_a_test,
  exits_in_a_list,
  list_reads_itself,
  exits_as_an_argument,
}

put_gives_the_byte_put : Means puts_bytes [] 0 (255 ∷ 65 ∷ []) (outcome.Returned 64)
put_gives_the_byte_put = refl

end_of_a_function_gives_zero : Means without_return [] 1 [] (outcome.Returned 5)
end_of_a_function_gives_zero = refl

copies_up_to_the_end : Means copies (codes "ab") 2 (codes "ab") (outcome.Returned 2)
copies_up_to_the_end = refl

byte_255_is_not_the_end : Means copies (255 ∷ 0 ∷ []) 2 (255 ∷ 0 ∷ []) (outcome.Returned 2)
byte_255_is_not_the_end = refl

nothing_to_copy : Means copies [] 0 [] (outcome.Returned 2)
nothing_to_copy = refl

old_value_before_the_right_side : Means adds_to_itself [] 0 [] (outcome.Returned 6)
old_value_before_the_right_side = refl

old_element_before_the_right_side : Means adds_to_an_element [] 1 [] (outcome.Returned 6)
old_element_before_the_right_side = refl

old_global_before_the_right_side : Means takes_from_a_global [] 1 [] (outcome.Returned 8)
old_global_before_the_right_side = refl

element_before_the_right_side : Means assigns_an_element [] 0 [] (outcome.Returned 10)
element_before_the_right_side = refl

values_of_steps : Means all_steps [] 0 (5 ∷ 5 ∷ 3 ∷ 3 ∷ []) (outcome.Returned 4)
values_of_steps = refl

steps_from_left_to_right : Means steps_in_a_sum [] 0 [] (outcome.Returned 123)
steps_from_left_to_right = refl

operators_of_numbers : Means all_operators [] 0 (35 ∷ 23 ∷ 174 ∷ 4 ∷ 5 ∷ 116 ∷ 7 ∷ 4 ∷ 27 ∷ 31 ∷ [])
    (outcome.Returned 0)
operators_of_numbers = refl

operators_below_zero : Means below_zero [] 0 (7 ∷ 9 ∷ 6 ∷ 9 ∷ 5 ∷ 2 ∷ 1 ∷ 7 ∷ 11 ∷ []) (outcome.Returned 49)
operators_below_zero = refl

comparisons : Means all_comparisons [] 0 (0 ∷ 1 ∷ 0 ∷ 0 ∷ 1 ∷ 1 ∷ 1 ∷ 0 ∷ 0 ∷ 1 ∷ 0 ∷ 1 ∷ 0 ∷ 1 ∷ 1 ∷ 0 ∷ [])
    (outcome.Returned 0)
comparisons = refl

operators_that_assign : Means all_changes [] 0 (123 ∷ 120 ∷ 240 ∷ 34 ∷ 14 ∷ 112 ∷ 56 ∷ 48 ∷ 37 ∷ 47 ∷ [])
    (outcome.Returned 47)
operators_that_assign = refl

signs_of_a_number : Means all_signs [] 0 (5 ∷ 4 ∷ 5 ∷ 0 ∷ 1 ∷ 3 ∷ []) (outcome.Returned 5)
signs_of_a_number = refl

steps_of_globals : Means steps_globals [] 0 (4 ∷ 4 ∷ 4 ∷ 4 ∷ 21 ∷ 42 ∷ 2 ∷ 2 ∷ 3 ∷ 3 ∷ 24 ∷ 7 ∷ [])
    (outcome.Returned 31)
steps_of_globals = refl

steps_of_elements : Means steps_elements [] 0 (2 ∷ 2 ∷ 3 ∷ 3 ∷ 11 ∷ 7 ∷ []) (outcome.Returned 117)
steps_of_elements = refl

left_side_before_the_right : Means takes_bytes (200 ∷ []) 0 [] (outcome.Returned 201)
left_side_before_the_right = refl

arguments_from_left_to_right : Means two_arguments (3 ∷ 4 ∷ []) 1 [] (outcome.Returned 34)
arguments_from_left_to_right = refl

call_takes_a_turn : Means call_in_a_call [] 0 [] outcome.OutOfTurns
call_takes_a_turn = refl

arguments_before_the_turn : Means call_in_a_call [] 1 (codes "g") outcome.OutOfTurns
arguments_before_the_turn = refl

two_calls_two_turns : Means call_in_a_call [] 2 (codes "gf") (outcome.Returned 4)
two_calls_two_turns = refl

caller_keeps_its_cells : Means own_cells [] 2 [] (outcome.Returned 37)
caller_keeps_its_cells = refl

cells_begin_at_zero : Means fresh_cells [] 2 [] (outcome.Returned 11)
cells_begin_at_zero = refl

main_calls_itself : Means main_again [] 2 [] (outcome.Returned 21)
main_calls_itself = refl

main_has_one_turn : Means main_again [] 1 [] outcome.OutOfTurns
main_has_one_turn = refl

both_zero : Means logic (0 ∷ 0 ∷ []) 0 (codes "34") (outcome.Returned 1)
both_zero = refl

right_is_not_zero : Means logic (0 ∷ 1 ∷ []) 0 (codes "234") (outcome.Returned 3)
right_is_not_zero = refl

left_is_not_zero : Means logic (1 ∷ 0 ∷ []) 0 (codes "24") (outcome.Returned 2)
left_is_not_zero = refl

neither_is_zero : Means logic (2 ∷ 3 ∷ []) 0 (codes "12") (outcome.Returned 6)
neither_is_zero = refl

sides_left_out : Means leaves_out_sides [] 0 (codes "B") (outcome.Returned 2)
sides_left_out = refl

choice_in_a_choice : Means chooses [] 0 (codes "B") (outcome.Returned 66)
choice_in_a_choice = refl

void_choices_and_casts : Means void_sides [] 4 (codes "001a0") (outcome.Returned 0)
void_choices_and_casts = refl

status_of_minus_one : Means gives_minus_one [] 0 [] (outcome.Returned 255)
status_of_minus_one = refl

status_of_minus_256 : Means gives_minus_256 [] 0 [] (outcome.Returned 0)
status_of_minus_256 = refl

status_of_511 : Means gives_511 [] 0 [] (outcome.Returned 255)
status_of_511 = refl

exit_of_minus_one : Means exits_below_zero [] 0 [] (outcome.Exited 255)
exit_of_minus_one = refl

exit_of_300 : Means exits_with_300 [] 0 [] (outcome.Exited 44)
exit_of_300 = refl

exit_in_a_test : Means exits_in_a_test [] 0 (codes "A") (outcome.Exited 65)
exit_in_a_test = refl

exit_in_a_list : Means exits_in_a_list [] 0 (codes "A") (outcome.Exited 3)
exit_in_a_list = refl

list_from_the_first_on : Means list_reads_itself [] 0 [] (outcome.Returned 30)
list_from_the_first_on = refl

exit_as_an_argument : Means exits_as_an_argument [] 1 (codes "A") (outcome.Exited 4)
exit_as_an_argument = refl
