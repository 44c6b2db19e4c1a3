-- The output and the ending of statements by the meaning, computed.
use Rattle.std.proofs.Common.{refl, [], ◌∷◌}
use Rattle.std.specs.Prelude.{codes}
use Rattle.stack_ops.specs.declared.endings.Outcome.TheVariants as outcome
use Rattle.c_meaning.proofs.MeaningRows.{Means}
use Rattle.c_meaning.proofs.StatementSources.{
  default_first,
  no_default,
  empty_switch,
  only_a_default,
  switch_in_a_while,
  switch_in_a_for,
  switch_in_a_do,
  inside_a_switch,
  jumps_over,
  return_from_within,
  case_in_a_call,
  continue_in_a_do,
  for_with_a_declaration,
  while_with_all,
  for_in_a_for,
  declares_in_blocks,
  steps_for_ever,
  tests_for_ever,
  body_for_ever,
  continues_for_ever,
  breaks_a_while,
  breaks_a_do,
  if_in_an_else,
  counts_words,
}

default_runs_on : Means default_first (5 ∷ []) 0 (codes "x1") (outcome.Returned 0)
default_runs_on = refl

case_behind_the_default : Means default_first (1 ∷ []) 0 (codes "1") (outcome.Returned 0)
case_behind_the_default = refl

case_below_zero : Means default_first [] 0 (codes "-") (outcome.Returned 0)
case_below_zero = refl

no_case_matches : Means no_default (3 ∷ []) 0 [] (outcome.Returned 7)
no_case_matches = refl

item_before_the_first_label : Means no_default (1 ∷ []) 0 (codes "12") (outcome.Returned 7)
item_before_the_first_label = refl

last_case : Means no_default (2 ∷ []) 0 (codes "2") (outcome.Returned 7)
last_case = refl

switch_without_items : Means empty_switch [] 0 (codes "e") (outcome.Returned 7)
switch_without_items = refl

switch_with_only_a_default : Means only_a_default [] 0 (codes "x") (outcome.Returned 7)
switch_with_only_a_default = refl

continue_through_a_switch : Means switch_in_a_while [] 3 (codes ".d.") (outcome.Returned 3)
continue_through_a_switch = refl

continue_takes_a_turn : Means switch_in_a_while [] 2 (codes ".d.") outcome.OutOfTurns
continue_takes_a_turn = refl

continue_goes_to_the_step : Means switch_in_a_for [] 3 (codes "02") (outcome.Returned 3)
continue_goes_to_the_step = refl

continue_goes_to_the_test : Means switch_in_a_do [] 1 [] (outcome.Returned 9)
continue_goes_to_the_test = refl

break_leaves_the_inner : Means inside_a_switch [] 0 (codes "ab") (outcome.Returned 0)
break_leaves_the_inner = refl

declaration_jumped_over : Means jumps_over [] 0 [] (outcome.Returned 0)
declaration_jumped_over = refl

return_from_within_a_loop : Means return_from_within [] 0 [] (outcome.Returned 8)
return_from_within_a_loop = refl

return_without_a_number : Means case_in_a_call [] 3 (codes "e2e") (outcome.Returned 0)
return_without_a_number = refl

continue_alone : Means continue_in_a_do [] 0 [] (outcome.Returned 2)
continue_alone = refl

continue_in_a_for : Means for_with_a_declaration [] 3 (codes "02") (outcome.Returned 5)
continue_in_a_for = refl

for_has_a_turn_less : Means for_with_a_declaration [] 2 (codes "02") outcome.OutOfTurns
for_has_a_turn_less = refl

continue_and_break_in_a_while : Means while_with_all (codes "xayabz") 4 (codes "xy") (outcome.Returned 0)
continue_and_break_in_a_while = refl

break_from_the_inner_for : Means for_in_a_for [] 5 (codes "***") (outcome.Returned 0)
break_from_the_inner_for = refl

loops_share_the_turns : Means for_in_a_for [] 4 (codes "***") outcome.OutOfTurns
loops_share_the_turns = refl

inner_names : Means declares_in_blocks [] 2 (2 ∷ 7 ∷ 7 ∷ []) (outcome.Returned 1)
inner_names = refl

step_before_the_turn : Means steps_for_ever [] 0 (codes "s") outcome.OutOfTurns
step_before_the_turn = refl

step_in_each_turn : Means steps_for_ever [] 2 (codes "sss") outcome.OutOfTurns
step_in_each_turn = refl

test_of_a_do_before_the_turn : Means tests_for_ever [] 0 (codes "c") outcome.OutOfTurns
test_of_a_do_before_the_turn = refl

body_before_the_turn : Means body_for_ever [] 0 (codes "tb") outcome.OutOfTurns
body_before_the_turn = refl

continue_before_the_turn : Means continues_for_ever [] 1 (codes "tt") outcome.OutOfTurns
continue_before_the_turn = refl

break_from_a_while : Means breaks_a_while [] 0 (codes "t") (outcome.Returned 1)
break_from_a_while = refl

break_from_a_do : Means breaks_a_do [] 0 [] (outcome.Returned 1)
break_from_a_do = refl

inner_else : Means if_in_an_else [] 0 [] (outcome.Returned 2)
inner_else = refl

inner_if : Means if_in_an_else (0 ∷ []) 0 [] (outcome.Returned 1)
inner_if = refl

outer_else : Means if_in_an_else (7 ∷ []) 0 [] (outcome.Returned 3)
outer_else = refl

words_of_a_line : Means counts_words (97 ∷ 32 ∷ 98 ∷ 10 ∷ []) 100 (codes "1 2") (outcome.Returned 0)
words_of_a_line = refl
