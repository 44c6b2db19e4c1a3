-- The walk runs of the pruned graphs of statements have the output and the ending of the meaning, computed.
use Rattle.std.proofs.Common.{◌≡◌, refl, [], ◌∷◌, map, Some}
use Rattle.std.specs.Prelude.{codes, option_map}
use Rattle.cov_base.specs.Walks.{line_passages}
use Rattle.c_lower.specs.Lowered.{unit_of}
use Rattle.flow_graph.specs.Nets.{pruned, net_of}
use Rattle.flow_graph.specs.WalkRun.{goes, first}
use Rattle.c_lower.proofs.WalkRows.{Agrees}
use Rattle.c_meaning.proofs.StatementSources.{
  default_first,
  no_default,
  empty_switch,
  only_a_default,
  switch_in_a_while,
  switch_in_a_for,
  switch_in_a_do,
  inside_a_switch,
  jumps_over,
  return_from_within,
  case_in_a_call,
  continue_in_a_do,
  for_with_a_declaration,
  while_with_all,
  for_in_a_for,
  declares_in_blocks,
  steps_for_ever,
  tests_for_ever,
  body_for_ever,
  continues_for_ever,
  breaks_a_while,
  breaks_a_do,
  if_in_an_else,
  counts_words,
}

default_runs_on : Agrees default_first (5 ∷ []) 0
default_runs_on = refl

case_behind_the_default : Agrees default_first (1 ∷ []) 0
case_behind_the_default = refl

case_below_zero : Agrees default_first [] 0
case_below_zero = refl

no_case_matches : Agrees no_default (3 ∷ []) 0
no_case_matches = refl

item_before_the_first_label : Agrees no_default (1 ∷ []) 0
item_before_the_first_label = refl

last_case : Agrees no_default (2 ∷ []) 0
last_case = refl

switch_without_items : Agrees empty_switch [] 0
switch_without_items = refl

switch_with_only_a_default : Agrees only_a_default [] 0
switch_with_only_a_default = refl

continue_through_a_switch : Agrees switch_in_a_while [] 3
continue_through_a_switch = refl

continue_takes_a_turn : Agrees switch_in_a_while [] 2
continue_takes_a_turn = refl

continue_goes_to_the_step : Agrees switch_in_a_for [] 3
continue_goes_to_the_step = refl

continue_goes_to_the_test : Agrees switch_in_a_do [] 1
continue_goes_to_the_test = refl

break_leaves_the_inner : Agrees inside_a_switch [] 0
break_leaves_the_inner = refl

declaration_jumped_over : Agrees jumps_over [] 0
declaration_jumped_over = refl

return_from_within_a_loop : Agrees return_from_within [] 0
return_from_within_a_loop = refl

return_without_a_number : Agrees case_in_a_call [] 3
return_without_a_number = refl

continue_alone : Agrees continue_in_a_do [] 0
continue_alone = refl

continue_in_a_for : Agrees for_with_a_declaration [] 3
continue_in_a_for = refl

for_has_a_turn_less : Agrees for_with_a_declaration [] 2
for_has_a_turn_less = refl

continue_and_break_in_a_while : Agrees while_with_all (codes "xayabz") 4
continue_and_break_in_a_while = refl

break_from_the_inner_for : Agrees for_in_a_for [] 5
break_from_the_inner_for = refl

loops_share_the_turns : Agrees for_in_a_for [] 4
loops_share_the_turns = refl

inner_names : Agrees declares_in_blocks [] 2
inner_names = refl

step_before_the_turn : Agrees steps_for_ever [] 0
step_before_the_turn = refl

step_in_each_turn : Agrees steps_for_ever [] 2
step_in_each_turn = refl

test_of_a_do_before_the_turn : Agrees tests_for_ever [] 0
test_of_a_do_before_the_turn = refl

body_before_the_turn : Agrees body_for_ever [] 0
body_before_the_turn = refl

continue_before_the_turn : Agrees continues_for_ever [] 1
continue_before_the_turn = refl

break_from_a_while : Agrees breaks_a_while [] 0
break_from_a_while = refl

break_from_a_do : Agrees breaks_a_do [] 0
break_from_a_do = refl

inner_else : Agrees if_in_an_else [] 0
inner_else = refl

inner_if : Agrees if_in_an_else (0 ∷ []) 0
inner_if = refl

outer_else : Agrees if_in_an_else (7 ∷ []) 0
outer_else = refl

words_of_a_line : Agrees counts_words (97 ∷ 32 ∷ 98 ∷ 10 ∷ []) 100
words_of_a_line = refl

-- the passages of the lines 1 to 24
lines_of_two_words : option_map (λ w. map (λ line. line_passages (map net_of ((pruned (unit_of counts_words)).graphs))
    w.walks line)
    (1 ∷ 2 ∷ 3 ∷ 4 ∷ 5 ∷ 6 ∷ 7 ∷ 8 ∷ 9 ∷ 10 ∷ 11 ∷ 12 ∷ 13 ∷ 14 ∷ 15 ∷ 16 ∷ 17 ∷ 18 ∷ 19 ∷ 20 ∷ 21 ∷ 22 ∷ 23 ∷ 24 ∷ []))
    (goes 300 (pruned (unit_of counts_words)) (first (pruned (unit_of counts_words)) (97 ∷ 32 ∷ 98 ∷ 10 ∷ []) 100))
    ≡ Some (0 ∷ 4 ∷ 4 ∷ 2 ∷ 2 ∷ 0 ∷ 0 ∷ 2 ∷ 2 ∷ 2 ∷ 0 ∷ 1 ∷ 1 ∷ 5 ∷ 4 ∷ 4 ∷ 2 ∷ 0 ∷ 1 ∷ 1 ∷ 1 ∷ 1 ∷ 0 ∷ 0 ∷ [])
lines_of_two_words = refl
