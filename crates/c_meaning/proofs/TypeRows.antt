-- The output and the ending of sources of other types by the meaning, computed.
use Rattle.std.proofs.Common.{refl, [], ◌∷◌}
use Rattle.std.specs.Prelude.{codes}
use Rattle.stack_ops.specs.declared.endings.Outcome.TheVariants as outcome
use Rattle.c_meaning.proofs.MeaningRows.{Means}
use Rattle.c_meaning.proofs.TypeSources.{
  bool_less_one,
  bool_steps,
  shifts_a_bool,
  byte_wraps,
  short_wraps,
  unsigned_wraps,
  doubles_a_char,
  char_less_unsigned,
  divides_by_unsigned,
  shifts_a_long,
  mixes_operands,
  tests_unsigned_long,
  switch_over_long,
  switch_over_char,
  assigns_a_char,
  casts,
  other_elements,
  other_globals,
  converts_arguments,
  converts_results,
  converts_choices,
}

bool_below_zero : Means bool_less_one [] 0 [] (outcome.Returned 1)
bool_below_zero = refl

steps_of_a_bool : Means bool_steps [] 0 (1 ∷ 1 ∷ 0 ∷ 0 ∷ 1 ∷ []) (outcome.Returned 1)
steps_of_a_bool = refl

shift_of_a_bool : Means shifts_a_bool [] 0 [] (outcome.Returned 1)
shift_of_a_bool = refl

unsigned_char_wraps : Means byte_wraps [] 0 (255 ∷ 255 ∷ 0 ∷ []) (outcome.Returned 0)
unsigned_char_wraps = refl

short_wraps_around : Means short_wraps [] 0 [] (outcome.Returned 1)
short_wraps_around = refl

unsigned_below_zero : Means unsigned_wraps [] 0 [] (outcome.Returned 1)
unsigned_below_zero = refl

product_in_a_char : Means doubles_a_char [] 0 [] (outcome.Returned 144)
product_in_a_char = refl

char_changed_at_unsigned : Means char_less_unsigned [] 0 [] (outcome.Returned 255)
char_changed_at_unsigned = refl

int_divided_at_unsigned : Means divides_by_unsigned [] 0 [] (outcome.Returned 1)
int_divided_at_unsigned = refl

shift_of_a_long : Means shifts_a_long [] 0 [] (outcome.Returned 4)
shift_of_a_long = refl

operands_of_two_types : Means mixes_operands [] 0 (1 ∷ 1 ∷ 0 ∷ 1 ∷ 1 ∷ 1 ∷ 3 ∷ []) (outcome.Returned 3)
operands_of_two_types = refl

greatest_number_is_not_zero : Means tests_unsigned_long [] 0 [] (outcome.Returned 3)
greatest_number_is_not_zero = refl

case_of_a_long : Means switch_over_long [] 0 [] (outcome.Returned 2)
case_of_a_long = refl

case_of_a_char : Means switch_over_char [] 0 (codes "bc") (outcome.Returned 0)
case_of_a_char = refl

value_of_an_assignment : Means assigns_a_char [] 0 [] (outcome.Returned 44)
value_of_an_assignment = refl

values_of_casts : Means casts [] 0 (1 ∷ 1 ∷ 1 ∷ 1 ∷ []) (outcome.Returned 255)
values_of_casts = refl

elements_of_other_types : Means other_elements [] 0 (44 ∷ 0 ∷ 44 ∷ 1 ∷ 1 ∷ 1 ∷ 0 ∷ []) (outcome.Returned 204)
elements_of_other_types = refl

globals_of_other_types : Means other_globals [] 0 (4 ∷ 3 ∷ []) (outcome.Returned 1)
globals_of_other_types = refl

arguments_are_converted : Means converts_arguments [] 1 [] (outcome.Returned 0)
arguments_are_converted = refl

results_are_converted : Means converts_results [] 4 (1 ∷ 200 ∷ 1 ∷ []) (outcome.Returned 1)
results_are_converted = refl

sides_are_converted : Means converts_choices [] 0 (1 ∷ 0 ∷ 1 ∷ []) (outcome.Returned 0)
sides_are_converted = refl
