-- The walk runs of the pruned graphs of sources of other types have the output and the ending of the meaning, computed.
use Rattle.std.proofs.Common.{refl, []}
use Rattle.c_lower.proofs.WalkRows.{Agrees}
use Rattle.c_meaning.proofs.TypeSources.{
  bool_less_one,
  bool_steps,
  shifts_a_bool,
  byte_wraps,
  short_wraps,
  unsigned_wraps,
  doubles_a_char,
  char_less_unsigned,
  divides_by_unsigned,
  shifts_a_long,
  mixes_operands,
  tests_unsigned_long,
  switch_over_long,
  switch_over_char,
  assigns_a_char,
  casts,
  other_elements,
  other_globals,
  converts_arguments,
  converts_results,
  converts_choices,
}

bool_below_zero : Agrees bool_less_one [] 0
bool_below_zero = refl

steps_of_a_bool : Agrees bool_steps [] 0
steps_of_a_bool = refl

shift_of_a_bool : Agrees shifts_a_bool [] 0
shift_of_a_bool = refl

unsigned_char_wraps : Agrees byte_wraps [] 0
unsigned_char_wraps = refl

short_wraps_around : Agrees short_wraps [] 0
short_wraps_around = refl

unsigned_below_zero : Agrees unsigned_wraps [] 0
unsigned_below_zero = refl

product_in_a_char : Agrees doubles_a_char [] 0
product_in_a_char = refl

char_changed_at_unsigned : Agrees char_less_unsigned [] 0
char_changed_at_unsigned = refl

int_divided_at_unsigned : Agrees divides_by_unsigned [] 0
int_divided_at_unsigned = refl

shift_of_a_long : Agrees shifts_a_long [] 0
shift_of_a_long = refl

operands_of_two_types : Agrees mixes_operands [] 0
operands_of_two_types = refl

greatest_number_is_not_zero : Agrees tests_unsigned_long [] 0
greatest_number_is_not_zero = refl

case_of_a_long : Agrees switch_over_long [] 0
case_of_a_long = refl

case_of_a_char : Agrees switch_over_char [] 0
case_of_a_char = refl

value_of_an_assignment : Agrees assigns_a_char [] 0
value_of_an_assignment = refl

values_of_casts : Agrees casts [] 0
values_of_casts = refl

elements_of_other_types : Agrees other_elements [] 0
elements_of_other_types = refl

globals_of_other_types : Agrees other_globals [] 0
globals_of_other_types = refl

arguments_are_converted : Agrees converts_arguments [] 1
arguments_are_converted = refl

results_are_converted : Agrees converts_results [] 4
results_are_converted = refl

sides_are_converted : Agrees converts_choices [] 0
sides_are_converted = refl
