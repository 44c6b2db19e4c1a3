-- The output and the ending of sources that trap by the meaning, computed.
use Rattle.std.proofs.Common.{refl, []}
use Rattle.std.specs.Prelude.{codes}
use Rattle.stack_ops.specs.declared.endings.Outcome.TheVariants as outcome
use Rattle.stack_ops.specs.declared.endings.Trap.TheVariants as trap
use Rattle.c_meaning.proofs.MeaningRows.{Means}
use Rattle.c_meaning.proofs.TrapSources.{
  divides,
  remainder,
  divides_itself,
  least_by_minus_one,
  shifts_too_far,
  shifts_down_too_far,
  bool_shifted_too_far,
  negates_the_least,
  subtracts,
  multiplies,
  steps_up,
  steps_down,
  adds,
  adds_a_quotient,
  adds_at_long,
  reads_below,
  reads_behind,
  steps_behind,
  adds_behind,
  far_behind,
  traps_in_a_call,
  traps_in_an_argument,
  traps_in_a_test,
  traps_in_a_list,
  traps_in_a_switch,
}

quotient_by_zero : Means divides [] 0 (codes "a") (outcome.Trapped trap.DivideByZero 4)
quotient_by_zero = refl

remainder_by_zero : Means remainder [] 0 [] (outcome.Trapped trap.DivideByZero 3)
remainder_by_zero = refl

change_by_zero : Means divides_itself [] 0 [] (outcome.Trapped trap.DivideByZero 4)
change_by_zero = refl

quotient_too_large : Means least_by_minus_one [] 0 [] (outcome.Trapped trap.Overflow 3)
quotient_too_large = refl

shift_by_the_width : Means shifts_too_far [] 0 [] (outcome.Trapped trap.ShiftRange 3)
shift_by_the_width = refl

shift_below_zero : Means shifts_down_too_far [] 0 [] (outcome.Trapped trap.ShiftRange 3)
shift_below_zero = refl

bool_shifted_by_the_width : Means bool_shifted_too_far [] 0 [] (outcome.Trapped trap.ShiftRange 3)
bool_shifted_by_the_width = refl

sign_overflows : Means negates_the_least [] 0 [] (outcome.Trapped trap.Overflow 3)
sign_overflows = refl

difference_overflows : Means subtracts [] 0 [] (outcome.Trapped trap.Overflow 4)
difference_overflows = refl

product_overflows : Means multiplies [] 0 [] (outcome.Trapped trap.Overflow 3)
product_overflows = refl

step_after_overflows : Means steps_up [] 0 [] (outcome.Trapped trap.Overflow 3)
step_after_overflows = refl

step_before_overflows : Means steps_down [] 0 [] (outcome.Trapped trap.Overflow 3)
step_before_overflows = refl

change_overflows : Means adds [] 0 (codes "A") (outcome.Trapped trap.Overflow 3)
change_overflows = refl

right_side_traps_first : Means adds_a_quotient [] 0 (codes "A") (outcome.Trapped trap.DivideByZero 3)
right_side_traps_first = refl

long_overflows : Means adds_at_long [] 0 [] (outcome.Trapped trap.Overflow 3)
long_overflows = refl

index_below_zero : Means reads_below [] 0 (codes "x") (outcome.Trapped trap.BadIndex 3)
index_below_zero = refl

element_read_behind_the_end : Means reads_behind [] 0 [] (outcome.Trapped trap.BadIndex 4)
element_read_behind_the_end = refl

step_behind_the_end : Means steps_behind [] 0 [] (outcome.Trapped trap.BadIndex 3)
step_behind_the_end = refl

index_before_the_right_side : Means adds_behind [] 0 [] (outcome.Trapped trap.BadIndex 3)
index_before_the_right_side = refl

greatest_index : Means far_behind [] 0 [] (outcome.Trapped trap.BadIndex 3)
greatest_index = refl

trap_in_a_call : Means traps_in_a_call [] 1 (codes "A") (outcome.Trapped trap.DivideByZero 2)
trap_in_a_call = refl

trap_before_the_turn : Means traps_in_an_argument [] 0 [] (outcome.Trapped trap.DivideByZero 4)
trap_before_the_turn = refl

trap_in_a_test : Means traps_in_a_test [] 2 (codes "tt") (outcome.Trapped trap.DivideByZero 3)
trap_in_a_test = refl

turns_end_before_the_trap : Means traps_in_a_test [] 1 (codes "tt") outcome.OutOfTurns
turns_end_before_the_trap = refl

trap_in_a_list : Means traps_in_a_list [] 0 (codes "A") (outcome.Trapped trap.DivideByZero 2)
trap_in_a_list = refl

trap_in_a_switch : Means traps_in_a_switch [] 0 [] (outcome.Trapped trap.Overflow 2)
trap_in_a_switch = refl
