-- The walk runs of the pruned graphs of sources that trap have the output and the ending of the meaning, computed.
use Rattle.std.proofs.Common.{◌≡◌, refl, [], Some}
use Rattle.std.specs.Prelude.{option_map}
use Rattle.stack_ops.specs.declared.endings.Outcome.TheVariants as outcome
use Rattle.stack_ops.specs.declared.endings.Trap.TheVariants as trap
use Rattle.c_lower.specs.Lowered.{unit_of}
use Rattle.flow_graph.specs.Nets.{pruned}
use Rattle.flow_graph.specs.WalkRun.{goes, first}
use Rattle.c_meaning.proofs.Sources.{too_deep}
use Rattle.c_lower.proofs.WalkRows.{Agrees}
use Rattle.c_meaning.proofs.TrapSources.{
  divides,
  remainder,
  divides_itself,
  least_by_minus_one,
  shifts_too_far,
  shifts_down_too_far,
  bool_shifted_too_far,
  negates_the_least,
  subtracts,
  multiplies,
  steps_up,
  steps_down,
  adds,
  adds_a_quotient,
  adds_at_long,
  reads_below,
  reads_behind,
  steps_behind,
  adds_behind,
  far_behind,
  traps_in_a_call,
  traps_in_an_argument,
  traps_in_a_test,
  traps_in_a_list,
  traps_in_a_switch,
}

quotient_by_zero : Agrees divides [] 0
quotient_by_zero = refl

remainder_by_zero : Agrees remainder [] 0
remainder_by_zero = refl

change_by_zero : Agrees divides_itself [] 0
change_by_zero = refl

quotient_too_large : Agrees least_by_minus_one [] 0
quotient_too_large = refl

shift_by_the_width : Agrees shifts_too_far [] 0
shift_by_the_width = refl

shift_below_zero : Agrees shifts_down_too_far [] 0
shift_below_zero = refl

bool_shifted_by_the_width : Agrees bool_shifted_too_far [] 0
bool_shifted_by_the_width = refl

sign_overflows : Agrees negates_the_least [] 0
sign_overflows = refl

difference_overflows : Agrees subtracts [] 0
difference_overflows = refl

product_overflows : Agrees multiplies [] 0
product_overflows = refl

step_after_overflows : Agrees steps_up [] 0
step_after_overflows = refl

step_before_overflows : Agrees steps_down [] 0
step_before_overflows = refl

change_overflows : Agrees adds [] 0
change_overflows = refl

right_side_traps_first : Agrees adds_a_quotient [] 0
right_side_traps_first = refl

long_overflows : Agrees adds_at_long [] 0
long_overflows = refl

index_below_zero : Agrees reads_below [] 0
index_below_zero = refl

element_read_behind_the_end : Agrees reads_behind [] 0
element_read_behind_the_end = refl

step_behind_the_end : Agrees steps_behind [] 0
step_behind_the_end = refl

index_before_the_right_side : Agrees adds_behind [] 0
index_before_the_right_side = refl

greatest_index : Agrees far_behind [] 0
greatest_index = refl

trap_in_a_call : Agrees traps_in_a_call [] 1
trap_in_a_call = refl

trap_before_the_turn : Agrees traps_in_an_argument [] 0
trap_before_the_turn = refl

trap_in_a_test : Agrees traps_in_a_test [] 2
trap_in_a_test = refl

turns_end_before_the_trap : Agrees traps_in_a_test [] 1
turns_end_before_the_trap = refl

trap_in_a_list : Agrees traps_in_a_list [] 0
trap_in_a_list = refl

trap_in_a_switch : Agrees traps_in_a_switch [] 0
trap_in_a_switch = refl

-- 3000 turns are enough for 2000 frames, and 1999 aren't
frames_run_out : option_map (λ w. w.ending) (goes 5000 (pruned (unit_of too_deep))
    (first (pruned (unit_of too_deep)) [] 3000)) ≡ Some (outcome.Trapped trap.CallDepth 1)
frames_run_out = refl

turns_run_out_before : option_map (λ w. w.ending) (goes 5000 (pruned (unit_of too_deep))
    (first (pruned (unit_of too_deep)) [] 1999)) ≡ Some outcome.OutOfTurns
turns_run_out_before = refl
