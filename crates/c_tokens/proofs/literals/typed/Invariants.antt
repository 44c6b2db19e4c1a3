use Rattle.std.proofs.Common.{◌≡◌, drop, pos}
use Rattle.std.specs.Prelude.{find}
use Rattle.int_ops.specs.Ranges.{is_in_range}
use Rattle.c_tokens.proofs.literals.typed.Given as goal

abbrev pub invariant-loop-number_type : goal.invariant-loop-number_type
invariant-loop-number_type l =
    find (λ t. is_in_range t (pos l.number)) (drop l.number_type-index l.types) ≡ find (λ t. is_in_range t (pos l.number)) l.types
