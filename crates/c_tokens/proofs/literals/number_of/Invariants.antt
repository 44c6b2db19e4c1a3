use Rattle.std.proofs.Common.{◌≡◌, ◌^◌, ◌<◌, drop}
use Rattle.c_tokens.specs.Literals.{number_from}
use Rattle.c_tokens.proofs.literals.number_of.Given as goal

abbrev pub invariant-loop-digit : goal.invariant-loop-digit
invariant-loop-digit l = (number_from l.radix l.number (drop l.digit-index l.digits) ≡ number_from l.radix 0 l.digits) × (l.number < 2 ^ 64)
