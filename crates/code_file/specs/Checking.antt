-- What the check of a code gives.
use Rattle.std.specs.Prelude.{◌≡◌, ℕ, Some, None, Result, Ok, Err}
use Rattle.std.specs.Option.{option_map}
use Rattle.cov_base.specs.declared.refusal.Refusal.{Refusal}
use Rattle.cov_base.specs.declared.refusal.Refusal.TheVariants as refusal
use Rattle.stack_ops.specs.Code.{CodeValue}
use Rattle.code_runs.specs.Checks as check
use Rattle.code_runs.specs.CodeChecks.{code_fault}
use Rattle.code_checks.specs.declared.rules.RuleFault.{RuleFault}
use Rattle.code_checks.specs.Seen.{placed}
use Rattle.code_file.specs.declared.fault.CodeFault.{CodeFault}
use Rattle.code_file.specs.Reading.{fault_of}

-- the fault of a rule that is broken at a place
abbrev pub placed_fault_of : ℕ × check.Rule → CodeFault
placed_fault_of broken = fault_of broken.1 broken.0

-- the same of the rule as the code names it
abbrev pub fault_at : RuleFault → CodeFault
fault_at broken = placed_fault_of (placed broken)

-- what the check of a code gives: this code, where it breaks no rule; else the fault of the first rule that it breaks
abbrev pub Checks : CodeValue → Result CodeValue (Refusal CodeFault) → Type 0
Checks code (Ok made) = (made ≡ code) × (code_fault code ≡ None)
Checks code (Err (refusal.Refused f)) = option_map placed_fault_of (code_fault code) ≡ Some f
Checks code (Err refusal.NoMemory) = Unit {0}
