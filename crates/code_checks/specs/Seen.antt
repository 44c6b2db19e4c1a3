-- The rules as the code names them.
use Rattle.std.specs.Prelude.{ℕ, Option}
use Rattle.std.specs.Option.{option_map}
use Rattle.code_runs.specs.Checks as check
use Rattle.code_checks.specs.declared.rules.Rule.{Rule}
use Rattle.code_checks.specs.declared.rules.Rule.TheVariants as rule
use Rattle.code_checks.specs.declared.rules.RuleFault.{RuleFault}

-- a rule
abbrev pub rule_of : Rule → check.Rule
rule_of rule.Field = check.Rule.Field
rule_of rule.Opcode = check.Rule.Opcode
rule_of rule.Jump = check.Rule.Jump
rule_of rule.BackJump = check.Rule.BackJump
rule_of rule.Depth = check.Rule.Depth
rule_of rule.Cell = check.Rule.Cell
rule_of rule.Counter = check.Rule.Counter
rule_of rule.Row = check.Rule.Row

-- a rule that is broken, with its place
abbrev pub placed : RuleFault → ℕ × check.Rule
placed f = (f.place, rule_of f.rule)

-- the first rule that is broken, where one is
abbrev pub found : Option RuleFault → Option (ℕ × check.Rule)
found f = option_map placed f
