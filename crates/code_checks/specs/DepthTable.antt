-- What leads to the instructions of a function, as a table: for each the jumps so far, and for those that were tested
-- all that leads there.
use Rattle.std.specs.Prelude.{◌≡◌, ℕ, ◌+◌, List, map, take, Option, Some, None, Result, Ok, Err, slice_set, slice_index_or}
use Rattle.stack_ops.specs.declared.operation.Op.{Op}
use Rattle.stack_ops.specs.Code.{FunctionValue, CodeValue}
use Rattle.code_runs.specs.Checks as check
use Rattle.code_runs.specs.Checks.{Led, later, left_by, led_too, depth_of, broken_at, before_next}
use Rattle.code_checks.specs.declared.depth_table.Arrival.{Arrival}
use Rattle.code_checks.specs.declared.depth_table.Arrival.TheVariants as arrival
use Rattle.code_checks.specs.declared.rules.Rule.{Rule}
use Rattle.code_checks.specs.Seen.{rule_of}

-- what leads to an instruction
abbrev pub led_of : Arrival → Led
led_of arrival.Nothing = Led.Nothing
led_of (arrival.With d) = Led.By d
led_of arrival.Clash = Led.Clash

-- what leads to each instruction
abbrev pub leds : List Arrival → List Led
leds table = map led_of table

-- the operands at the first instructions, so many of them
abbrev pub depths_to : ℕ → List Led → List ℕ
depths_to n table = map depth_of (take n table)

-- the instruction before leads there too, where it leads on
abbrev pub with_before : Option ℕ → Led → Led
with_before None l = l
with_before (Some d) l = led_too d l

-- a jump more, where there is one
abbrev pub noted : Option ℕ → ℕ → List Led → List Led
noted None d table = table
noted (Some w) d table = slice_set table w (led_too d (slice_index_or table w Led.Nothing))

-- all that leads to instruction i, to which the one before leads with these operands
abbrev pub led_here : ℕ → Option ℕ → List Led → Led
led_here i before table = with_before before (slice_index_or table i Led.Nothing)

-- the table with all that leads to instruction i
abbrev pub with_here : ℕ → Option ℕ → List Led → List Led
with_here i before table = slice_set table i (led_here i before table)

-- the first rule that instruction i breaks, by the table
abbrev pub rule_by : CodeValue → FunctionValue → ℕ → Op → Option ℕ → List Led → Option check.Rule
rule_by c f i o before table =
    broken_at c f i o (depths_to (i + 1) (with_here i before table)) (led_here i before table)

-- An instruction that breaks no rule leaves operands to the next one, and its jump is in the table.
pub record Goes (c : CodeValue) (f : FunctionValue) (i : ℕ) (o : Op) (before : Option ℕ) (old new : List Led)
    (next : Option ℕ) : Type 0 where
  pub kept : rule_by c f i o before old ≡ None
  pub on : next ≡ before_next c.functions f o (depth_of (led_here i before old))
  pub table : new ≡ noted (later o) (left_by o (depth_of (led_here i before old))) (with_here i before old)

-- what comes of instruction i: it goes on, or breaks a rule
abbrev pub Passes : CodeValue → FunctionValue → ℕ → Op → Option ℕ → List Led → List Led → Result (Option ℕ) Rule
    → Type 0
Passes c f i o before old new (Ok next) = Goes c f i o before old new next
Passes c f i o before old new (Err r) = rule_by c f i o before old ≡ Some (rule_of r)
