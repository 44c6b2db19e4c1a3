-- The rules of the instructions of a function, and the first that is broken.
use Rattle.std.specs.Prelude.{
  ℕ,
  suc,
  ◌+◌,
  ◌-◌,
  ◌==◌,
  ◌&&◌,
  ◌||◌,
  not,
  nat_lt,
  nat_le,
  Bool,
  true,
  false,
  cond,
  List,
  [],
  ◌∷◌,
  ◌++◌,
  length,
  Option,
  Some,
  None,
  slice_get,
}
use Rattle.std.specs.Option.{option_or}
use Rattle.stack_ops.specs.declared.operation.Op.{Op}
use Rattle.stack_ops.specs.declared.operation.Op.TheVariants as op
use Rattle.stack_ops.specs.Code.{FunctionValue, CodeValue}
use Rattle.stack_ops.specs.Shapes.{takes_in, gives_in, given_by}

-- A rule that a code may break. Field is about the numbers of a function or of the code, Opcode about the numbers of an
-- instruction; the others are about instructions among others, and Row about a table too.
pub data Rule : Type 0 where
  Field : Rule
  Opcode : Rule
  Jump : Rule
  BackJump : Rule
  Depth : Rule
  Cell : Rule
  Counter : Rule
  Row : Rule

-- the later instruction to which an instruction may go
abbrev pub later : Op → Option ℕ
later (op.Jump w) = Some w
later (op.IfZero w) = Some w
later (op.IfNot w) = Some w
later (op.CaseJump n w) = Some w
later o = None

-- the earlier one, or itself
abbrev pub earlier : Op → Option ℕ
earlier (op.Back w) = Some w
earlier o = None

-- an instruction leads to the one behind it
abbrev pub falls : Op → Bool
falls (op.Jump w) = false
falls (op.Back w) = false
falls op.Return = false
falls op.Exit = false
falls o = true

-- how many operands are left where an instruction goes to its later one, if there were so many
abbrev pub left_by : Op → ℕ → ℕ
left_by (op.Jump w) d = d
left_by o d = d - 1

-- how many operands are left behind an instruction, if there were so many
abbrev pub behind : List FunctionValue → FunctionValue → Op → ℕ → ℕ
behind functions f o d = d - takes_in functions f o + gives_in functions o

-- the cells and globals of an instruction are in range, and the function that it calls is there
abbrev pub cells_there : CodeValue → FunctionValue → Op → Bool
cells_there c f (op.LoadLocal w) = nat_lt w f.cells
cells_there c f (op.StoreLocal w) = nat_lt w f.cells
cells_there c f (op.LoadGlobal w) = nat_lt w (length c.globals)
cells_there c f (op.StoreGlobal w) = nat_lt w (length c.globals)
cells_there c f (op.LoadLocalAt base size) = nat_le (base + size) f.cells
cells_there c f (op.StoreLocalAt base size) = nat_le (base + size) f.cells
cells_there c f (op.LoadGlobalAt base size) = nat_le (base + size) (length c.globals)
cells_there c f (op.StoreGlobalAt base size) = nat_le (base + size) (length c.globals)
cells_there c f (op.Call g line) = nat_lt g (length c.functions)
cells_there c f o = true

-- the counter of an instruction is one of the function's
abbrev pub counter_there : FunctionValue → Op → Bool
counter_there f (op.Count n) = nat_lt n f.counters
counter_there f o = true

-- the function has paths, and the row of an instruction is one of the function's
abbrev pub row_there : FunctionValue → Op → Bool
row_there f op.PathBegin = nat_lt 0 f.paths
row_there f (op.PathPass w) = nat_lt 0 f.paths && nat_lt w f.passes
row_there f o = true

-- a later instruction is behind this one and in the function
abbrev pub goes_later : ℕ → ℕ → Option ℕ → Bool
goes_later i size None = true
goes_later i size (Some w) = nat_lt i w && nat_lt w size

-- the last instruction doesn't lead to the one behind it
abbrev pub ends_well : ℕ → ℕ → Op → Bool
ends_well i size o = not (falls o) || nat_lt (suc i) size

-- an earlier instruction isn't behind this one
abbrev pub goes_earlier : ℕ → Option ℕ → Bool
goes_earlier i None = true
goes_earlier i (Some w) = nat_le w i

-- so many operands are there, where it is known how many are
abbrev pub is_at : ℕ → Option ℕ → Bool
is_at d None = false
is_at d (Some e) = d == e

-- the earlier instruction has as many operands
abbrev pub same_depth : List ℕ → ℕ → Option ℕ → Bool
same_depth depths d None = true
same_depth depths d (Some w) = is_at d (slice_get depths w)

-- Return has just the number that the function gives, or none
abbrev pub returns_well : FunctionValue → Op → ℕ → Bool
returns_well f op.Return d = d == given_by f
returns_well f o d = true

-- ---- depths

-- What leads to an instruction: nothing, ways that agree on a number of operands, or ways that don't.
pub data Led : Type 0 where
  Nothing : Led
  By : ℕ → Led
  Clash : Led

-- a way more leads there, with so many operands
abbrev pub led_too : ℕ → Led → Led
led_too d Nothing = By d
led_too d (By e) = cond (d == e) (By d) Clash
led_too d Clash = Clash

-- the instruction before leads there with so many operands, or doesn't
abbrev pub led_before : Option ℕ → Led
led_before None = Nothing
led_before (Some d) = By d

-- What leads to instruction i: the one before, and the earlier jumps, each with its target and the operands that it
-- leaves.
abbrev pub led : ℕ → Option ℕ → List (ℕ × ℕ) → Led
led i before [] = led_before before
led i before (j ∷ jumps) = cond (j.0 == i) (led_too j.1 (led i before jumps)) (led i before jumps)

-- a jump more, where there is one
abbrev pub add_jump : Option ℕ → ℕ → List (ℕ × ℕ) → List (ℕ × ℕ)
add_jump None d jumps = jumps
add_jump (Some w) d jumps = (w, d) ∷ jumps

-- the jumps up to and with an instruction that has so many operands
abbrev pub jumps_on : Op → ℕ → List (ℕ × ℕ) → List (ℕ × ℕ)
jumps_on o d jumps = add_jump (later o) (left_by o d) jumps

-- what an instruction with so many operands leaves to the one behind it
abbrev pub before_next : List FunctionValue → FunctionValue → Op → ℕ → Option ℕ
before_next functions f o d = cond (falls o) (Some (behind functions f o d)) None

-- a rule is broken, unless a test holds
abbrev pub unless : Bool → Rule → Option Rule
unless true r = None
unless false r = Some r

-- The rule of depths at an instruction with so many operands: the operands are there, the function's depth isn't
-- passed, Return has what the function gives, and the target of Back has as many.
abbrev pub depth_kept : CodeValue → FunctionValue → List ℕ → Op → ℕ → Bool
depth_kept c f depths o d =
    nat_le (takes_in c.functions f o) d
    && (nat_le d f.depth
    && (nat_le (behind c.functions f o d) f.depth && (returns_well f o d && same_depth depths d (earlier o))))

-- the rule of depths at an instruction to which something leads
abbrev pub by_depth : CodeValue → FunctionValue → List ℕ → Op → Led → Option Rule
by_depth c f depths o Nothing = Some Depth
by_depth c f depths o (By d) = unless (depth_kept c f depths o d) Depth
by_depth c f depths o Clash = Some Depth

-- The first rule that instruction i breaks. `depths` are the operands at the instructions up to and with this one. No
-- function ends in an instruction that leads behind it, nor in a Jump, which has no later instruction to go to.
abbrev pub broken_at : CodeValue → FunctionValue → ℕ → Op → List ℕ → Led → Option Rule
broken_at c f i o depths led =
    option_or (unless (goes_later i (length f.ops) (later o) && ends_well i (length f.ops) o) Jump)
    (option_or (unless (goes_earlier i (earlier o)) BackJump)
    (option_or (by_depth c f depths o led)
    (option_or (unless (cells_there c f o) Cell)
    (option_or (unless (counter_there f o) Counter) (unless (row_there f o) Row)))))

-- the operands at an instruction to which this leads
abbrev pub depth_of : Led → ℕ
depth_of Nothing = 0
depth_of (By d) = d
depth_of Clash = 0

-- the rule that instruction i breaks, or what the later ones break
abbrev pub or_later : ℕ → Option Rule → Option (ℕ × Rule) → Option (ℕ × Rule)
or_later i (Some r) rest = Some (i, r)
or_later i None rest = rest

-- The first of these instructions that breaks a rule, with the rule. The i instructions before them have `depths` as
-- their operands, the last of these leaves `before`, and `jumps` are their jumps.
abbrev pub broken_from :
    CodeValue → FunctionValue → ℕ → List ℕ → Option ℕ → List (ℕ × ℕ) → List Op → Option (ℕ × Rule)
broken_from c f i depths before jumps [] = None
broken_from c f i depths before jumps (o ∷ os) =
    let l : Led = led i before jumps in
    let d : ℕ = depth_of l in
    or_later i (broken_at c f i o (depths ++ d ∷ []) l)
    (broken_from c f (suc i) (depths ++ d ∷ []) (before_next c.functions f o d) (jumps_on o d jumps) os)

-- the first instruction of a function that breaks a rule, with the rule
abbrev pub broken : CodeValue → FunctionValue → Option (ℕ × Rule)
broken c f = broken_from c f 0 [] (Some 0) [] f.ops
