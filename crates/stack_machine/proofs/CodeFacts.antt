-- What a code that breaks no rule has for a machine.
use Rattle.std.proofs.Common.{◌≡◌, refl, sym, subst, ℕ, zero, suc, ◌+◌, ◌≤◌, ◌||◌, true, List, [], ◌∷◌, length, Option}
use Rattle.std.proofs.Common.{Some, None, T, arith}
use Rattle.std.specs.Prelude.{ℤ, nat_lt, nat_le, int_le, slice_get}
use Rattle.std.specs.List.{All}
use Rattle.std.proofs.lemmas.Bool.{leb-true}
use Rattle.std.proofs.lemmas.Option.{same_Some, none-some}
use lib.Signed.{le_z_yes}
use Rattle.int_ops.specs.Ranges.{IsNumber, least, greatest}
use Rattle.int_ops.specs.declared.types.IntType.TheVariants as type
use Rattle.stack_ops.specs.declared.operation.Op.{Op}
use Rattle.stack_ops.specs.declared.operation.Op.TheVariants as op
use Rattle.stack_ops.specs.Code.{FunctionValue, CodeValue}
use Rattle.cov_base.specs.Limits.{parameter_limit, arc_limit}
use Rattle.code_runs.specs.Limits.{cell_limit, depth_limit, path_limit, number_limit, instruction_limit}
use Rattle.code_runs.specs.Checks.{Rule, broken}
use Rattle.code_runs.specs.CodeChecks.{is_number, number_there, unless_at, globals_fault, numbers_fault, limits_kept}
use Rattle.code_runs.specs.CodeChecks.{counts_nothing, fields_kept, numbers_in, of_table, function_items, functions_items, items_fault}
use Rattle.code_runs.specs.CodeChecks.{counted_from, row_fault, function_values, functions_values, values_fault}
use Rattle.code_runs.specs.CodeChecks.{code_fault}
use Rattle.code_runs.specs.Counts.{sizes}
use Rattle.code_runs.specs.Sound.{Sound}
use Rattle.code_runs.specs.Tables.{TableFault, layout_fault, table_word}
use Rattle.code_runs.proofs.CheckLaws.{or-none, and-both}
use Rattle.code_runs.proofs.CodeLaws.{unless_at-none, checked_is_sound}
use Rattle.stack_machine.specs.Ready.{NumberFits}
use Rattle.stack_machine.specs.Tables.{TableFits}
use Rattle.stack_machine.proofs.TableLaws.{table_fits}

is_number-yes : (n : ℤ) → is_number n ≡ true → IsNumber n
is_number-yes n h =
    let both = and-both (int_le (least type.Long) n) (int_le n (greatest type.UnsignedLong)) h in
    (le_z_yes (subst T (sym both.0) tt), le_z_yes (subst T (sym both.1) tt))

numbers_kept : (ns : List ℤ) → globals_fault ns ≡ None → All IsNumber ns
numbers_kept [] h k d lt = absurd (omega (arith, lt))
numbers_kept (n ∷ ns) h zero d lt =
    is_number-yes n (unless_at-none (is_number n) 0 Rule.Field (or-none (unless_at (is_number n) 0 Rule.Field) _ h).0)
numbers_kept (n ∷ ns) h (suc k) d lt =
    numbers_kept ns (or-none (unless_at (is_number n) 0 Rule.Field) _ h).1 k d (omega (arith, lt))

has_number : (o : Op) → number_there o ≡ true → NumberFits o
has_number (op.Push n) h = is_number-yes n h
has_number (op.CaseJump n w) h = is_number-yes n h
has_number o h = tt

ops_kept : (at : ℕ) (os : List Op) → numbers_fault at os ≡ None → (i : ℕ) (o : Op) → slice_get os i ≡ Some o → NumberFits o
ops_kept at [] h i o is = absurd (none-some o is)
ops_kept at (x ∷ os) h zero o is =
    subst NumberFits (same_Some x o is) (has_number x
    (unless_at-none (number_there x) at Rule.Opcode (or-none (unless_at (number_there x) at Rule.Opcode) _ h).0))
ops_kept at (x ∷ os) h (suc i) o is =
    ops_kept (suc at) os (or-none (unless_at (number_there x) at Rule.Opcode) _ h).1 i o is

of_table-none : (o : Option TableFault) → of_table o ≡ None → o ≡ None
of_table-none None h = refl
of_table-none (Some (TableFault.TooMany at)) h = absurd (cc)
of_table-none (Some (TableFault.OtherLength at)) h = absurd (cc)

row_fault-none : (o : Option ℕ) → row_fault o ≡ None → o ≡ None
row_fault-none None h = refl
row_fault-none (Some at) h = absurd (cc)

-- what a function that breaks no rule has
pub record FunctionFacts (f : FunctionValue) : Type 0 where
  pub cells : f.cells ≤ 4096
  pub depth : f.depth ≤ 16384
  pub paths : f.paths ≤ 65536
  pub ops : length f.ops ≤ 1048576
  pub numbers : (i : ℕ) (o : Op) → slice_get f.ops i ≡ Some o → NumberFits o
  pub table : TableFits f

function_facts : (c : CodeValue) (k numbers start at : ℕ) (f : FunctionValue) → function_items c k numbers start f ≡ None
    → function_values c at f ≡ None → (start + length f.ops ≤ instruction_limit) × FunctionFacts f
function_facts c k numbers start at f items values =
    let first = or-none (unless_at (fields_kept c numbers start f) k Rule.Field) _ items in
    let fields : fields_kept c numbers start f ≡ true = unless_at-none (fields_kept c numbers start f) k Rule.Field first.0 in
    let both = and-both (limits_kept f) _ fields in
    let others = and-both (c.covered || counts_nothing f) _ both.1 in
    let ends = and-both (nat_le (numbers + numbers_in f) number_limit) (nat_le (start + length f.ops) instruction_limit) others.1 in
    let params = and-both (nat_le f.params f.cells) _ both.0 in
    let some = and-both (nat_lt 0 (length f.ops)) _ params.1 in
    let few = and-both (nat_le f.params parameter_limit) _ some.1 in
    let cells = and-both (nat_le f.cells cell_limit) _ few.1 in
    let depth = and-both (nat_le f.depth depth_limit) _ cells.1 in
    let counters = and-both (nat_le f.counters arc_limit) _ depth.1 in
    let paths = and-both (nat_le f.paths path_limit) _ counters.1 in
    let rest = or-none (numbers_fault start f.ops) _ first.1 in
    let end : start + length f.ops ≤ instruction_limit = leb-true (start + length f.ops) instruction_limit ends.1 in (
      end,
      record {
        cells = leb-true f.cells cell_limit cells.0;
        depth = leb-true f.depth depth_limit depth.0;
        paths = leb-true f.paths path_limit paths.0;
        ops = omega (arith, end);
        numbers = ops_kept start f.ops rest.0;
        table = table_fits f (of_table-none (layout_fault f.paths f.passes f.table) rest.1)
            (row_fault-none (table_word f.paths f.passes f.table)
            (or-none (counted_from at (broken c f)) _ values).1);
      },
    )

functions_facts : (c : CodeValue) (k numbers start at : ℕ) (fs : List FunctionValue) → start ≤ instruction_limit
    → functions_items c k numbers start fs ≡ None → functions_values c at fs ≡ None
    → (start + sizes fs ≤ instruction_limit)
    × ((i : ℕ) (f : FunctionValue) → slice_get fs i ≡ Some f → FunctionFacts f)
functions_facts c k numbers start at [] le items values = (omega (arith, le), λ i f is. absurd (none-some f is))
functions_facts c k numbers start at (g ∷ fs) le items values =
    let a = or-none (function_items c k numbers start g) _ items in
    let b = or-none (function_values c at g) _ values in
    let here = function_facts c k numbers start at g a.0 b.0 in
    let rest = functions_facts c (suc k) (numbers + numbers_in g) (start + length g.ops) (at + length g.ops) fs here.0 a.1 b.1 in
    let r : start + length g.ops + sizes fs ≤ instruction_limit = rest.0 in
    (omega (arith, r), λ i f is. among i f is here.1 rest.1)
  where
    among : (i : ℕ) (f : FunctionValue) → slice_get (g ∷ fs) i ≡ Some f → FunctionFacts g
        → ((i : ℕ) (f : FunctionValue) → slice_get fs i ≡ Some f → FunctionFacts f) → FunctionFacts f
    among zero f is h hs = subst FunctionFacts (same_Some g f is) h
    among (suc i) f is h hs = hs i f is

-- what a code that breaks no rule has
pub record CodeFacts (c : CodeValue) : Type 0 where
  pub sound : Sound c
  pub globals : All IsNumber c.globals
  pub sizes : sizes c.functions ≤ 1048576
  pub functions : (i : ℕ) (f : FunctionValue) → slice_get c.functions i ≡ Some f → FunctionFacts f

pub facts : (c : CodeValue) → code_fault c ≡ None → CodeFacts c
facts c h =
    let both = or-none (items_fault c) (values_fault c) h in
    let globals = or-none _ _ both.0 in
    let items = or-none (globals_fault c.globals) _ globals.1 in
    let values = or-none _ _ both.1 in
    let all = functions_facts c 0 0 0 0 c.functions (omega arith) items.1 values.1 in
    record {
      sound = checked_is_sound c h;
      globals = numbers_kept c.globals items.0;
      sizes = (let r = all.0 in omega (arith, r));
      functions = all.1;
    }

-- what holds of each member of a list by its place holds of all
pub all-of : (P : FunctionValue → Type 0) (fs : List FunctionValue)
    → ((i : ℕ) (f : FunctionValue) → slice_get fs i ≡ Some f → P f) → All P fs
all-of P [] h k d lt = absurd (omega (arith, lt))
all-of P (f ∷ fs) h zero d lt = h 0 f refl
all-of P (f ∷ fs) h (suc k) d lt = all-of P fs (λ i g is. h (suc i) g is) k d (omega (arith, lt))

pub all-at : (P : FunctionValue → Type 0) (fs : List FunctionValue) → All P fs
    → (i : ℕ) (f : FunctionValue) → slice_get fs i ≡ Some f → P f
all-at P [] h i f is = absurd (none-some f is)
all-at P (g ∷ fs) h zero f is = subst P (same_Some g f is) (h 0 g (omega arith))
all-at P (g ∷ fs) h (suc i) f is = all-at P fs (λ k d lt. h (suc k) d (omega (arith, lt))) i f is
